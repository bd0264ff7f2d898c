-- Rest tables: the built-in one passes, none that passes has an entry over 64, and a job's k-th retry rests as the
-- table says at k, from the sixteenth on as it says there.
use mathlib.Core.Path.{◌≡◌, refl, ap, sym, ◌∙◌}
use mathlib.Core.Bool.{Bool, true, false}
use mathlib.Core.List.{List}
use Prim.Native.Nat.{ℕ, zero, suc, ◌-◌, ◌≤◌, min}
use borrow.Author.Tests.{ltb-true, ltb-false, leb-true, leb-false}
use lib.Dec.{ltb, leb, eqb}
use lib.ListN.{length, get_or, get_or-eq_default}
use native.Mathlib.Omega.{arith}
use Rattle.model.specs.Basics.{every, pick}
use Rattle.model.specs.Boards.{backoff_at, backoffs_pass, builtin_backoffs}
use Rattle.model.specs.Steps.{more, pass_end_step}
use Rattle.model.specs.Orders.{times, BackoffsInOrder}
use Rattle.model.proofs.Tests.{both}
use Rattle.model.proofs.Lists.{every-nth}

pub builtin-passes : backoffs_pass builtin_backoffs ≡ true
unfolding backoffs_pass builtin_backoffs
builtin-passes = refl

pub few-rests : (rests : List ℕ) → backoffs_pass rests ≡ true → (k : ℕ) → backoff_at rests k ≤ 64
unfolding backoffs_pass backoff_at
few-rests rests e k = go (ltb (k - 1) (length rests)) refl
  where
    small : every (λ x. leb x 64) rests ≡ true
    small = (both {t = every (λ x. leb x 64) rests} (both {t = eqb (length rests) 16} e).1).0

    go : (u : Bool) → ltb (k - 1) (length rests) ≡ u → get_or rests (k - 1) 0 ≤ 64
    go true x = leb-true _ _ (every-nth (λ x. leb x 64) rests 0 small (k - 1) (ltb-true _ _ x))
    go false x = omega (arith, get_or-eq_default rests 0 {n = k - 1} (ltb-false _ _ x))

more-min : (k : ℕ) → more (min k 16) ≡ min (suc k) 16
unfolding more
more-min k = go (leb 16 (min k 16)) refl
  where
    go : (u : Bool) → leb 16 (min k 16) ≡ u → pick u 16 (suc (min k 16)) ≡ min (suc k) 16
    go true e = omega (arith, leb-true 16 (min k 16) e)
    go false e = omega (arith, leb-false 16 (min k 16) e)

times_is : (k : ℕ) → times k ≡ min k 16
times_is zero = refl
times_is (suc k) = ap more (times_is k) ∙ more-min k

pub backoffs-in-order : BackoffsInOrder
unfolding builtin_backoffs backoff_at more pass_end_step
backoffs-in-order = record {
  times_is = times_is;
  rests = λ t b d w k e o. rw (o, e, sym (times_is (suc k)));
  builtin = refl;
  builtin_last = λ k l. let e : min k 16 ≡ 16 = omega arith in rw (times_is k, e);
}
