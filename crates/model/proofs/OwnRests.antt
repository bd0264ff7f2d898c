-- The backoff table that a board was opened with: what it is to pass, that no call alters it, and that a schedule's
-- boards are sound exactly if it passes.
use mathlib.Core.Path.{◌≡◌, refl}
use mathlib.Core.Bool.{true}
use mathlib.Core.List.{List, [], ◌∷◌}
use Prim.Native.Nat.{ℕ, zero, suc, ◌<◌, ◌≤◌}
use borrow.Author.Tests.{eqb-true, eq-eqb, leb-true, le-leb}
use lib.Dec.{leb, eqb}
use lib.ListN.{length, get_or}
use native.Mathlib.Omega.{arith}
use Rattle.model.specs.Basics.{every}
use Rattle.model.specs.Boards.{backoffs_pass, never_falls}
use Rattle.model.specs.Demands.{Passing, OwnRests}
use Rattle.model.proofs.Tests.{and, both}
use Rattle.model.proofs.Lists.{every-nth, nth-every}
use Rattle.model.proofs.Backoffs.{builtin-passes}
use Rattle.model.proofs.StepFrame.{all-rests}
use Rattle.model.proofs.SoundFacts.{sound-rests}
use Rattle.model.proofs.SoundKept.{sound-exactly}

-- a table that passes, entry by entry
rises : (rests : List ℕ) → never_falls rests ≡ true → (k : ℕ) → suc k < length rests
    → get_or rests k 0 ≤ get_or rests (suc k) 0
rises [] e k l = absurd (omega arith)
rises (x ∷ []) e k l = absurd (omega arith)
rises (x ∷ y ∷ ys) e zero l = leb-true x y (both {t = leb x y} e).0
rises (x ∷ y ∷ ys) e (suc k) l = rises (y ∷ ys) (both {t = leb x y} e).1 k (omega arith)

never-falls : (rests : List ℕ) → ((k : ℕ) → suc k < length rests → get_or rests k 0 ≤ get_or rests (suc k) 0)
    → never_falls rests ≡ true
never-falls [] f = refl
never-falls (x ∷ []) f = refl
never-falls (x ∷ y ∷ ys) f =
    and (le-leb x y (f 0 (omega arith))) (never-falls (y ∷ ys) (λ k l. f (suc k) (omega arith)))

passing : (rests : List ℕ) → backoffs_pass rests ≡ true → Passing rests
unfolding backoffs_pass
passing rests e =
    let a = both {t = eqb (length rests) 16} e in
    let c = both {t = every (λ k. leb k 64) rests} a.1 in
    let z = eqb-true (length rests) 16 a.0 in
    record {
      sixteen = z;
      at_most_64 = λ k l. leb-true _ _ (every-nth (λ k. leb k 64) rests 0 c.0 k (omega arith));
      never_less = λ k l. rises rests c.1 k (omega arith);
    }

passes : (rests : List ℕ) → Passing rests → backoffs_pass rests ≡ true
unfolding backoffs_pass
passes rests p =
    and (eq-eqb _ _ p.sixteen)
    (and (nth-every (λ k. leb k 64) rests 0 (λ k l. le-leb _ _ (p.at_most_64 k (omega (arith, p.sixteen)))))
    (never-falls rests (λ k l. p.never_less k (omega (arith, p.sixteen)))))

pub own-rests : OwnRests
own-rests = record {
  there = passing;
  back = passes;
  builtin = builtin-passes;
  asked = sound-rests;
  kept = λ t b cs. all-rests t cs b;
  exactly = sound-exactly;
}
