-- The pool's tests as facts by position, and back; membership after one goes in and after some leave.
use mathlib.Core.Path.{◌≡◌, refl, sym, ap, ◌∙◌, subst}
use mathlib.Core.Logic.{◌⊎◌, inl, inr}
use mathlib.Core.Bool.{true, not, Bool, false, ◌||◌}
use mathlib.Core.List.{List, [], ◌∷◌, ◌++◌}
use Prim.Native.Nat.{ℕ, ◌<◌, suc, zero}
use borrow.Author.Tests.{not-true, eq-eqb, eqb-true, ne_eqb, eqb-false}
use lib.Dec.{eqb}
use lib.IntN.{ℤ, pos, negsuc}
use lib.ListN.{length, get_or}
use native.Mathlib.Nat.{not-suc-le-zero, le_of_suc-le-suc}
use native.Mathlib.Omega.{arith}
use Rattle.model.specs.Basics.{is_in, pick}
use Rattle.model.specs.Boards.{Sent}
use Rattle.model.specs.Pools.{distinct, channels_meet, without, same_z}
use Rattle.model.proofs.Tests.{and, both, never, or_right, either, neither}
use Rattle.model.proofs.Lists.{is_in-nth, not_in}

abbrev pub One : List ℕ → Type 0
One ns = (i j : ℕ) → i < length ns → j < length ns → get_or ns i 0 ≡ get_or ns j 0 → i ≡ j

pub one-distinct : (ns : List ℕ) → One ns → distinct ns ≡ true
one-distinct [] f = refl
one-distinct (n ∷ ns) f =
    and {t = not (is_in n ns)} (go (is_in n ns) refl)
    (one-distinct ns
    (λ i j p q e. let z : suc i ≡ suc j = f (suc i) (suc j) (omega arith) (omega arith) e in omega arith))
  where
    go : (u : Bool) → is_in n ns ≡ u → not u ≡ true
    go false e = refl
    go true e =
        let r = is_in-nth n ns e in
        absurd (omega (arith, f 0 (suc r.0) (omega arith) (omega (arith, r.1)) (sym r.2)))

pub distinct-one : (ns : List ℕ) → distinct ns ≡ true → One ns
distinct-one [] e i j p q f = absurd (not-suc-le-zero p)
distinct-one (n ∷ ns) e zero zero p q f = refl
distinct-one (n ∷ ns) e zero (suc j) p q f =
    absurd (not_in n ns (not-true _ (both {t = not (is_in n ns)} e).0) j (le_of_suc-le-suc q) (sym f))
distinct-one (n ∷ ns) e (suc i) zero p q f =
    absurd (not_in n ns (not-true _ (both {t = not (is_in n ns)} e).0) i (le_of_suc-le-suc p) f)
distinct-one (n ∷ ns) e (suc i) (suc j) p q f =
    ap suc (distinct-one ns (both {t = not (is_in n ns)} e).1 i j (le_of_suc-le-suc p) (le_of_suc-le-suc q) f)

module _ (sent : ℕ → Sent) where
  pub channels-true : (ms ns : List ℕ)
      → length ns ≡ length ms
      → ((j : ℕ) → j < length ns → (sent (get_or ns j 0)).channel ≡ get_or ms j 0)
      → channels_meet sent ms ns ≡ true
  channels-true [] [] e f = refl
  channels-true [] (n ∷ ns) e f = absurd (omega arith)
  channels-true (m ∷ ms) [] e f = absurd (omega arith)
  channels-true (m ∷ ms) (n ∷ ns) e f =
      and (eq-eqb _ _ (f 0 (omega arith))) (channels-true ms ns (omega arith) (λ j l. f (suc j) (omega arith)))

  pub true-channels : (ms ns : List ℕ)
      → channels_meet sent ms ns ≡ true
      → (length ns ≡ length ms) × ((j : ℕ) → j < length ns → (sent (get_or ns j 0)).channel ≡ get_or ms j 0)
  true-channels [] [] e = (refl, λ j l. absurd (not-suc-le-zero l))
  true-channels [] (n ∷ ns) e = never e
  true-channels (m ∷ ms) [] e = never e
  true-channels (m ∷ ms) (n ∷ ns) e =
      let p = both {t = eqb (sent n).channel m} e in
      let r = true-channels ms ns p.1 in
      (ap suc r.0, at (eqb-true _ _ p.0) r.1)
    where
      at : (sent n).channel ≡ m
          → ((j : ℕ) → j < length ns → (sent (get_or ns j 0)).channel ≡ get_or ms j 0)
          → (j : ℕ) → j < suc (length ns) → (sent (get_or (n ∷ ns) j 0)).channel ≡ get_or (m ∷ ms) j 0
      at z f zero l = z
      at z f (suc j) l = f j (le_of_suc-le-suc l)

-- membership
pub in-snoc : (n m : ℕ) (xs : List ℕ) → is_in n (xs ++ (m ∷ [])) ≡ (is_in n xs || eqb n m)
in-snoc n m [] = go (eqb n m)
  where
    go : (u : Bool) → (u || false) ≡ u
    go true = refl
    go false = refl
in-snoc n m (x ∷ xs) = go (eqb n x) (in-snoc n m xs)
  where
    go : (u : Bool) → is_in n (xs ++ (m ∷ [])) ≡ (is_in n xs || eqb n m)
        → (u || is_in n (xs ++ (m ∷ []))) ≡ ((u || is_in n xs) || eqb n m)
    go true ih = refl
    go false ih = ih

pub in_without : (n : ℕ) (ys xs : List ℕ) → is_in n (without ys xs) ≡ true → (is_in n xs ≡ true) × (is_in n ys ≡ false)
in_without n ys [] e = never e
in_without n ys (x ∷ xs) e = go (is_in x ys) refl e (in_without n ys xs)
  where
    go : (u : Bool) → is_in x ys ≡ u
        → is_in n (pick u (without ys xs) (x ∷ without ys xs)) ≡ true
        → (is_in n (without ys xs) ≡ true → (is_in n xs ≡ true) × (is_in n ys ≡ false))
        → (is_in n (x ∷ xs) ≡ true) × (is_in n ys ≡ false)
    go true q e ih = let r = ih e in (or_right (eqb n x) r.0, r.1)
    go false q e ih = at (either {t = eqb n x} e)
      where
        at : (eqb n x ≡ true) ⊎ (is_in n (without ys xs) ≡ true) → (is_in n (x ∷ xs) ≡ true) × (is_in n ys ≡ false)
        at (inl z) = (rw z, ap (λ (y : ℕ). is_in y ys) (eqb-true n x z) ∙ q)
        at (inr z) = let r = ih z in (or_right (eqb n x) r.0, r.1)

pub without_in : (n : ℕ) (ys xs : List ℕ) → is_in n xs ≡ true → is_in n ys ≡ false → is_in n (without ys xs) ≡ true
without_in n ys [] e f = e
without_in n ys (x ∷ xs) e f = go (is_in x ys) refl (either {t = eqb n x} e) (λ z. without_in n ys xs z f)
  where
    go : (u : Bool) → is_in x ys ≡ u
        → (eqb n x ≡ true) ⊎ (is_in n xs ≡ true)
        → (is_in n xs ≡ true → is_in n (without ys xs) ≡ true)
        → is_in n (pick u (without ys xs) (x ∷ without ys xs)) ≡ true
    go true q (inl z) ih = never (sym f ∙ ap (λ (y : ℕ). is_in y ys) (eqb-true n x z) ∙ q)
    go true q (inr z) ih = ih z
    go false q (inl z) ih = rw z
    go false q (inr z) ih = or_right (eqb n x) (ih z)

pub snoc-distinct : (xs : List ℕ) (n : ℕ) → distinct xs ≡ true → is_in n xs ≡ false → distinct (xs ++ (n ∷ [])) ≡ true
snoc-distinct [] n d e = refl
snoc-distinct (x ∷ xs) n d e =
    let p = both {t = not (is_in x xs)} d in
    let q = neither {t = eqb n x} e in
    and {t = not (is_in x (xs ++ (n ∷ [])))}
    (rw (in-snoc x n xs, not-true (is_in x xs) p.0, ne_eqb x n (λ z. eqb-false n x q.0 (sym z))))
    (snoc-distinct xs n p.1 q.1)

pub without-distinct : (ys xs : List ℕ) → distinct xs ≡ true → distinct (without ys xs) ≡ true
without-distinct ys [] e = refl
without-distinct ys (x ∷ xs) e =
    let p = both {t = not (is_in x xs)} e in
    go (is_in x ys) (not-true _ p.0) (without-distinct ys xs p.1)
  where
    fresh : (u : Bool) → is_in x xs ≡ false → is_in x (without ys xs) ≡ u → not u ≡ true
    fresh true e z = never (sym e ∙ (in_without x ys xs z).0)
    fresh false e z = refl

    go : (u : Bool) → is_in x xs ≡ false
        → distinct (without ys xs) ≡ true
        → distinct (pick u (without ys xs) (x ∷ without ys xs)) ≡ true
    go true e ih = ih
    go false e ih = and {t = not (is_in x (without ys xs))} (fresh (is_in x (without ys xs)) e refl) ih

pub same_z-refl : (z w : ℤ) → z ≡ w → same_z z w ≡ true
same_z-refl z w e = subst (λ (x : ℤ). same_z z x ≡ true) e (go z)
  where
    go : (z : ℤ) → same_z z z ≡ true
    go (pos a) = eq-eqb a a refl
    go (negsuc a) = eq-eqb a a refl
