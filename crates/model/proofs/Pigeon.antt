-- The pigeonhole: of more messages than were chosen, one was not; what a look that misses rests on.
use mathlib.Core.Path.{◌≡◌, refl, ◌∙◌, sym, ap}
use mathlib.Core.Logic.{◌⊎◌, inr, inl, ◌≢◌}
use mathlib.Core.Bool.{Bool, true, false, ◌&&◌, not}
use mathlib.Core.List.{List}
use Prim.Native.Nat.{ℕ, ◌<◌, zero, suc, ◌≤◌}
use borrow.Author.Tests.{eq-eqb, ne_eqb, eqb-true}
use lib.Dec.{eqb}
use lib.ListN.{length, get_or}
use native.Mathlib.Omega.{arith}
use Rattle.model.specs.Basics.{pick, first_by, is_in}
use Rattle.model.proofs.Tests.{same?, never, both}
use Rattle.model.proofs.Lists.{is_in-nth, first-in, first_passes}

pub found : (k : ℕ) (f : ℕ → Bool) → ((j : ℕ) × (j < k) × (f j ≡ true)) ⊎ ((j : ℕ) → j < k → f j ≡ false)
found zero f = inr (λ j h. absurd (omega arith))
found (suc k) f = go (f k) refl (found k f)
  where
    go : (t : Bool) → f k ≡ t → ((j : ℕ) × (j < k) × (f j ≡ true)) ⊎ ((j : ℕ) → j < k → f j ≡ false)
        → ((j : ℕ) × (j < suc k) × (f j ≡ true)) ⊎ ((j : ℕ) → j < suc k → f j ≡ false)
    go true e r = inl (k, omega arith, e)
    go false e (inl r) = inl (r.0, omega (arith, r.1), r.2)
    go false e (inr r) = inr all
      where
        all : (j : ℕ) → j < suc k → f j ≡ false
        all j h = at (same? j k)
          where
            at : (j ≡ k) ⊎ (j ≢ k) → f j ≡ false
            at (inl q) = rw q e
            at (inr q) = r j (omega arith)

-- no function sends 0 .. k one to one below k
abbrev move : (ℕ → ℕ) → ℕ → ℕ → ℕ
move f k j = pick (eqb (f j) k) (f (suc k)) (f j)

pub pigeon : (k : ℕ) (f : ℕ → ℕ) → ((j : ℕ) → j ≤ k → f j < k) → ((i j : ℕ) → i ≤ k → j ≤ k → f i ≡ f j → i ≡ j) → ⊥
pigeon zero f lt inj = omega (arith, lt 0 (omega arith))
pigeon (suc k) f lt inj = pigeon k (move f k) low one
  where
    at : (j : ℕ) → (f j ≡ k) ⊎ (f j ≢ k)
    at j = same? (f j) k

    low : (j : ℕ) → j ≤ k → move f k j < k
    low j h = go (at j)
      where
        go : (f j ≡ k) ⊎ (f j ≢ k) → move f k j < k
        go (inl e) = rw (eq-eqb (f j) k e) (go2 (at (suc k)))
          where
            go2 : (f (suc k) ≡ k) ⊎ (f (suc k) ≢ k) → f (suc k) < k
            go2 (inl q) = absurd (omega (arith, inj j (suc k) (omega arith) (omega arith) (e ∙ sym q)))
            go2 (inr q) = omega (arith, lt (suc k) (omega arith))
        go (inr e) = rw (ne_eqb (f j) k e) (omega (arith, lt j (omega arith)))

    one : (i j : ℕ) → i ≤ k → j ≤ k → move f k i ≡ move f k j → i ≡ j
    one i j hi hj e = go (at i) (at j) e
      where
        go : (f i ≡ k) ⊎ (f i ≢ k) → (f j ≡ k) ⊎ (f j ≢ k) → move f k i ≡ move f k j → i ≡ j
        go (inl p) (inl q) e = inj i j (omega arith) (omega arith) (p ∙ sym q)
        go (inl p) (inr q) e =
            absurd
            (omega (arith, inj (suc k) j (omega arith) (omega arith) (rw (eq-eqb (f i) k p, ne_eqb (f j) k q) at e)))
        go (inr p) (inl q) e =
            absurd
            (omega (arith, inj i (suc k) (omega arith) (omega arith) (rw (ne_eqb (f i) k p, eq-eqb (f j) k q) at e)))
        go (inr p) (inr q) e = inj i j (omega arith) (omega arith) (rw (ne_eqb (f i) k p, ne_eqb (f j) k q) at e)

-- a mark g on the places; k + 1 distinct numbers by place, and a list of k whose marks by place are the same: some
-- number at a place with k's mark is not in the list
module _ (g h : ℕ → ℕ) (ns : ℕ → ℕ) (c : List ℕ) (k : ℕ)
    (size : length c ≡ k)
    (marks : (j : ℕ) → j < k → h (get_or c j 0) ≡ g j)
    (marks' : (j : ℕ) → j ≤ k → h (ns j) ≡ g j)
    (one : (i j : ℕ) → i ≤ k → j ≤ k → ns i ≡ ns j → i ≡ j) where
  place : ℕ → ℕ
  place j = first_by (eqb (ns j)) c

  sent : ℕ → ℕ
  sent j = pick (eqb (g j) (g k)) (place j) j

  module _ (all : (j : ℕ) → j ≤ k → g j ≡ g k → is_in (ns j) c ≡ true) where
    place_is : (j : ℕ) → j ≤ k → g j ≡ g k → (place j < k) × (get_or c (place j) 0 ≡ ns j)
    unfolding place
    place_is j l e =
        let r = is_in-nth (ns j) c (all j l e) in
        let p : first_by (eqb (ns j)) c ≤ r.0 = first-in (eqb (ns j)) c r.0 r.1 (eq-eqb (ns j) _ (sym r.2)) in
        (omega (arith, r.1), sym (eqb-true (ns j) _ (first_passes (eqb (ns j)) c (omega (arith, r.1)))))

    place-mark : (j : ℕ) → j ≤ k → g j ≡ g k → g (place j) ≡ g k
    place-mark j l e = let r = place_is j l e in sym (marks (place j) r.0) ∙ ap h r.1 ∙ marks' j l ∙ e

    low : (j : ℕ) → j ≤ k → (g j ≡ g k) ⊎ (g j ≢ g k) → sent j < k
    unfolding sent
    low j l (inl e) = rw (eq-eqb (g j) (g k) e) (place_is j l e).0
    low j l (inr e) = rw (ne_eqb (g j) (g k) e) (at (same? j k))
      where
        at : (j ≡ k) ⊎ (j ≢ k) → j < k
        at (inl q) = absurd (e (ap g q))
        at (inr q) = omega arith

    sent-one : (i j : ℕ) → i ≤ k → j ≤ k → (g i ≡ g k) ⊎ (g i ≢ g k) → (g j ≡ g k) ⊎ (g j ≢ g k) → sent i ≡ sent j
        → i ≡ j
    unfolding sent
    sent-one i j a b (inl p) (inl q) e =
        one i j a b (sym (place_is i a p).1
        ∙ ap (λ x. get_or c x 0) (rw (eq-eqb (g i) (g k) p, eq-eqb (g j) (g k) q) at e)
        ∙ (place_is j b q).1)
    sent-one i j a b (inl p) (inr q) e =
        absurd (q (sym (ap g (rw (eq-eqb (g i) (g k) p, ne_eqb (g j) (g k) q) at e)) ∙ place-mark i a p))
    sent-one i j a b (inr p) (inl q) e =
        absurd (p (ap g (rw (ne_eqb (g i) (g k) p, eq-eqb (g j) (g k) q) at e) ∙ place-mark j b q))
    sent-one i j a b (inr p) (inr q) e = rw (ne_eqb (g i) (g k) p, ne_eqb (g j) (g k) q) at e

    none_left : ⊥
    none_left =
        pigeon k sent (λ j l. low j l (same? (g j) (g k)))
        (λ i j a b. sent-one i j a b (same? (g i) (g k)) (same? (g j) (g k)))

  pub one_left : (j : ℕ) × (j ≤ k) × (g j ≡ g k) × (is_in (ns j) c ≡ false)
  one_left = go (found (suc k) (λ j. eqb (g j) (g k) && not (is_in (ns j) c)))
    where
      un_not : (t : Bool) → not t ≡ true → t ≡ false
      un_not true e = sym e
      un_not false e = refl

      un-and : (t u : Bool) → (t && not u) ≡ false → t ≡ true → u ≡ true
      un-and true true e p = refl
      un-and true false e p = sym e
      un-and false u e p = never p

      go : ((j : ℕ) × (j < suc k) × ((eqb (g j) (g k) && not (is_in (ns j) c)) ≡ true))
          ⊎ ((j : ℕ) → j < suc k → (eqb (g j) (g k) && not (is_in (ns j) c)) ≡ false)
          → (j : ℕ) × (j ≤ k) × (g j ≡ g k) × (is_in (ns j) c ≡ false)
      go (inl r) =
          let e = both {t = eqb (g r.0) (g k)} r.2 in
          (r.0, omega (arith, r.1), eqb-true _ _ e.0, un_not _ e.1)
      go (inr r) =
          absurd (none_left (λ j l e. un-and (eqb (g j) (g k)) (is_in (ns j) c) (r j (omega arith)) (eq-eqb _ _ e)))
