-- Laws of the order of messages by day and number, and of the first in it of those that pass (rule 4.2).
use mathlib.Core.Path.{◌≡◌, refl, sym, ◌∙◌}
use mathlib.Core.Logic.{◌⊎◌, inl, inr, ◌≢◌, ⊎_elim}
use mathlib.Core.Bool.{Bool, true, false}
use mathlib.Core.List.{List, [], ◌∷◌}
use Prim.Native.Nat.{ℕ, zero, suc, ◌+◌, ◌<◌}
use borrow.Author.Tests.{eq-eqb, eqb-true, lt-ltb, ltb-true, ltb-false}
use lib.Dec.{eqb, ltb}
use lib.ListN.{length, get_or}
use native.Mathlib.Nat.{not-suc-le-zero, le_of_suc-le-suc}
use native.Mathlib.Omega.{arith}
use Rattle.model.specs.Basics.{pick}
use Rattle.model.specs.Boards.{Message, no_message}
use Rattle.model.specs.Looks.{is_before, earlier, oldest}
use Rattle.model.proofs.Tests.{never, both, and, either, neither, or_right, other-false, tested, same?}

-- the order as a statement: the lesser day, or the same and the lower number
abbrev pub Before : (ℕ → ℕ) → ℕ → ℕ → Type 0
Before day m n = (day m < day n) ⊎ ((day m ≡ day n) × (m < n))

module _ (day : ℕ → ℕ) where
  pub before-means : (m n : ℕ) → is_before day m n ≡ true → Before day m n
  unfolding is_before
  before-means m n e =
      ⊎_elim (λ p. inl (ltb-true _ _ p))
      (λ p. let q = both {t = eqb (day m) (day n)} p in inr (eqb-true _ _ q.0, ltb-true _ _ q.1))
      (either {t = ltb (day m) (day n)} e)

  pub means-before : (m n : ℕ) → Before day m n → is_before day m n ≡ true
  unfolding is_before
  means-before m n (inl h) = rw (lt-ltb (day m) (day n) h)
  means-before m n (inr h) =
      or_right (ltb (day m) (day n)) (and (eq-eqb (day m) (day n) h.0) (lt-ltb m n h.1))

  both_ways : (m n : ℕ) → Before day m n → Before day n m → ⊥
  both_ways m n (inl p) (inl q) = omega (arith, p, q)
  both_ways m n (inl p) (inr q) = omega (arith, p, q.0)
  both_ways m n (inr p) (inl q) = omega (arith, p.0, q)
  both_ways m n (inr p) (inr q) = omega (arith, p.1, q.1)

  -- asymmetric
  pub before-not : (m n : ℕ) → is_before day m n ≡ true → is_before day n m ≡ false
  before-not m n e =
      ⊎_elim (λ f. absurd (both_ways m n (before-means m n e) (before-means n m f))) (λ f. f)
      (tested (is_before day n m))

  through : (m i n : ℕ) → Before day m i → Before day i n → Before day m n
  through m i n (inl p) (inl q) = inl (omega (arith, p, q))
  through m i n (inl p) (inr q) = inl (omega (arith, p, q.0))
  through m i n (inr p) (inl q) = inl (omega (arith, p.0, q))
  through m i n (inr p) (inr q) = inr (p.0 ∙ q.0, omega (arith, p.1, q.1))

  before-trans : (m i n : ℕ) → is_before day m i ≡ true → is_before day i n ≡ true → is_before day m n ≡ true
  before-trans m i n p q = means-before m n (through m i n (before-means m i p) (before-means i n q))

  -- total
  before-other : (m n : ℕ) → m ≢ n → is_before day m n ≡ false → is_before day n m ≡ true
  unfolding is_before
  before-other m n h e =
      let p = neither {t = ltb (day m) (day n)} e in
      let l = ltb-false (day m) (day n) p.0 in
      means-before n m (⊎_elim
      (λ z. inr (sym z, let i = ltb-false m n (other-false _ _ p.1 (eq-eqb (day m) (day n) z)) in omega arith))
      (λ z. inl (omega arith)) (same? (day m) (day n)))

  -- none of number n, by its test t, and what was found beside it
  none_here : (t : Bool) (n r : ℕ) → pick t (earlier day n r) r ≡ 0 → (t ≡ false) × (r ≡ 0)
  none_here true n zero e = absurd (omega arith)
  none_here true n (suc m) e = go (is_before day m n) e
    where
      go : (u : Bool) → pick u (suc m) (suc n) ≡ 0 → (true ≡ false) × (suc m ≡ 0)
      go true e = absurd (omega arith)
      go false e = absurd (omega arith)
  none_here false n r e = (refl, e)

  -- the first of them is number n, or what was found
  first-here : (t : Bool) (n r k : ℕ) → pick t (earlier day n r) r ≡ suc k
      → ((t ≡ true) × (n ≡ k) × ((m : ℕ) → r ≡ suc m → is_before day m n ≡ false))
      ⊎ ((r ≡ suc k) × (t ≡ true → is_before day k n ≡ true))
  first-here true n zero k e = inl (refl, omega arith, λ m z. absurd (omega arith))
  first-here true n (suc m) k e = go (is_before day m n) refl e
    where
      go : (u : Bool) → is_before day m n ≡ u → pick u (suc m) (suc n) ≡ suc k
          → ((true ≡ true) × (n ≡ k) × ((i : ℕ) → suc m ≡ suc i → is_before day i n ≡ false))
          ⊎ ((suc m ≡ suc k) × (true ≡ true → is_before day k n ≡ true))
      go true q e = let z : m ≡ k = omega arith in inr (e, λ x. rw (← z) q)
      go false q e = inl (refl, omega arith, λ i y. let z : m ≡ i = omega arith in rw (← z) q)
  first-here false n r k e = inr (e, λ z. never z)

  module _ (f : ℕ → Message → Bool) where
    none_from : (n : ℕ) (is : List Message) → oldest day f n is ≡ 0 → (j q : ℕ) → j < length is → n + j ≡ q
        → f q (get_or is j no_message) ≡ false
    unfolding oldest
    none_from n [] e j q h y = absurd (not-suc-le-zero h)
    none_from n (x ∷ xs) e zero q h y =
        let z : n ≡ q = omega arith in
        rw (← z) (none_here (f n x) n (oldest day f (suc n) xs) e).0
    none_from n (x ∷ xs) e (suc j) q h y =
        none_from (suc n) xs (none_here (f n x) n (oldest day f (suc n) xs) e).1 j q (le_of_suc-le-suc h) (omega arith)

    some-from : (n : ℕ) (is : List Message) (k : ℕ) → oldest day f n is ≡ suc k
        → (j : ℕ) × (n + j ≡ k) × (j < length is) × (f k (get_or is j no_message) ≡ true)
    unfolding oldest
    some-from n [] k e = absurd (omega arith)
    some-from n (x ∷ xs) k e =
        ⊎_elim (λ a. (0, omega (arith, a.1), omega arith, rw (← a.1) a.0))
        (λ a. let r = some-from (suc n) xs k a.0 in
        (suc r.0, omega (arith, r.1), omega (arith, r.2), r.3))
        (first-here (f n x) n (oldest day f (suc n) xs) k e)

    -- number n is before what was found after it, m, and so before all that pass there
    before-all : (n : ℕ) (is : List Message) (q r : ℕ) → oldest day f (suc n) is ≡ r
        → ((m : ℕ) → r ≡ suc m → is_before day m n ≡ false)
        → ((m : ℕ) → r ≡ suc m → q ≢ m → is_before day m q ≡ true) → r ≢ 0 → is_before day n q ≡ true
    before-all n is q zero z a b h = absurd (h refl)
    before-all n is q (suc m) z a b h =
        let s = some-from (suc n) is m z in
        let l = before-other m n (λ y. omega (arith, s.1)) (a m refl) in
        ⊎_elim (λ y. rw y l) (λ y. before-trans n m q l (b m refl y)) (same? q m)

    first-from : (n : ℕ) (is : List Message) (k : ℕ) → oldest day f n is ≡ suc k → (j q : ℕ) → j < length is
        → n + j ≡ q → f q (get_or is j no_message) ≡ true → q ≢ k → is_before day k q ≡ true
    unfolding oldest
    first-from n [] k e j q h y p ne = absurd (not-suc-le-zero h)
    first-from n (x ∷ xs) k e zero q h y p ne =
        let z : q ≡ n = omega arith in
        ⊎_elim (λ a. absurd (ne (z ∙ a.1))) (λ a. rw z (a.1 (rw z at p)))
        (first-here (f n x) n (oldest day f (suc n) xs) k e)
    first-from n (x ∷ xs) k e (suc j) q h y p ne =
        let l = le_of_suc-le-suc h in
        let z : suc n + j ≡ q = omega arith in
        ⊎_elim
        (λ a. rw (← a.1) (before-all n xs q _ refl a.2
        (λ m g d. first-from (suc n) xs m g j q l z p d)
        (λ g. never (sym (none_from (suc n) xs g j q l z) ∙ p))))
        (λ a. first-from (suc n) xs k a.0 j q l z p ne)
        (first-here (f n x) n (oldest day f (suc n) xs) k e)

    module _ (is : List Message) where
      pub oldest-none : oldest day f 0 is ≡ 0 → (j : ℕ) → j < length is → f j (get_or is j no_message) ≡ false
      oldest-none e j h = none_from 0 is e j j h (omega arith)

      pub oldest-at : (k : ℕ) → oldest day f 0 is ≡ suc k → (k < length is) × (f k (get_or is k no_message) ≡ true)
      oldest-at k e =
          let r = some-from 0 is k e in
          let z : r.0 ≡ k = omega (arith, r.1) in
          (omega (arith, r.2), rw z at r.3)

      -- what is found is before every other one that passes
      pub oldest-first : (k : ℕ) → oldest day f 0 is ≡ suc k → (j : ℕ) → j < length is
          → f j (get_or is j no_message) ≡ true → j ≢ k → is_before day k j ≡ true
      oldest-first k e j h = first-from 0 is k e j j h (omega arith)
