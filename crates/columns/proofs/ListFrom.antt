-- Lists by number: their length, their elements, what is left of them, and one element more.
use mathlib.Core.Path.{◌≡◌, refl, ap, ◌∙◌}
use mathlib.Core.List.{[], ◌∷◌, ◌++◌}
use Prim.Native.Nat.{ℕ, zero, suc, ◌+◌, ◌-◌, ◌<◌, ◌≤◌}
use native.Mathlib.Numerals.{add-one}
use native.Mathlib.Omega.{arith}
use lib.ListN.{length, get_or}
use Rattle.columns.specs.Columns.{list_from}

snoc-from : {A : Type 0} (f : ℕ → A) (i n k : ℕ) → i + n ≡ k
    → list_from f i (suc n) ≡ list_from f i n ++ (f k ∷ [])
snoc-from f i zero k e = let z : i ≡ k = omega arith in rw z
snoc-from f i (suc n) k e = ap (λ r. f i ∷ r) (snoc-from f (suc i) n k (omega arith))

module _ {A : Type 0} (f : ℕ → A) where
  pub length_from : (i n : ℕ) → length (list_from f i n) ≡ n
  length_from i zero = refl
  length_from i (suc n) = ap suc (length_from (suc i) n)

  nth_after : (d : A) (i n k : ℕ) → k < n → get_or (list_from f i n) k d ≡ f (i + k)
  nth_after d i zero k h = absurd (omega arith)
  nth_after d i (suc n) zero h = ap f (omega arith)
  nth_after d i (suc n) (suc k) h = rw (nth_after d (suc i) n k (omega arith)) (ap f (omega arith))

  pub nth-from : (d : A) (n k : ℕ) → k < n → get_or (list_from f 0 n) k d ≡ f k
  nth-from d n k h = let z : 0 + k ≡ k = omega arith in nth_after d 0 n k h ∙ ap f z

  pub left-from : (i n : ℕ) → i < n → list_from f i (n - i) ≡ f i ∷ list_from f (i + 1) (n - (i + 1))
  left-from i n h =
      let e : n - i ≡ suc (n - (i + 1)) = omega arith in
      rw (e, add-one i)

  pub none_from : (i n : ℕ) → n ≤ i → list_from f i (n - i) ≡ []
  none_from i n h =
      let e : n - i ≡ 0 = omega arith in
      rw e

  pub same_from : (g : ℕ → A) (i n : ℕ) → ((j : ℕ) → j < i + n → g j ≡ f j) → list_from g i n ≡ list_from f i n
  same_from g i zero e = refl
  same_from g i (suc n) e = cc (e i (omega arith), same_from g (suc i) n (λ j l. e j (omega arith)))

  -- as it was below n, and another element there
  pub added-from : (g : ℕ → A) (n : ℕ) (x : A) → ((j : ℕ) → j < n → g j ≡ f j) → g n ≡ x
      → list_from g 0 (suc n) ≡ list_from f 0 n ++ (x ∷ [])
  added-from g n x e q =
      snoc-from g 0 n n (omega arith) ∙ rw (same_from g 0 n (λ j l. e j (omega arith)), q)
