-- Laws of a test of each number below n: a turn, two tests in one, what it says of a number, lists by their places, and
-- tests of a list folded.
use mathlib.Core.Path.{◌≡◌, refl, sym, ap, ◌∙◌}
use mathlib.Core.Logic.{◌⊎◌, inl, inr, ◌≢◌}
use mathlib.Core.Bool.{Bool, true, false, ◌&&◌, and-true, and_assoc}
use mathlib.Core.List.{List, [], ◌∷◌}
use Prim.Native.Nat.{ℕ, zero, suc, ◌+◌, ◌<◌, ◌≤◌}
use native.Mathlib.Numerals.{add-one}
use native.Mathlib.Omega.{arith}
use lib.ListN.{length, get_or, take}
use Rattle.std.specs.List.{fold, zip}
use Rattle.std.proofs.lemmas.List.Folds.{list_all-append}
use Rattle.model.specs.Basics.{every}
use Rattle.model.proofs.Tests.{both, and, never, same?, tested}
use Rattle.columns.specs.Columns.{list_from}
use Rattle.columns.proofs.ListFrom.{added-from}
use Rattle.soundness.specs.Tests.{each_below}

module _ (f : ℕ → Bool) where
  pub each_none : each_below 0 f ≡ true
  unfolding each_below
  each_none = refl

  pub each-one : (i : ℕ) → each_below (i + 1) f ≡ (each_below i f && f i)
  unfolding each_below
  each-one i = rw (add-one i)

  pub each-four : (i : ℕ) → each_below (i + 4) f ≡ (each_below i f && (f i && (f (i + 1) && (f (i + 2) && f (i + 3)))))
  each-four i =
      let a : i + 4 ≡ i + 3 + 1 = omega arith in
      let b : i + 3 ≡ i + 2 + 1 = omega arith in
      let c : i + 2 ≡ i + 1 + 1 = omega arith in
      rw (a, each-one (i + 3), b, each-one (i + 2), c, each-one (i + 1), each-one i, and_assoc, and_assoc, and_assoc)

  pub each_at : (n : ℕ) → each_below n f ≡ true → (i : ℕ) → i < n → f i ≡ true
  unfolding each_below
  each_at zero e i h = absurd (omega arith)
  each_at (suc n) e i h = let p = both {t = each_below n f} e in go (same? i n) p.1 (each_at n p.0 i)
    where
      go : (i ≡ n) ⊎ (i ≢ n) → f n ≡ true → (i < n → f i ≡ true) → f i ≡ true
      go (inl z) p ih = rw z p
      go (inr z) p ih = ih (omega arith)

  pub at_each : (n : ℕ) → ((i : ℕ) → i < n → f i ≡ true) → each_below n f ≡ true
  unfolding each_below
  at_each zero g = refl
  at_each (suc n) g = and (at_each n (λ i h. g i (omega arith))) (g n (omega arith))

  pub each-fails : (n i : ℕ) → i < n → f i ≡ false → each_below n f ≡ false
  each-fails n i h e = go (tested (each_below n f))
    where
      go : (each_below n f ≡ true) ⊎ (each_below n f ≡ false) → each_below n f ≡ false
      go (inl z) = never (sym e ∙ each_at n z i h)
      go (inr z) = z

  -- fewer that do not all pass
  pub each-no : (i n : ℕ) → i ≤ n → each_below i f ≡ false → each_below n f ≡ false
  each-no i n h e = go (tested (each_below n f))
    where
      go : (each_below n f ≡ true) ⊎ (each_below n f ≡ false) → each_below n f ≡ false
      go (inl z) = never (sym e ∙ at_each i (λ j l. each_at n z j (omega arith)))
      go (inr z) = z

  -- the first, then those after it
  pub each-cons : (n : ℕ) → each_below (suc n) f ≡ (f 0 && each_below n (λ i. f (suc i)))
  unfolding each_below
  each-cons zero = sym (and-true (f 0))
  each-cons (suc n) = rw (each-cons n, and_assoc)

pub each_same : (f g : ℕ → Bool) (n : ℕ) → ((i : ℕ) → i < n → f i ≡ g i) → each_below n f ≡ each_below n g
unfolding each_below
each_same f g zero e = refl
each_same f g (suc n) e = rw (each_same f g n (λ i h. e i (omega arith)), e n (omega arith))

pub each_and : (f g : ℕ → Bool) (n : ℕ) → (each_below n f && each_below n g) ≡ each_below n (λ i. f i && g i)
unfolding each_below
each_and f g zero = refl
each_and f g (suc n) = swapped (each_below n f) (f n) (each_below n g) (g n) ∙ rw (each_and f g n)
  where
    swapped : (a b c d : Bool) → ((a && b) && (c && d)) ≡ ((a && c) && (b && d))
    swapped true true c d = refl
    swapped true false true d = refl
    swapped true false false d = refl
    swapped false b c d = refl

-- a list by its places
pub each_of : {A : Type 0} (p : A → Bool) (xs : List A) (z : A) (n : ℕ) → n ≤ length xs
    → every p (take n xs) ≡ each_below n (λ i. p (get_or xs i z))
each_of p xs z zero h = sym (each_none _)
each_of p [] z (suc n) h = absurd (omega arith)
each_of p (x ∷ xs) z (suc n) h =
    rw (each-cons (λ i. p (get_or (x ∷ xs) i z)) n, each_of p xs z n (omega arith))

-- two lists, a place at a time
pub each-pair : (p : ℕ × ℕ → Bool) (xs ys : List ℕ) (n : ℕ) → n ≤ length xs → n ≤ length ys
    → every p (zip (take n xs) (take n ys)) ≡ each_below n (λ i. p (get_or xs i 0, get_or ys i 0))
each-pair p xs ys zero h l = sym (each_none _)
each-pair p [] ys (suc n) h l = absurd (omega arith)
each-pair p (x ∷ xs) [] (suc n) h l = absurd (omega arith)
each-pair p (x ∷ xs) (y ∷ ys) (suc n) h l =
    let e = each-pair p xs ys n (omega arith) (omega arith) in
    rw (each-cons (λ i. p (get_or (x ∷ xs) i 0, get_or (y ∷ ys) i 0)) n, e)

-- an answer so far, and then a test of each
pub folded : {A : Type 0} (p q : A → Bool) → ((x : A) → p x ≡ q x) → (ok : Bool) (xs : List A)
    → fold (λ ok x. ok && p x) ok xs ≡ (ok && every q xs)
folded p q e true [] = refl
folded p q e false [] = refl
folded p q e true (x ∷ xs) = rw (e x) (folded p q e (q x) xs)
folded p q e false (x ∷ xs) = folded p q e false xs

-- a list made place by place
pub each-made : {A : Type 0} (p : A → Bool) (f : ℕ → A) (n : ℕ)
    → every p (list_from f 0 n) ≡ each_below n (λ i. p (f i))
unfolding each_below
each-made p f zero = refl
each-made p f (suc n) =
    ap (every p) (added-from f f n (f n) (λ j l. refl) refl)
    ∙ list_all-append p (list_from f 0 n) (f n ∷ [])
    ∙ rw (each-made p f n, and-true (p (f n)))
