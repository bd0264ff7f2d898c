-- Laws of fields: bytes cut at each such byte are cut at the first.
use Rattle.std.proofs.Common.{◌≡◌, ℕ, suc, ◌+◌, ◌<◌, ◌≤◌, ◌⊎◌, inl, inr, Bool, true, false, List, [], ◌∷◌, eqb, ltb}
use Rattle.std.proofs.Common.{length, refl, add-one, arith}
use Rattle.std.specs.List.{position_or_len, before_first, after_first}
use mathlib.Core.Bool.{and-false}
use borrow.Author.Tests.{eqb-true}
use Rattle.model.specs.Basics.{every}
use Rattle.model.specs.Lines.{cut_at, fields_of, is_digit, is_decimal, is_number, add_of, add_line, step_of, step_line}

module _ (b : ℕ) where
  abbrev pub is_cut : ℕ → Bool
  is_cut x = eqb x b

  pub cut_none : (s : List ℕ) → length s ≤ position_or_len is_cut s → cut_at b s ≡ s ∷ []
  unfolding cut_at
  cut_none [] h = refl
  cut_none (x ∷ xs) h = go (eqb x b) refl h (cut_none xs)
    where
      go : (t : Bool) → eqb x b ≡ t → length (x ∷ xs) ≤ position_or_len is_cut (x ∷ xs)
          → (length xs ≤ position_or_len is_cut xs → cut_at b xs ≡ xs ∷ []) → cut_at b (x ∷ xs) ≡ (x ∷ xs) ∷ []
      go true e h ih = absurd (omega (arith, rw e at h))
      go false e h ih = let l = rw e at h in rw (e, ih (omega arith))

  pub cut_some : (s : List ℕ) → position_or_len is_cut s < length s
      → cut_at b s ≡ before_first is_cut s ∷ cut_at b (after_first is_cut s)
  unfolding cut_at
  cut_some [] h = absurd (omega arith)
  cut_some (x ∷ xs) h = go (eqb x b) refl h (cut_some xs)
    where
      go : (t : Bool) → eqb x b ≡ t → position_or_len is_cut (x ∷ xs) < length (x ∷ xs)
          → (position_or_len is_cut xs < length xs
          → cut_at b xs ≡ before_first is_cut xs ∷ cut_at b (after_first is_cut xs))
          → cut_at b (x ∷ xs) ≡ before_first is_cut (x ∷ xs) ∷ cut_at b (after_first is_cut (x ∷ xs))
      go true e h ih = rw e
      go false e h ih =
          let l = rw e at h in
          let one : 1 + position_or_len is_cut xs ≡ suc (position_or_len is_cut xs) = omega arith in
          rw (e, ih (omega arith)) (simp (one, add-one))

-- the last field, which is no number if there is a space in it
abbrev Whole : List ℕ → Type 0
Whole s = fields_of s ≡ s ∷ []

abbrev Spaced : List ℕ → Type 0
Spaced s =
    (f : List ℕ) × (g : List ℕ) × (fs : List (List ℕ)) × (fields_of s ≡ f ∷ g ∷ fs) × (every is_digit s ≡ false)

cut_nonempty : (s : List ℕ) → Whole s ⊎ Spaced s → (f : List ℕ) × (fs : List (List ℕ)) × (fields_of s ≡ f ∷ fs)
cut_nonempty s (inl e) = (_, _, e)
cut_nonempty s (inr p) = (_, _, p.3)

last : (s : List ℕ) → Whole s ⊎ Spaced s
unfolding cut_at
last [] = inl refl
last (x ∷ xs) = go (eqb x 32) refl (last xs)
  where
    go : (t : Bool) → eqb x 32 ≡ t → Whole xs ⊎ Spaced xs → Whole (x ∷ xs) ⊎ Spaced (x ∷ xs)
    go true e ih = let n = cut_nonempty xs ih in
        inr ([], n.0, n.1, rw (e, n.2), rw (eqb-true x 32 e))
    go false e (inl w) = inl (rw (e, w))
    go false e (inr p) = inr (x ∷ p.0, p.1, p.2, rw (e, p.3), rw (p.4, and-false (is_digit x)))

no_number : (most : ℕ) (s : List ℕ) → every is_digit s ≡ false → is_number most s ≡ false
unfolding is_number is_decimal
no_number most s e = rw (e, and-false (ltb 0 (length s)))

pub step_last : (s : List ℕ) → step_line (fields_of s) ≡ step_of s
unfolding step_of
step_last s = go (last s)
  where
    go : Whole s ⊎ Spaced s → step_line (fields_of s) ≡ step_of s
    go (inl e) = rw e
    go (inr p) = rw (p.3, no_number 65535 s p.4)

pub add_last : (d t p c y u : List ℕ) → add_line (d ∷ t ∷ p ∷ c ∷ y ∷ fields_of u) ≡ add_of d t p c y u
unfolding add_of
add_last d t p c y u = go (last u)
  where
    go : Whole u ⊎ Spaced u → add_line (d ∷ t ∷ p ∷ c ∷ y ∷ fields_of u) ≡ add_of d t p c y u
    go (inl e) = rw e
    go (inr q) = rw (q.3, no_number 65535 u q.4) (simp and-false)
