-- Laws of the first number that passes a test: a turn, the end, and where there is none.
use mathlib.Core.Path.{◌≡◌, refl, sym, ◌∙◌}
use mathlib.Core.Logic.{⊎_elim}
use mathlib.Core.Bool.{Bool, true, false, ◌||◌, or_assoc, or-false}
use Prim.Native.Nat.{ℕ, zero, suc, ◌+◌, ◌-◌, ◌<◌, ◌≤◌}
use native.Mathlib.Numerals.{add-one}
use native.Mathlib.Omega.{arith}
use Rattle.model.specs.Basics.{pick}
use Rattle.model.proofs.Tests.{never, same?}
use Rattle.columns.specs.Firsts.{first_from, found}

found-pick : (t : Bool) (k x : ℕ) → found (pick t (suc k) x) ≡ (t || found x)
found-pick true k x = refl
found-pick false k x = refl

pub not_found : (x : ℕ) → found x ≡ false → x ≡ 0
not_found zero e = refl
not_found (suc x) e = never (sym e)

-- message k does not pass, nor those after it
pub none_here : (t : Bool) (k x : ℕ) → pick t (suc k) x ≡ 0 → (t ≡ false) × (x ≡ 0)
none_here true k x e = absurd (omega arith)
none_here false k x e = (refl, e)

module _ (p : ℕ → Bool) where
  first_step : (i n : ℕ) → i < n → first_from p i (n - i) ≡ pick (p i) (i + 1) (first_from p (i + 1) (n - (i + 1)))
  unfolding first_from
  first_step i n h =
      let e : n - i ≡ suc (n - (i + 1)) = omega arith in
      rw (e, add-one i)

  first-end : (i n : ℕ) → n ≤ i → first_from p i (n - i) ≡ 0
  unfolding first_from
  first-end i n h =
      let e : n - i ≡ 0 = omega arith in
      rw e

  -- what was found so far, and number i
  pub found_turn : (any x : Bool) (i n : ℕ) → i < n → x ≡ (any || found (first_from p i (n - i)))
      → x ≡ ((any || p i) || found (first_from p (i + 1) (n - (i + 1))))
  found_turn any x i n h e =
      e ∙ rw (first_step i n h, add-one i, found-pick (p i) i) (sym (or_assoc any (p i) _))

  pub found-end : (any x : Bool) (i n : ℕ) → n ≤ i → x ≡ (any || found (first_from p i (n - i))) → any ≡ x
  found-end any x i n h e = sym (e ∙ rw (first-end i n h) (or-false any))

  -- none of n numbers passes
  pub none_passes : (i n : ℕ) → first_from p i n ≡ 0 → (k : ℕ) → i ≤ k → k < i + n → p k ≡ false
  unfolding first_from
  none_passes i zero e k h l = absurd (omega arith)
  none_passes i (suc n) e k h l =
      let z = none_here (p i) i (first_from p (suc i) n) e in
      ⊎_elim (λ x. rw (← x) z.0) (λ x. none_passes (suc i) n z.1 k (omega arith) (omega arith)) (same? i k)
