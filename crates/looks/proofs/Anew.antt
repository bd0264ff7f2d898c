-- Laws of numbers written anew, one after another, with another number in one place.
use mathlib.Core.Path.{◌≡◌, sym, ◌∙◌}
use mathlib.Core.Logic.{◌⊎◌, ◌≢◌, inl, inr}
use mathlib.Core.List.{List}
use Prim.Native.Nat.{ℕ, ◌+◌, ◌<◌, ◌≤◌}
use native.Mathlib.Omega.{arith}
use lib.Dec.{eqb}
use lib.ListN.{length, get_or, set, take, length-set}
use lib.Seq.{get_or-set_same, get_or-set_other}
use borrow.Author.Tests.{eq-eqb, ne_eqb}
use Rattle.model.specs.Basics.{pick}
use Rattle.model.proofs.Tests.{same?}
use Rattle.model.proofs.Walks as walks

module _ (c : List ℕ) (k m : ℕ) where
  nth-anew : (i : ℕ) → i < length c → (i ≡ k) ⊎ (i ≢ k) → get_or (set c k m) i 0 ≡ pick (eqb i k) m (get_or c i 0)
  nth-anew i h (inl e) = rw (eq-eqb i k e) (rw (← e) (get_or-set_same c i m 0 h))
  nth-anew i h (inr e) = rw (ne_eqb i k e) (get_or-set_other c k i m 0 e)

  module _ (r : List ℕ) (l : length r ≡ length c) where
    -- the numbers below i are written, and then number i
    pub anew-step : (i : ℕ) → i < length c → take i r ≡ take i (set c k m)
        → take (i + 1) (set r i (pick (eqb i k) m (get_or c i 0))) ≡ take (i + 1) (set c k m)
    anew-step i h e =
        let s = length-set c k m in
        rw (← nth-anew i h (same? i k)) (walks.anew-step (set c k m) r i (l ∙ sym s) e 0 (omega arith))

    pub anew-end : (i : ℕ) → length c ≤ i → take i r ≡ take i (set c k m) → r ≡ set c k m
    anew-end i h e = let s = length-set c k m in walks.anew-end (set c k m) r i (l ∙ sym s) e (omega arith)
