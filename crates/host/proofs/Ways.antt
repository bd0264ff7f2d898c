-- A read by its ways out: refused by its own number, for a short slice, or given.
use mathlib.Core.Path.{◌≡◌, refl, sym, ◌∙◌}
use mathlib.Core.Logic.{◌≢◌}
use mathlib.Core.List.{List}
use Prim.Native.Nat.{ℕ, zero, suc, ◌<◌, ◌≤◌}
use borrow.Author.Tests.{le-leb, lt-leb}
use lib.Dec.{leb}
use lib.IntN.{ℤ}
use lib.ListN.{length}
use Rattle.model.specs.Basics.{unless, first_of}
use Rattle.boards.specs.Calls.{Held}
use Rattle.calls.specs.Reads.{answered}
use Rattle.host.specs.Reads.{Reading, stored_in, read_number, read_after}

-- a read answers n, and turns the lent slice from before to after
abbrev pub Gives : List ℕ → Held → Reading → List ℤ → ℕ → List ℤ → Type 0
Gives s h q before n after = (n ≡ read_number s h q before) × (after ≡ read_after s h q before)

-- a number refuses
refused : {A : Type 0} (n y : ℕ) (x z : A) → n ≢ 0 → (n ≡ first_of n y) × (z ≡ answered (first_of n y) x z)
refused zero y x z h = absurd (h refl)
refused (suc n) y x z h = (refl, refl)

module _ (s : List ℕ) (h : Held) (q : Reading) (before : List ℤ) where
  pub read-refused : (n : ℕ) → n ≡ q.number s h → n ≢ 0 → Gives s h q before n before
  unfolding read_number read_after
  read-refused n e f =
      let r = refused (q.number s h) (unless (leb q.size (length before)) 31 0) (stored_in (q.numbers s h) before)
      before (λ z. f (e ∙ z)) in
      (e ∙ r.0, r.1)

  pub read_short : 0 ≡ q.number s h → length before < q.size → Gives s h q before 31 before
  unfolding read_number read_after
  read_short e l = rw (sym e, lt-leb q.size (length before) l) (refl, refl)

  pub read-given : (after : List ℤ) → 0 ≡ q.number s h → q.size ≤ length before
      → after ≡ stored_in (q.numbers s h) before → Gives s h q before 0 after
  unfolding read_number read_after
  read-given after e l g = rw (sym e, le-leb q.size (length before) l) (refl, g)
