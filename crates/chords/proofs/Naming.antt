-- The next chord that names a channel, a chord at a time.
use mathlib.Core.Path.{◌≡◌}
use mathlib.Core.Bool.{true, false}
use Prim.Native.Nat.{ℕ, suc, ◌+◌, ◌-◌, ◌<◌, ◌≤◌}
use native.Mathlib.Numerals.{add-one}
use native.Mathlib.Omega.{arith}
use borrow.Author.Tests.{lt-ltb, le-ltb}
use lib.ListN.{length}
use Rattle.model.specs.Basics.{is_in}
use Rattle.model.specs.Tables.{Table, chord_at, naming, naming_up_to}
use Rattle.chords.specs.Naming.{next_naming}

module _ (t : Table) (channel i : ℕ) where
  pub next_here : i < length t.chords → is_in channel (chord_at t i).channels ≡ true → next_naming t channel i ≡ i
  unfolding naming next_naming
  next_here h e =
      let q : length t.chords - i ≡ suc (length t.chords - suc i) = omega arith in
      rw (q, naming_up_to, e, lt-ltb i (length t.chords) h)

  pub next-on : i < length t.chords → is_in channel (chord_at t i).channels ≡ false
      → next_naming t channel i ≡ next_naming t channel (i + 1)
  unfolding naming next_naming
  next-on h e =
      let q : length t.chords - i ≡ suc (length t.chords - suc i) = omega arith in
      rw (add-one i, q, naming_up_to, e)

  pub next-end : length t.chords ≤ i → next_naming t channel i ≡ length t.chords
  unfolding naming next_naming
  next-end h =
      let q : length t.chords - i ≡ 0 = omega arith in
      rw (q, le-ltb i (length t.chords) h)

pub ruleset turns = (next_here, next-on, next-end)
