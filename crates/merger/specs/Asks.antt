-- What the parts of a merge ask of their arguments.
use Rattle.std.specs.Prelude.{◌≡◌, Bool, ◌||◌, List, map, count_by, slice_get, Some, ℕ, ◌+◌, ◌<◌, ◌≤◌, eqb, length}
use Rattle.std.specs.Option.{option_eq}
use Rattle.model.specs.Layout.{table_refusal, table_of}
use Rattle.merging.specs.Merges.{is_new, merged_chord}
use Rattle.codec.specs.declared.Chord as DC
use Rattle.codec.specs.Views.{chord_for}

-- whether a channel of this kind may become m, of the first's kinds
abbrev pub joins : List ℕ → ℕ → ℕ → Bool
joins kinds m kind = is_new m || option_eq eqb (slice_get kinds m) (Some kind)

-- the bytes of a map that stand for new channels
abbrev pub count_new : List ℕ → ℕ
count_new ms = count_by is_new ms

-- two accepted tables, and a map of the second's channels
pub record BothAsked (first second ms : List ℕ) : Type 0 where
  pub first_ok : table_refusal first ≡ 0
  pub second_ok : table_refusal second ≡ 0
  pub whole : length ms ≡ length (table_of second).kinds

pub record KindsRoom (ms second : List ℕ) (at : ℕ) : Type 0 where
  pub whole : length ms ≡ length second
  pub room : at + count_new ms ≤ 16

pub record ChordAsked (s : List ℕ) (chord : ℕ) : Type 0 where
  pub accepted : table_refusal s ≡ 0
  pub chord-in : chord < length (table_of s).chords

pub record ChordsRoom (s : List ℕ) (at : ℕ) : Type 0 where
  pub accepted : table_refusal s ≡ 0
  pub room : at + length (table_of s).chords ≤ 32

pub record ValueAsked (n at : ℕ) (s ms : List ℕ) : Type 0 where
  pub chords : ChordsRoom s at
  pub whole : length ms ≡ length (table_of s).kinds
  pub kinds : n + count_new ms ≤ 16

-- the second's chords as values, their channels mapped
abbrev pub chords_for : List ℕ → List ℕ → List DC.Chord
chords_for ts s = map chord_for (map (merged_chord ts) (table_of s).chords)
