-- The sizes of an accepted table: at most 32 chords, of at most 8 channels.
use mathlib.Core.Path.{◌≡◌}
use mathlib.Core.List.{List}
use Prim.Native.Nat.{ℕ, ◌<◌, ◌≤◌}
use lib.ListN.{length}
use Rattle.model.specs.Tables.{size}
use Rattle.model.specs.Layout.{table_refusal, table_of}
use Rattle.model.proofs.AcceptedChords.{table-ok}

module _ (s : List ℕ) (accepts : table_refusal s ≡ 0) where
  pub chords_few : length (table_of s).chords ≤ 32
  chords_few = (table-ok s accepts).chords_few

  pub chord_few : (q : ℕ) → q < length (table_of s).chords → size (table_of s) q ≤ 8
  chord_few = (table-ok s accepts).chord_few
