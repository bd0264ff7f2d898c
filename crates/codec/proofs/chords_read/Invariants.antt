use mathlib.Core.Path.{◌≡◌}
use mathlib.Core.List.{map}
use lib.ListN.{drop, replicate}
use lib.Seq.{sets}
use Rattle.model.specs.Layout.{table_of}
use Rattle.codec.specs.Views.{chord_for, empty_chord}
use Rattle.codec.proofs.chords_read.Given as goal

abbrev pub invariant-loop-i : goal.invariant-loop-i
invariant-loop-i l =
    sets l.chords l.i (drop l.i (map chord_for (table_of l.table).chords))
    ≡ sets (replicate 32 empty_chord) 0 (map chord_for (table_of l.table).chords)
