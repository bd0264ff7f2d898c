use Rattle.std.proofs.Common.{◌≡◌, map, ◌+◌, ◌*◌, ◌≤◌, drop}
use Rattle.std.proofs.lemmas.List.Edits.{sets}
use Rattle.model.specs.Layout.{written_chords}
use Rattle.codec.specs.Views.{chord_in}
use Rattle.writer.proofs.put_entries.Given as goal

abbrev pub invariant-loop-i : goal.invariant-loop-i
invariant-loop-i l =
    (l.next ≤ 255 * l.i)
    × (sets l.out (l.at + 4 * l.i) (written_chords l.next (map chord_in (drop l.i l.chords)))
    ≡ sets l.initial.out l.at (written_chords 0 (map chord_in l.chords)))
