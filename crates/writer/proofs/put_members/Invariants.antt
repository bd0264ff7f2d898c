use Rattle.std.proofs.Common.{◌≡◌, map, ◌+◌, ◌≤◌, length, drop}
use Rattle.std.proofs.lemmas.List.Edits.{sets}
use Rattle.model.specs.Layout.{written_members}
use Rattle.codec.specs.Views.{chord_in}
use Rattle.writer.specs.Writes.{members_len}
use Rattle.writer.proofs.put_members.Given as goal

abbrev pub invariant-loop-c : goal.invariant-loop-c
invariant-loop-c l =
    (l.next + members_len (drop l.c-index l.chords) ≤ length l.out)
    × (sets l.out l.next (written_members (map chord_in (drop l.c-index l.chords)))
    ≡ sets l.initial.out l.at (written_members (map chord_in l.chords)))
