use Rattle.std.proofs.Common.{◌≡◌, map, length, take}
use Rattle.senders.specs.Seen.{mark_by}
use Rattle.refusals.specs.Rows.{senders_in}
use Rattle.refusals.proofs.put_marks.Given as goal

abbrev pub invariant-loop-i : goal.invariant-loop-i
invariant-loop-i l =
    (length l.marks ≡ 32) × (take l.i l.marks ≡ map mark_by (take l.i (senders_in l.s)))
