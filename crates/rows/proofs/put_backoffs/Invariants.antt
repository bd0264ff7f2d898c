use Rattle.std.proofs.Common.{◌≡◌, take}
use Rattle.rows.proofs.put_backoffs.Given as goal

abbrev pub invariant-loop-i : goal.invariant-loop-i
invariant-loop-i l = take l.i l.table ≡ take l.i l.rests
