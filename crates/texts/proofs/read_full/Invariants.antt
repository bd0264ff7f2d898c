-- `texts::read_full` meets its contract: each read but the last brings bytes, until the buffer is full.
use Rattle.std.proofs.Common.{length, ◌-◌, ◌≤◌}
use Rattle.texts.proofs.read_full.Given as goal

abbrev pub invariant-loop-n : goal.invariant-loop-n
invariant-loop-n g l = l.n ≤ length l.buf

abbrev pub decreases-loop-n : goal.decreases-loop-n
decreases-loop-n g l = length l.buf - l.n
