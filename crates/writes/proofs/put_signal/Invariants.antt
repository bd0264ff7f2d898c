use Rattle.rows.specs.Decoded.{board_from}
use Rattle.writes.proofs.Places.{IsBoard}
use Rattle.writes.proofs.Signals.{signalled_to}
use Rattle.writes.proofs.put_signal.Given as goal

abbrev pub invariant-loop-i : goal.invariant-loop-i
invariant-loop-i l = IsBoard l.s (signalled_to l.n l.i (board_from l.initial.s))
