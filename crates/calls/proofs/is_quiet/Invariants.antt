use mathlib.Core.Path.{◌≡◌}
use Prim.Native.Nat.{◌-◌, ◌≤◌}
use Rattle.model.specs.Tables.{Table}
use Rattle.calls.proofs.SenderRows.{rest_quiet}
use Rattle.calls.proofs.is_quiet.Given as goal

abbrev pub invariant-loop-i : goal.invariant-loop-i
invariant-loop-i l = (l.i ≤ 32) × ((t : Table) → rest_quiet t l.board 0 ≡ rest_quiet t l.board l.i)

abbrev pub decreases-loop-i : goal.decreases-loop-i
decreases-loop-i l = 32 - l.i
