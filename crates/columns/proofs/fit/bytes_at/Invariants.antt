use mathlib.Core.Path.{◌≡◌}
use Prim.Native.Nat.{◌-◌, ◌%◌, ◌≤◌}
use Rattle.columns.specs.Firsts.{fitting}
use Rattle.columns.specs.Words.{Told}
use Rattle.columns.proofs.fit.bytes_at.Given as goal

abbrev pub invariant-loop-from : goal.invariant-loop-from
invariant-loop-from l =
    (l.from ≤ 64) × (l.from % 16 ≡ 0) × Told (fitting l.channels l.keys l.units l.statuses l.want) l.at l.from l.y

abbrev pub decreases-loop-from : goal.decreases-loop-from
decreases-loop-from l = 64 - l.from
