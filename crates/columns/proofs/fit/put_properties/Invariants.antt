use mathlib.Core.Bool.{◌&&◌}
use Prim.Native.Nat.{◌+◌, ◌-◌, ◌≤◌}
use Rattle.columns.specs.Firsts.{of_kind, of_property}
use Rattle.columns.specs.Words.{Told}
use Rattle.columns.proofs.fit.put_properties.Given as goal

abbrev pub invariant-loop-i : goal.invariant-loop-i
invariant-loop-i l =
    (l.i ≤ l.from + 16) × Told (λ k. of_kind l.channels l.statuses l.want.channel l.want.status k
    && of_property l.keys l.want.property k) l.at l.i l.y

abbrev pub decreases-loop-i : goal.decreases-loop-i
decreases-loop-i l = l.from + 16 - l.i
