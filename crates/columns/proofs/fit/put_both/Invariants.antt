use mathlib.Core.Bool.{◌&&◌}
use Prim.Native.Nat.{◌+◌, ◌-◌, ◌≤◌}
use Rattle.columns.specs.Firsts.{of_kind, of_both}
use Rattle.columns.specs.Words.{Told}
use Rattle.columns.proofs.fit.put_both.Given as goal

abbrev pub invariant-loop-i : goal.invariant-loop-i
invariant-loop-i l =
    (l.i ≤ l.from + 16) × Told (λ k. of_kind l.channels l.statuses l.want.channel l.want.status k
    && of_both l.keys l.units l.want.property l.want.unit k) l.at l.i l.y

abbrev pub decreases-loop-i : goal.decreases-loop-i
decreases-loop-i l = l.from + 16 - l.i
