use mathlib.Core.Path.{◌≡◌}
use Prim.Native.Nat.{◌^◌, ◌<◌, ◌≤◌}
use Rattle.columns.specs.Ranks.{day_in}
use Rattle.columns.specs.Words.{least_bit}
use Rattle.columns.proofs.weigh.least_of.Given as goal

abbrev pub invariant-loop-w : goal.invariant-loop-w
invariant-loop-w l =
    (l.w < 2 ^ 64) × (65536 ≤ l.b)
    × (least_bit (day_in l.keys) l.word l.best l.at 64 ≡ least_bit (day_in l.keys) l.w l.b l.at 64)

abbrev pub decreases-loop-w : goal.decreases-loop-w
decreases-loop-w l = l.w
