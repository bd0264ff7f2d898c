use mathlib.Core.Bool.{◌||◌}
use mathlib.Core.Path.{◌≡◌}
use Prim.Native.Nat.{◌≤◌, ◌-◌}
use Rattle.columns.specs.Firsts.{first_from, found, of_day_before}
use Rattle.columns.proofs.skip.any_before.Given as goal

abbrev pub invariant-loop-i : goal.invariant-loop-i
invariant-loop-i l =
    (l.i ≤ l.to) × (found (first_from (of_day_before l.keys l.day) l.from (l.to - l.from))
    ≡ (l.any || found (first_from (of_day_before l.keys l.day) l.i (l.to - l.i))))

abbrev pub decreases-loop-i : goal.decreases-loop-i
decreases-loop-i l = l.to - l.i
