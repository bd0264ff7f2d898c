use mathlib.Core.Bool.{◌||◌}
use mathlib.Core.Path.{◌≡◌}
use Prim.Native.Nat.{◌≤◌, ◌-◌}
use Rattle.columns.specs.Firsts.{first_from, found}
use Rattle.columns.specs.Words.{is_one}
use Rattle.columns.proofs.gather.any_one.Given as goal

abbrev pub invariant-loop-i : goal.invariant-loop-i
invariant-loop-i l =
    (l.i ≤ 64) × (found (first_from (is_one l.y) 0 64) ≡ (l.any || found (first_from (is_one l.y) l.i (64 - l.i))))

abbrev pub decreases-loop-i : goal.decreases-loop-i
decreases-loop-i l = 64 - l.i
