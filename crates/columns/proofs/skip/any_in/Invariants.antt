use mathlib.Core.Bool.{◌||◌}
use mathlib.Core.Path.{◌≡◌}
use Prim.Native.Nat.{◌≤◌, ◌-◌}
use Rattle.columns.specs.Firsts.{first_from, found, of_kind}
use Rattle.columns.proofs.skip.any_in.Given as goal

abbrev pub invariant-loop-i : goal.invariant-loop-i
invariant-loop-i l =
    (l.i ≤ l.to) × (found (first_from (of_kind l.channels l.statuses l.wanted l.status) l.from (l.to - l.from))
    ≡ (l.any || found (first_from (of_kind l.channels l.statuses l.wanted l.status) l.i (l.to - l.i))))

abbrev pub decreases-loop-i : goal.decreases-loop-i
decreases-loop-i l = l.to - l.i
