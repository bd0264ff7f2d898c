use Prim.Native.Nat.{◌-◌}
use Rattle.columns.specs.Firsts.{Skipped, of_kind}
use Rattle.columns.proofs.skip.next_block.Given as goal

abbrev pub invariant-loop-at : goal.invariant-loop-at
invariant-loop-at l =
    Skipped (of_kind l.channels l.statuses l.wanted l.status) l.from l.at

abbrev pub decreases-loop-at : goal.decreases-loop-at
decreases-loop-at l = l.n - l.at
