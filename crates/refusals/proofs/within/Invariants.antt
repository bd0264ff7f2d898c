use Rattle.std.proofs.Common.{◌≡◌, leb, get_or}
use Rattle.soundness.specs.Tests.{each_below}
use Rattle.refusals.proofs.within.Given as goal

abbrev pub invariant-loop-i : goal.invariant-loop-i
invariant-loop-i l = l.ok ≡ each_below l.i (λ k. leb (get_or l.a k 0) (get_or l.most k 0))
