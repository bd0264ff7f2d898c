-- `refusals::within` meets its contract: each turn tests one number more.
use Rattle.std.proofs.Common.{◌≡◌, sym, arith}
use Rattle.soundness.proofs.Each.{each_none, each-one}
use Rattle.refusals.specs.Rows.{within}
use Rattle.refusals.proofs.within.Goals as goal

pub loop-i-init : goal.loop-i-init
loop-i-init c = sym (each_none _)

pub loop-i-preserved : goal.loop-i-preserved
loop-i-preserved c = rw (each-one _ c.loop-i.i, c.loop-i.invariant)

pub returns : goal.returns
unfolding within
returns c = let z : c.loop-i.i ≡ 16 = omega arith in rw z at c.loop-i.invariant
