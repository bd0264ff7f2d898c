-- `ends::revert_step` meets its contract, for the last claim and for another.
use Rattle.std.proofs.Common.{arith}
use Rattle.std.proofs.lemmas.Grind.{common_steps}
use Rattle.model.specs.Steps.{revert_step}
use Rattle.ends.proofs.revert_step.Goals as goal

pub returns : goal.returns
unfolding revert_step
returns c = grind (arith, common_steps)
