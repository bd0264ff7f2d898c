-- `claims::claim_step` meets its contract where the claim is lost: its tests are the model's.
use Rattle.std.proofs.Common.{arith}
use Rattle.std.proofs.lemmas.Grind.{common_steps}
use Rattle.model.specs.Steps.{claim_step}
use Rattle.claims.proofs.claim_step.Goals as goal

pub returns-then-not-pending : goal.returns-then-not-pending
unfolding claim_step
returns-then-not-pending c = grind (arith, common_steps)

pub returns-then-count-ge1024 : goal.returns-then-count-ge1024
unfolding claim_step
returns-then-count-ge1024 c = grind (arith, common_steps)
