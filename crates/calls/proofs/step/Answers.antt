-- `calls::step` meets its contract: the call of its row.
use Rattle.plays.specs.Replays.{sender_call}
use Rattle.calls.proofs.step.Goals as goal

pub returns : goal.returns
unfolding sender_call
returns c = c.one_call.ensures
