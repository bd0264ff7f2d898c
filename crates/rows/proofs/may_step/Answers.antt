-- `rows::may_step` meets its contract: the numbers of the sender's state and signal are read.
use Rattle.boards.specs.Boards.{zero_sender}
use Rattle.rows.proofs.DecodeLaws.{sender-from}
use Rattle.rows.proofs.may_step.Goals as goal

pub returns : goal.returns
returns c = rw (sender-from c.args.s.now c.args.i zero_sender c.requires.1, ← c.row-a.ensures.0) c.steps_at.ensures
