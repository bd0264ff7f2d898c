-- `rows::is_idle` meets its contract: the number of the sender's state is read.
use Rattle.std.proofs.Common.{rules}
use Rattle.boards.specs.Boards.{zero_sender}
use Rattle.rows.proofs.DecodeLaws.{sender-from}
use Rattle.rows.proofs.is_idle.Goals as goal

pub returns : goal.returns
returns c = rw (sender-from c.args.s.now c.args.i zero_sender c.requires.1, ← c.row.ensures.0) (search rules)
