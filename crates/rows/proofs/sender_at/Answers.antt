-- `rows::sender_at` meets its contract: its row passes, and it is the sender that the row decodes to.
use Rattle.boards.specs.Boards.{zero_sender}
use Rattle.rows.proofs.WalkLaws.{part-ok, all-numbers}
use Rattle.rows.proofs.Encoded.{read-back}
use Rattle.rows.proofs.DecodeLaws.{sender-from}
use Rattle.rows.proofs.sender_at.Goals as goal

pub sender_of-requires : goal.sender_of-requires
sender_of-requires c =
    let a = c.args in
    (c.row.ensures.1, rw c.row.ensures.0 (part-ok a.i a.s.now (all-numbers a.s.now c.requires.0).1 c.requires.1))

pub returns : goal.returns
returns c =
    let a = c.args in
    rw (sender-from a.s.now a.i zero_sender c.requires.1, ← c.row.ensures.0) (read-back c.sender_of.ensures.0)
