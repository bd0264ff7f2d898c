-- `writes::put_added` meets its contract: the message is written whole, or nothing is.
use Rattle.writes.proofs.Places.{added-one}
use Rattle.writes.proofs.put_added.Goals as goal

pub returns-clause-lists : goal.returns-clause-lists
returns-clause-lists c = λ b. rw c.in-Some.is (c.put_message.ensures b)

pub returns-clause-board : goal.returns-clause-board
returns-clause-board c =
    rw c.in-Some.is (added-one _ c.requires.board.0 _ _ c.requires.board.1 c.from.ensures c.in-Some.x)
