-- `writes::record_match` meets its contract: the match columns have match k, and the others stay.
use Rattle.std.proofs.Common.{arith}
use Rattle.boards.specs.Parts.{part, splice}
use Rattle.writes.proofs.Parts.{match-written}
use Rattle.writes.proofs.record_match.Goals as goal

pub returns : goal.returns
unfolding part splice
returns c = λ board keys cents. rw (c.put_chosen.ensures, c.from-n.ensures)
    (match-written _ _ board keys cents _ _ _ (omega arith) (omega arith) (omega arith))
