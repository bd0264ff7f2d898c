-- `prints::put_answer` meets its contract: the word, its number where it has one, and a line feed.
use Rattle.prints.proofs.Texts.{then}
use Rattle.prints.proofs.put_answer.Goals as goal

pub returns-clause-printed : goal.returns-clause-printed
returns-clause-printed c =
    rw (rw c.in-Some.is at c.word_and_number-number.ensures.line) (then c.put_named-next.ensures.printed c.put.ensures)
