-- `prints::put_alone` meets its contract: a text, then a line feed.
use Rattle.std.proofs.Common.{rules}
use Rattle.prints.proofs.Texts.{then}
use Rattle.prints.proofs.put_alone.Goals as goal

pub returns-clause-printed : goal.returns-clause-printed
returns-clause-printed c = search (rules, then)
