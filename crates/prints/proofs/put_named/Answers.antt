-- `prints::put_named` meets its contract: a text, then a number after a space.
use Rattle.std.proofs.Common.{rules}
use Rattle.prints.proofs.Texts.{then}
use Rattle.prints.proofs.put_named.Goals as goal

pub returns-clause-printed : goal.returns-clause-printed
returns-clause-printed c = search (rules, then)
