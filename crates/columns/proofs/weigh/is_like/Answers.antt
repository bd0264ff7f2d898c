-- `columns::weigh::is_like` meets its contract, by what is wanted to be equal.
use Rattle.columns.specs.Firsts.{is_like}
use Rattle.columns.proofs.weigh.is_like.Goals as goal

pub returns-in-Any : goal.returns-in-Any
unfolding is_like
returns-in-Any c = rw c.in-Any.is

pub returns-in-Property : goal.returns-in-Property
unfolding is_like
returns-in-Property c = rw c.in-Property.is

pub returns-in-Unit : goal.returns-in-Unit
unfolding is_like
returns-in-Unit c = rw c.in-Unit.is
