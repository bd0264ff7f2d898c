-- `columns::weigh::rank` meets its contract. A day is a number of 32 bits.
use mathlib.Core.Path.{refl}
use Rattle.columns.proofs.Ranks.{rank_is}
use Rattle.columns.proofs.weigh.rank.Goals as goal

pub returns : goal.returns
returns c = let a = c.args in rank_is a.keys.now a.k _ refl
