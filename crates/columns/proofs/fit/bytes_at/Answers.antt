-- `columns::fit::bytes_at` meets its contract: the bytes below `from` are told.
use native.Mathlib.Omega.{arith}
use borrow.Author.Rules.{rules}
use Rattle.columns.proofs.Told.{told_none}
use Rattle.columns.proofs.fit.bytes_at.Goals as goal

pub loop-from-init : goal.loop-from-init
loop-from-init c = (search rules, search rules, told_none)

pub returns : goal.returns
returns c = λ k h. c.loop-from.invariant.2.below k (omega arith)
