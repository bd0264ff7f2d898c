-- `columns::skip::block_end` meets its contract: a whole block, or what is left.
use mathlib.Core.Logic.{inl, inr}
use mathlib.Core.Path.{refl}
use native.Mathlib.Omega.{arith}
use borrow.Author.Rules.{rules}
use Rattle.columns.proofs.skip.block_end.Goals as goal

pub returns-then-n-at-lt64 : goal.returns-then-n-at-lt64
returns-then-n-at-lt64 c = (search rules, search rules, omega arith, inl refl)

pub returns : goal.returns
returns c = (search rules, search rules, search rules, inr refl)
