-- `columns::skip::block_from` meets its contract: no block is passed over, or those without such a message.
use native.Mathlib.Omega.{arith}
use borrow.Author.Rules.{rules}
use Rattle.columns.proofs.skip.block_from.Goals as goal

pub returns-then-best-ne-NO_RANK : goal.returns-then-best-ne-NO_RANK
returns-then-best-ne-NO_RANK c = (search rules, search rules, search rules, λ k h l. absurd (omega arith))
