-- `columns::skip::next_block` meets its contract: the blocks so far have no such message.
use mathlib.Core.Path.{sym, ◌∙◌}
use Prim.Native.Nat.{◌+◌, ◌-◌}
use native.Mathlib.Omega.{arith}
use borrow.Author.Rules.{rules}
use Rattle.model.proofs.Tests.{by-range}
use Rattle.columns.proofs.Firsts.{not_found, none_passes}
use Rattle.columns.proofs.skip.next_block.Goals as goal

pub loop-at-init : goal.loop-at-init
loop-at-init c = (search rules, search rules, search rules, λ k h l. absurd (omega arith))

pub loop-at-preserved : goal.loop-at-preserved
loop-at-preserved c =
    let at = c.loop-at.at in
    let none = none_passes _ at (at + 64 - at) (not_found _ (sym c.any_in.ensures ∙ c.if-any_in.false)) in (
      search rules,
      omega arith,
      omega arith,
      λ k h l. by-range k at (c.loop-at.invariant.3 k h) (λ m. none k m (omega arith)),
    )
