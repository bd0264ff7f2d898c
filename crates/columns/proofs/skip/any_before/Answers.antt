-- `columns::skip::any_before` meets its contract: what is found so far, or in what is left.
use mathlib.Core.Path.{refl}
use native.Mathlib.Omega.{arith}
use borrow.Author.Rules.{rules}
use Rattle.columns.specs.Firsts.{of_day_before}
use Rattle.columns.proofs.Firsts.{found_turn, found-end}
use Rattle.columns.proofs.skip.any_before.Goals as goal

pub loop-i-init : goal.loop-i-init
loop-i-init c = (search rules, refl)

pub loop-i-preserved : goal.loop-i-preserved
unfolding of_day_before
loop-i-preserved c =
    let a = c.args in (
      search rules,
      found_turn (of_day_before a.keys.now a.day) c.loop-i.any _ c.loop-i.i a.to
          (omega arith) c.loop-i.invariant.1,
    )

pub returns : goal.returns
returns c =
    found-end _ c.loop-i.any _ c.loop-i.i c.args.to (omega arith) c.loop-i.invariant.1
