-- `columns::clear::without_chosen` meets its contract: the first i are cleared. The measure is the number left.
use mathlib.Core.Path.{◌∙◌}
use mathlib.Core.Bool.{◌&&◌}
use native.Mathlib.Omega.{arith}
use lib.ListN.{take}
use lib.Seq.{take_all}
use borrow.Author.Rules.{rules}
use Rattle.columns.specs.Firsts.{unchosen}
use Rattle.columns.proofs.Cleared.{chosen_none, chosen_more}
use Rattle.columns.proofs.clear.without_chosen.Goals as goal

pub loop-i-init : goal.loop-i-init
loop-i-init c = (search rules, λ p e. e ∙ chosen_none p c.args.at 64)

pub loop-i-preserved : goal.loop-i-preserved
loop-i-preserved c =
    let a = c.args in
    let s = a.chosen.now in
    let i = c.loop-i.i in (
      search rules,
      λ p e. c.without-w.ensures (λ j. p j && unchosen (take i s) j) (c.loop-i.invariant.1 p e)
          ∙ chosen_more p s i a.at 64 (omega arith),
    )

pub returns : goal.returns
returns c p e =
    let a = c.args in
    rw (take_all c.loop-i.i a.chosen.now (omega arith)) at (c.loop-i.invariant.1 p e)
