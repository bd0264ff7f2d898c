-- `columns::gather::any_one` meets its contract: what is found so far, or in what is left.
use mathlib.Core.Path.{refl}
use native.Mathlib.Omega.{arith}
use borrow.Author.Rules.{rules}
use Rattle.columns.specs.Words.{is_one}
use Rattle.columns.proofs.Firsts.{found_turn, found-end}
use Rattle.columns.proofs.gather.any_one.Goals as goal

pub loop-i-init : goal.loop-i-init
loop-i-init c = (search rules, refl)

pub loop-i-preserved : goal.loop-i-preserved
unfolding is_one
loop-i-preserved c =
    let a = c.args in
    (search rules, found_turn (is_one a.y.now) c.loop-i.any _ c.loop-i.i 64 (omega arith) c.loop-i.invariant.1)

pub returns : goal.returns
returns c = found-end _ c.loop-i.any _ c.loop-i.i 64 (omega arith) c.loop-i.invariant.1
