-- `gevnyusto::serve` meets its contract: each turn is added to those before it, until all is printed.
use Rattle.reports.proofs.ListLines.{countable}
use Rattle.printouts.proofs.Beginnings.{begun-stands}
use Rattle.printouts.proofs.TurnLaws.{turned_none, turned_more}
use Rattle.gevnyusto.proofs.serve.Goals as goal

pub loop-init : goal.loop-init
loop-init c = (begun-stands _ _ _ c.requires c.begin-stage.ensures, turned_none _ _ _)

pub is_done-requires : goal.is_done-requires
is_done-requires c = countable _ _ c.loop.invariant.0.accepted

pub loop-preserved : goal.loop-preserved
loop-preserved c =
    let r = c.in_ok-stage.ensures in
    (r.stands_2, turned_more _ _ _ _ _ _ _ c.loop.invariant.1 r.advanced)
