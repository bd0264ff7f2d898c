-- `gevnyusto::serve` meets its contract: it makes turns, each of which leaves what the next asks.
use Rattle.boards.specs.Layout.{lists}
use Rattle.printouts.specs.Stages.{Stands}
use Rattle.printouts.specs.Prints.{Turned}
use Rattle.gevnyusto.proofs.serve.Given as goal

abbrev pub invariant-loop : goal.invariant-loop
invariant-loop l =
    let i = l.initial in
    let now = lists l.board l.bytes l.links l.keys l.cents in
    Stands l.table now l.stage × Turned l.table (lists i.board i.bytes i.links i.keys i.cents) i.stage now l.stage
