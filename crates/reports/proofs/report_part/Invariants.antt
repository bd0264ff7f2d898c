-- `reports::report_part` meets its contract: the lines so far stand in the buffer.
use Rattle.boards.specs.Layout.{lists}
use Rattle.reports.specs.Parts.{lines_on}
use Rattle.reports.proofs.PartLaws.{Lined}
use Rattle.reports.proofs.report_part.Given as goal

abbrev pub invariant-loop-next : goal.invariant-loop-next
invariant-loop-next l =
    Lined (lines_on l.table (lists l.board l.bytes l.links l.keys l.cents)) l.from l.initial.out l.next l.at l.out
