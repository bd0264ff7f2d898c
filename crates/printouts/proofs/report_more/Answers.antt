-- `printouts::report_more` meets its contract: a part of the report.
use Rattle.printouts.proofs.StageLaws.{part-advances}
use Rattle.printouts.proofs.report_more.Goals as goal

pub returns : goal.returns
returns c =
    let q = c.requires in
    let r = c.report_part-part.ensures in
    part-advances q.stands q.ended_value.0 r.from_lt_next.0 r.from_lt_next.1 r.at_in_bounds r.out_after
