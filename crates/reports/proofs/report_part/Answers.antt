-- `reports::report_part` meets its contract: a turn prints one line more.
use Rattle.std.proofs.Common.{◌≡◌, arith}
use Rattle.boards.specs.Layout.{lists}
use Rattle.reports.proofs.PartLaws.{lined-none, lined-next, lined-text}
use Rattle.reports.proofs.ListLines.{counted, countable}
use Rattle.reports.proofs.report_part.Goals as goal

pub line_count-all-requires : goal.line_count-all-requires
line_count-all-requires c = countable _ _ c.requires.accepted

pub loop-next-init : goal.loop-next-init
loop-next-init c = lined-none c.args.out.now

pub loop-next-preserved : goal.loop-next-preserved
loop-next-preserved c =
    let a = c.args in
    let l = lists a.board.now a.bytes.now a.links.now a.keys.now a.cents.now in
    let n = counted a.table.now l in
    lined-next c.loop-next.invariant (omega arith) (omega (arith, n)) c.put_line-at.ensures.printed (omega arith)

pub returns-then-out-at-lt104-clause-out_after : goal.returns-then-out-at-lt104-clause-out_after
returns-then-out-at-lt104-clause-out_after c = lined-text c.loop-next.invariant

pub returns-clause-out_after : goal.returns-clause-out_after
returns-clause-out_after c =
    let e : c.loop-next.next ≡ c.line_count-all.result = omega arith in
    rw e at (lined-text c.loop-next.invariant)
