-- `reports::put_line` meets its contract: a match, a message, or the last line.
use Rattle.std.proofs.Common.{arith}
use Rattle.model.specs.Layout.{table_of}
use Rattle.boards.specs.Layout.{lists, columns_in, matches_in}
use Rattle.reports.proofs.ListLines.{table-passed, few, countable, match-readable}
use Rattle.reports.proofs.ListLines.{match-printed, open-printed, last-printed}
use Rattle.reports.proofs.put_line.Goals as goal

pub bounds-board-0 : goal.bounds-board-0
bounds-board-0 c = omega (arith, (countable _ _ c.requires.accepted).0)

pub bounds-board-1 : goal.bounds-board-1
bounds-board-1 c = omega (arith, (countable _ _ c.requires.accepted).0)

pub put_match_line-requires-clause-table_value : goal.put_match_line-requires-clause-table_value
put_match_line-requires-clause-table_value c =
    let a = c.requires.accepted in (table-passed _ _ a, a.sized.bytes-len, a.sized.links-len)

pub put_match_line-requires-clause-readable : goal.put_match_line-requires-clause-readable
put_match_line-requires-clause-readable c = match-readable _ _ c.requires.accepted c.args.n c.if-n-matches.true

pub returns-then-n-matches-clause-printed : goal.returns-then-n-matches-clause-printed
returns-then-n-matches-clause-printed c =
    match-printed _ _ c.args.n c.if-n-matches.true c.put_match_line.ensures.by_index

pub put_open_line-requires : goal.put_open_line-requires
put_open_line-requires c =
    let a = c.requires.accepted in
    (a.sized.bytes-len, omega (arith, c.if-n-matches-2.true, few _ _ a), omega arith)

pub returns-then-n-matches-2-clause-printed : goal.returns-then-n-matches-2-clause-printed
returns-then-n-matches-2-clause-printed c =
    open-printed _ _ c.args.n _ (omega (arith, c.if-n-matches.false)) c.if-n-matches-2.true
    c.put_open_line.ensures.printed

pub is_quiet-requires : goal.is_quiet-requires
is_quiet-requires c = (countable _ _ c.requires.accepted).0

pub returns-clause-printed : goal.returns-clause-printed
returns-clause-printed c =
    let a = c.args in
    let l = lists a.board.now a.bytes.now a.links.now a.keys.now a.cents.now in
    let e = c.is_quiet.ensures (table_of a.table.now) (columns_in l) (matches_in l) in
    last-printed _ _ a.n (omega (arith, c.if-n-matches-2.false, c.if-n-matches.false)) (rw e at c.put_quiet.ensures)
