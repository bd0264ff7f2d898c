-- `reports::put_open_line` meets its contract: a consumed message has no line.
use Rattle.std.proofs.Common.{◌≡◌, ℕ, ◌+◌, ◌<◌, ◌≤◌, List, get_or, arith}
use Rattle.boards.specs.Layout.{statuses_in}
use Rattle.boards.proofs.PartLaws.{get_d_part}
use Rattle.prints.proofs.Texts.{none}
use Rattle.reports.proofs.BoardLines.{item-none, item-line}
use Rattle.reports.proofs.put_open_line.Goals as goal

-- the byte that is read is the message's status
status : (bs : List ℕ) (n : ℕ) → n < 1024 → get_or (statuses_in bs) n 0 ≡ get_or bs (1024 + n) 0
status bs n h = get_d_part 1024 1024 bs (1024 + n) n 0 (omega arith) h

pub returns-then-status-ge3-clause-printed : goal.returns-then-status-ge3-clause-printed
returns-then-status-ge3-clause-printed c =
    let a = c.args in
    let s = get_or a.bytes.now (1024 + a.n) 0 in
    let h : 3 ≤ s = omega (arith, rw c.from.ensures at c.if-status-ge3.true) in
    rw (status a.bytes.now a.n (omega arith), item-none a.n s h) (none a.out.now a.at)

pub returns-clause-printed : goal.returns-clause-printed
returns-clause-printed c =
    let a = c.args in
    let s = get_or a.bytes.now (1024 + a.n) 0 in
    let h : s < 3 = omega (arith, rw c.from.ensures at c.if-status-ge3.false) in
    rw (status a.bytes.now a.n (omega arith), item-line a.n s h) (rw c.from.ensures at c.put_open.ensures.printed)
