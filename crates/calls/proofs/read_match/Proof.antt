-- `calls::read_match` meets its contract: refused as every board call, or no such match, or the match.
use mathlib.Core.Path.{◌≡◌, sym, ◌∙◌}
use native.Mathlib.Omega.{arith}
use Rattle.model.specs.Layout.{table_of}
use Rattle.boards.specs.Layout.{Lists, lists}
use Rattle.refusals.specs.Held.{held_in}
use Rattle.refusals.specs.Calls.{refusal_of}
use Rattle.reads.specs.Reads.{read_of}
use Rattle.calls.proofs.ReadLaws.{match-refused}
use Rattle.calls.proofs.ListReads.{passed, numbers_len, table-passed, match_none, match-readable, match_is}
use Rattle.calls.proofs.ListReads.{readable-by, match-by}
use borrow.Author.Rules.{rules}
use Rattle.calls.proofs.read_match.Statement.{statement}
use Rattle.calls.proofs.read_match.Tie as tie

-- where the function starts, and what is lent
abbrev start : tie.After-board_refusal-number → tie.Start
start c = c.before.before.before.before.before.before

abbrev lent : tie.Start → Lists
lent s =
    let a = s.args in
    lists a.board.now a.bytes.now a.links.now a.keys.now a.cents.now

-- lists that are not refused
accepted : (c : tie.Else-number-ne0) → let s = start c.before in
    refusal_of s.args.table.now (held_in (lent s)) ≡ 0
accepted c = sym c.board_refusal-number.ensures ∙ c.if-number-ne0.false

returns : tie.Need-returns-then-number-ne0
returns c =
    let q = c.before.before in
    let s = start q in
    let w = c.no_match.ensures in
    let r = match-refused s.args.table.now (held_in (lent s)) q.board_refusal-number.result
    q.board_refusal-number.ensures c.if-number-ne0.true s.args.k in
    (r.0, (w.0 ∙ r.1, w.1))

shared-slice-read-if2 : tie.Need-bounds-board-1
shared-slice-read-if2 c =
    let d = c.before in
    let s = start d.before in
    omega (arith, numbers_len s.args.table.now (lent s) (accepted d))

returns-2 : tie.Need-returns-then-k-board
returns-2 c =
    let d = c.before.before.before in
    let s = start d.before in
    let w = c.no_match-then-k-board.ensures in
    let r = match_none s.args.table.now (lent s) (accepted d) s.args.k
    (omega (arith, c.if-k-board.true)) in
    (r.0, (w.0 ∙ r.1, w.1))

chords-requires : tie.Need-chords-chords-requires
chords-requires c κs =
    let d = c.before.before in
    let s = start d.before in
    (passed s.args.table.now (lent s) (accepted d)).sized.bytes-len

members-requires : tie.Need-members-members-requires
members-requires c κs =
    let d = c.before.before.before in
    let s = start d.before in
    (passed s.args.table.now (lent s) (accepted d)).sized.links-len

shared-slice-read-match-read : tie.Need-bounds-board-0
shared-slice-read-match-read c =
    let d = c.before.before.before.before.before in
    let s = start d.before in
    omega (arith, numbers_len s.args.table.now (lent s) (accepted d))

match-read-requires : tie.Need-match_read-requires
match-read-requires c κs =
    let m = c.before in
    let h = m.before in
    let e = h.before in
    let d = e.before.before in
    let s = start d.before in
    let t = s.args.table.now in
    let r = match-readable t (lent s) (accepted d) s.args.k (omega (arith, e.if-k-board.false)) in
    (table-passed t (lent s) (accepted d), readable-by h.chords-chords.ensures.0 m.members-members.ensures.0 r)

returns-3 : tie.Need-returns
returns-3 c =
    let m = c.before.before in
    let h = m.before in
    let e = h.before in
    let d = e.before.before in
    let s = start d.before in
    let t = s.args.table.now in
    let w = c.match_read.ensures in
    let r = match_is t (lent s) (accepted d) s.args.k (omega (arith, e.if-k-board.false)) (read_of c.match_read.result)
    (match-by (table_of t) s.args.k h.chords-chords.ensures.0 m.members-members.ensures.0 w.0) in
    (r.0, (r.1, w.1))

pub read_match_spec : {M : Type 1} → statement M
read_match_spec =
    tie.close
    (tie.spec
    (λ c κs. search rules)
    (λ c κs. search rules)
    returns
    shared-slice-read-if2
    (λ c κs. search rules)
    returns-2
    chords-requires
    members-requires
    shared-slice-read-match-read
    match-read-requires
    returns-3)
