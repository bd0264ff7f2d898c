-- `calls::read_reply` meets its contract: refused as every board call, or no such sender, or its reply.
use mathlib.Core.Path.{◌≡◌, sym, ◌∙◌}
use native.Mathlib.Omega.{arith}
use Rattle.boards.specs.Layout.{Lists, lists}
use Rattle.refusals.specs.Held.{held_in}
use Rattle.refusals.specs.Calls.{refusal_of}
use Rattle.calls.proofs.ReadLaws.{reply-refused, reply-none}
use Rattle.calls.proofs.ListReads.{numbers_len, reply_is}
use borrow.Author.Rules.{rules}
use Rattle.calls.proofs.read_reply.Statement.{statement}
use Rattle.calls.proofs.read_reply.Tie as tie

-- where the function starts, and what is lent
abbrev start : tie.After-board_refusal-number → tie.Start
start c = c.before.before.before.before.before.before

abbrev lent : tie.Start → Lists
lent s =
    let a = s.args in
    lists a.board.now a.bytes.now a.links.now a.keys.now a.cents.now

-- lists that are not refused
accepted : (c : tie.Else-number-ne0) → let s = start c.before in
    refusal_of s.args.table.now (held_in (lent s)) ≡ 0
accepted c = sym c.board_refusal-number.ensures ∙ c.if-number-ne0.false

returns : tie.Need-returns-then-number-ne0
returns c =
    let q = c.before in
    let s = start q in
    reply-refused s.args.table.now (held_in (lent s)) q.board_refusal-number.result q.board_refusal-number.ensures
    c.if-number-ne0.true s.args.i

returns-2 : tie.Need-returns-then-i-ge32
returns-2 c =
    let d = c.before in
    let s = start d.before in
    reply-none s.args.table.now (held_in (lent s)) (accepted d) s.args.i (omega (arith, c.if-i-ge32.true))

shared-slice-read-t14 : tie.Need-bounds-board-at
shared-slice-read-t14 c =
    let d = c.before.before in
    let s = start d.before in
    omega (arith, c.if-i-ge32.false, numbers_len s.args.table.now (lent s) (accepted d))

returns-3 : tie.Need-returns
returns-3 c =
    let d = c.before.before in
    let s = start d.before in
    reply_is s.args.table.now (lent s) (accepted d) s.args.i (omega (arith, c.if-i-ge32.false))

pub read_reply_spec : {M : Type 1} → statement M
read_reply_spec =
    tie.close
    (tie.spec
    (λ c κs. search rules)
    returns
    returns-2
    (λ c. search rules)
    (λ c. search rules)
    (λ c. search rules)
    (λ c. search rules)
    shared-slice-read-t14
    returns-3)
