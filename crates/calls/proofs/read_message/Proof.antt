-- `calls::read_message` meets its contract: refused as every board call, or no such message, or the message.
use mathlib.Core.Path.{◌≡◌, sym, ◌∙◌}
use native.Mathlib.Omega.{arith}
use Rattle.boards.specs.Layout.{Lists, lists}
use Rattle.refusals.specs.Held.{held_in}
use Rattle.refusals.specs.Calls.{refusal_of}
use Rattle.calls.proofs.ReadLaws.{message-refused}
use Rattle.calls.proofs.ListReads.{passed, numbers_len, messages-within, message-none, message-is, status-known}
use borrow.Author.Rules.{rules}
use Rattle.calls.proofs.read_message.Statement.{statement}
use Rattle.calls.proofs.read_message.Tie as tie

-- where the function starts, and what is lent
abbrev start : tie.After-board_refusal-number → tie.Start
start c = c.before.before.before.before.before.before

abbrev lent : tie.Start → Lists
lent s =
    let a = s.args in
    lists a.board.now a.bytes.now a.links.now a.keys.now a.cents.now

-- lists that are not refused
accepted : (c : tie.Else-number-ne0) → let s = start c.before in
    refusal_of s.args.table.now (held_in (lent s)) ≡ 0
accepted c = sym c.board_refusal-number.ensures ∙ c.if-number-ne0.false

returns : tie.Need-returns-then-number-ne0
returns c =
    let q = c.before.before in
    let s = start q in
    let w = c.no_message.ensures in
    let r = message-refused s.args.table.now (held_in (lent s)) q.board_refusal-number.result
    q.board_refusal-number.ensures c.if-number-ne0.true s.args.n in
    (r.0, (w.0 ∙ r.1, w.1))

shared-slice-read-if2 : tie.Need-bounds-board-0
shared-slice-read-if2 c =
    let d = c.before in
    let s = start d.before in
    omega (arith, numbers_len s.args.table.now (lent s) (accepted d))

returns-2 : tie.Need-returns-then-n-board
returns-2 c =
    let d = c.before.before.before in
    let s = start d.before in
    let w = c.no_message-then-n-board.ensures in
    let r = message-none s.args.table.now (lent s) (accepted d) s.args.n
    (omega (arith, c.if-n-board.true)) in
    (r.0, (w.0 ∙ r.1, w.1))

message-in-requires : tie.Need-message_in-requires
message-in-requires c κs =
    let d = c.before.before in
    let s = start d.before in
    let n = (passed s.args.table.now (lent s) (accepted d)).sized in
    let few = messages-within s.args.table.now (lent s) (accepted d) in
    ((n.bytes-len, n.links-len, omega (arith, c.if-n-board.false, few)), (n.keys-len, n.cents-len))

returns-3 : tie.Need-returns
returns-3 c =
    let e = c.before in
    let d = e.before.before in
    let s = start d.before in
    let t = s.args.table.now in
    let w = c.message_in.ensures in
    let r = message-is t (lent s) (accepted d) s.args.n (omega (arith, e.if-n-board.false)) _ w.0 in
    let known = status-known t (lent s) (accepted d) s.args.n (omega (arith, e.if-n-board.false)) in
    (r.0, (r.1, omega (arith, w.1, known)))

pub read_message_spec : {M : Type 1} → statement M
read_message_spec =
    tie.close
    (tie.spec
    (λ c κs. search rules)
    (λ c κs. search rules)
    returns
    shared-slice-read-if2
    (λ c κs. search rules)
    returns-2
    message-in-requires
    returns-3)
