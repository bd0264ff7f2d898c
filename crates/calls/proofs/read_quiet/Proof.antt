-- `calls::read_quiet` meets its contract: refused as every board call, or what the senders' numbers say.
use mathlib.Core.Path.{◌≡◌, sym, ◌∙◌}
use Rattle.model.specs.Layout.{table_of}
use Rattle.boards.specs.Layout.{Lists, lists, columns_in, matches_in}
use Rattle.refusals.specs.Held.{held_in}
use Rattle.refusals.specs.Calls.{refusal_of}
use Rattle.calls.proofs.ReadLaws.{quiet-refused}
use Rattle.calls.proofs.ListReads.{numbers_len, quiet_is}
use borrow.Author.Rules.{rules}
use Rattle.calls.proofs.read_quiet.Statement.{statement}
use Rattle.calls.proofs.read_quiet.Tie as tie

-- where the function starts, and what is lent
abbrev start : tie.After-board_refusal-number → tie.Start
start c = c.before.before.before.before.before.before

abbrev lent : tie.Start → Lists
lent s =
    let a = s.args in
    lists a.board.now a.bytes.now a.links.now a.keys.now a.cents.now

-- lists that are not refused
accepted : (c : tie.Else-number-ne0) → let s = start c.before in
    refusal_of s.args.table.now (held_in (lent s)) ≡ 0
accepted c = sym c.board_refusal-number.ensures ∙ c.if-number-ne0.false

returns : tie.Need-returns-then-number-ne0
returns c =
    let q = c.before in
    let s = start q in
    quiet-refused s.args.table.now (held_in (lent s)) q.board_refusal-number.result q.board_refusal-number.ensures
    c.if-number-ne0.true

is-quiet-requires : tie.Need-is_quiet-requires
is-quiet-requires c κs =
    let s = start c.before in
    numbers_len s.args.table.now (lent s) (accepted c)

returns-2 : tie.Need-returns
returns-2 c =
    let d = c.before in
    let s = start d.before in
    let t = s.args.table.now in
    let w = c.is_quiet.ensures (table_of t) (columns_in (lent s)) (matches_in (lent s)) in
    (sym (accepted d), w ∙ quiet_is t (lent s) (accepted d))

pub read_quiet_spec : {M : Type 1} → statement M
read_quiet_spec = tie.close (tie.spec (λ c κs. search rules) returns is-quiet-requires returns-2)
