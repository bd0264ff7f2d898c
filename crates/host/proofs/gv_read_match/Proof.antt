-- `host::gv_read_match` meets its contract: refused, a short slice, or the eleven numbers.
use mathlib.Core.Path.{sym, ◌∙◌, ap}
use Rattle.model.specs.Pools.{MatchRead}
use native.Mathlib.Omega.{arith}
use Rattle.boards.specs.Calls.{Held}
use Rattle.boards.specs.Layout.{lists}
use Rattle.refusals.specs.Held.{held_in}
use Rattle.host.specs.Reads.{of_match, match_numbers, stored_in}
use Rattle.host.proofs.Ways.{read-refused, read_short, read-given}
use borrow.Author.Rules.{rules}
use Rattle.host.proofs.gv_read_match.Statement.{statement}
use Rattle.host.proofs.gv_read_match.Tie as tie

-- where the function starts, and what the lent lists hold
abbrev start : tie.After-read_match-read → tie.Start
start c = c.before.before.before.before.before.before

abbrev given : tie.Start → Held
given s =
    let a = s.args in
    held_in (lists a.board.now a.bytes.now a.links.now a.keys.now a.cents.now)

returns : tie.Need-returns-then-number-ne0
returns c =
    let q = c.before in
    let s = start q in
    read-refused s.args.table.now (given s) (of_match s.args.k) s.args.out.now _
    q.read_match-read.ensures.0 c.if-number-ne0.true

returns-2 : tie.Need-returns-then-out-lt11
returns-2 c =
    let i = c.before in
    let q = i.before in
    let s = start q in
    read_short s.args.table.now (given s) (of_match s.args.k) s.args.out.now
    (sym i.if-number-ne0.false ∙ q.read_match-read.ensures.0) c.if-out-lt11.true

returns-3 : tie.Need-returns
returns-3 c =
    let p = c.before in
    let j = p.before.before.before in
    let i = j.before in
    let q = i.before in
    let s = start q in
    read-given s.args.table.now (given s) (of_match s.args.k) s.args.out.now _
    (sym i.if-number-ne0.false ∙ q.read_match-read.ensures.0) (omega (arith, j.if-out-lt11.false))
    (p.put_match.ensures
    ∙ ap (λ (x : MatchRead). stored_in (match_numbers x) s.args.out.now) q.read_match-read.ensures.1.0)

pub gv_read_match_spec : {M : Type 1} → statement M
gv_read_match_spec =
    tie.close
    (tie.spec (λ c κs. search rules) returns returns-2 (λ c κs. search rules) (λ c. search rules) returns-3)
