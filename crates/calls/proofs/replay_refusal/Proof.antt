-- `calls::replay_refusal` meets its contract: each return is the first test that fails.
use mathlib.Core.Path.{◌≡◌, refl, sym, ◌∙◌}
use mathlib.Core.Bool.{true}
use native.Mathlib.Omega.{arith}
use borrow.Author.Tests.{not-true, not-false}
use Rattle.plays.specs.Replays.{CallRows, call_rows, rows_fit}
use Rattle.plays.proofs.ScheduleLaws.{refused-board, refused-rows, refused-room, refused_none}
use borrow.Author.Rules.{rules}
use Rattle.calls.proofs.replay_refusal.Statement.{statement}
use Rattle.calls.proofs.replay_refusal.Tie as tie

abbrev given : tie.Start → CallRows
given s = let a = s.args in call_rows a.calls.now a.numbers.now a.amounts.now

abbrev start : tie.After-rows_fit → tie.Start
start c = c.before.before.before.before

fits : (c : tie.Else-not-rows_fit) → rows_fit (given (start c.before)) ≡ true
fits c = sym c.rows_fit.ensures ∙ not-false _ c.if-not-rows_fit.false-raw

returns : tie.Need-returns-then-number-ne0
returns c =
    let s = c.before.before.before in
    refused-board s.args.number (given s) s.args.room s.args.number c.if-number-ne0.true refl

returns-2 : tie.Need-returns-then-not-rows_fit
returns-2 c =
    let k = c.before in
    let s = start k in
    refused-rows s.args.number (given s) s.args.room k.if-number-ne0.false
    (sym k.rows_fit.ensures ∙ not-true _ c.if-not-rows_fit.true-raw)

returns-3 : tie.Need-returns-then-room-amounts
returns-3 c =
    let e = c.before in
    let s = start e.before in
    refused-room s.args.number (given s) s.args.room e.if-number-ne0.false (fits e)
    (omega (arith, c.if-room-amounts.true))

returns-4 : tie.Need-returns
returns-4 c =
    let e = c.before in
    let s = start e.before in
    refused_none s.args.number (given s) s.args.room e.if-number-ne0.false (fits e)
    (omega (arith, c.if-room-amounts.false))

pub replay_refusal_spec : {M : Type 1} → statement M
replay_refusal_spec = tie.close (tie.spec returns (λ c κs. search rules) returns-2 returns-3 returns-4)
