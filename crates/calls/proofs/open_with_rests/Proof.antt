-- `calls::open_with_rests` meets its contract: refused by the table, the backoff table or the length, or an empty
-- board.
use mathlib.Core.Path.{◌≡◌, sym, ◌∙◌}
use mathlib.Core.Bool.{true}
use borrow.Author.Tests.{not-true, not-false}
use Rattle.model.specs.Boards.{backoffs_pass}
use Rattle.model.specs.Layout.{table_refusal}
use Rattle.model.proofs.OwnRests.{own-rests}
use Rattle.calls.proofs.OpenLaws.{opens-table, opens-no-rests, opens-none, opens-fresh}
use borrow.Author.Rules.{rules}
use Rattle.calls.proofs.open_with_rests.Statement.{statement}
use Rattle.calls.proofs.open_with_rests.Tie as tie

abbrev start : tie.Else-number-ne0 → tie.Start
start c = c.before.before.before.before.before

-- an accepted table, and a backoff table that passes
accepted : (c : tie.Else-number-ne0) → table_refusal (start c).args.table.now ≡ 0
accepted c = sym c.table_refusal-number.ensures ∙ c.if-number-ne0.false

passes : (c : tie.Else-not-bytes_pass) → backoffs_pass (start c.before.before).args.rests.now ≡ true
passes c = sym c.bytes_pass.ensures ∙ not-false _ c.if-not-bytes_pass.false-raw

returns : tie.Need-returns-then-number-ne0
returns c =
    let a = c.args in
    opens-table a.table.now a.rests.now a.board.now c.table_refusal-number.result c.table_refusal-number.ensures
    c.if-number-ne0.true

returns-2 : tie.Need-returns-then-not-bytes_pass
returns-2 c =
    let d = c.before.before in
    let a = (start d).args in
    opens-no-rests a.table.now a.rests.now a.board.now (accepted d)
    (sym c.bytes_pass.ensures ∙ not-true _ c.if-not-bytes_pass.true-raw)

returns-3 : tie.Need-returns-then-board-ne-BOARD_LEN
returns-3 c =
    let e = c.before in
    let d = e.before.before in
    let a = (start d).args in
    opens-none a.table.now a.rests.now a.board.now (accepted d) (passes e) c.if-board-ne-BOARD_LEN.true

put-fresh-requires : tie.Need-put_fresh-requires
put-fresh-requires c κs =
    let f = c.before in
    let e = f.before in
    (f.if-board-ne-BOARD_LEN.false, (own-rests.there _ (passes e)).sixteen)

returns-4 : tie.Need-returns
returns-4 c =
    let p = c.before.before in
    let f = p.before.before in
    let e = f.before in
    let d = e.before.before in
    let a = (start d).args in
    opens-fresh a.table.now a.rests.now a.board.now (accepted d) (passes e) f.if-board-ne-BOARD_LEN.false _
    p.put_fresh.ensures

pub open_with_rests_spec : {M : Type 1} → statement M
open_with_rests_spec =
    tie.close
    (tie.spec
    (λ c κs. search rules)
    returns
    (λ c κs. search rules)
    returns-2
    returns-3
    put-fresh-requires
    (λ c. search rules)
    returns-4)
