-- `refusals::rows_ok` meets its contract: the limits of all rows, and then each row by itself.
use Rattle.std.proofs.Common.{◌+◌, ◌*◌, ◌∙◌, refl, sym, rules, tests}
use Rattle.std.proofs.lemmas.Iterator.{YieldsList-from_range, serves_from_Range}
use Rattle.std.proofs.lemmas.Iterator.Search.{all_from_yields_List}
use Rattle.model.specs.Layout.{table_of}
use Rattle.refusals.specs.Rows.{row, row_ok}
use Rattle.refusals.proofs.RowWalks.{rows_all, within_at, rows-within}
use Rattle.refusals.proofs.rows_ok.Goals as goal

pub returns-then-all_within : goal.returns-then-all_within
returns-then-all_within c b sees =
    all_from_yields_List (λ i. row_ok (table_of c.args.table.now) b (row c.args.s.now (2 + 21 * i))) _ _ _
    c.all.ensures.ran (YieldsList-from_range 0 32 32 refl refl) (λ x r q k. search (rules, tests))
    ∙ rows_all (table_of c.args.table.now) b c.args.s.now 32 0

pub returns-else-all_within : goal.returns-else-all_within
returns-else-all_within c b sees =
    let a = c.args in
    let e = sym c.all_within.ensures ∙ c.if-all_within.false in
    c.if-all_within.false
    ∙ sym (rows-within (table_of a.table.now) b a.n a.k a.channels.now a.s.now sees c.type_inv.s
    (rw (← c.limits.ensures) e))

pub all-requires-clause-callable : goal.all-requires-clause-callable
all-requires-clause-callable c =
    let fits = within_at c.limits.result c.args.s.now (sym c.all_within.ensures ∙ c.if-all_within.true) in
    serves_from_Range (λ x q r. search (rules, tests)) (λ x h l. (
      λ _ _ _ _ _ _ _ _ _ _. (c.requires.s_len, l),
      λ _ _ _ _ _ _ _ _ _ row _ _ _.
          (c.requires.table_value, (row.ensures.1, rw (row.ensures.0, ← c.limits.ensures) (fits x l))),
    ))
