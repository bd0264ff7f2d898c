-- `table::chord_refusal` meets its contract: the reader's number, or the test of the chord where there is none.
use mathlib.Core.Path.{sym, ◌∙◌}
use native.Mathlib.Omega.{arith}
use borrow.Author.Tests.{lt-ltb, le-ltb}
use Rattle.model.specs.Layout.{chord_refusal, count_r}
use Rattle.model.proofs.Tests.{refused-first}
use Rattle.table.proofs.Places.{counts-in}
use Rattle.table.proofs.chord_refusal.Goals as goal

pub returns-then-number-ne0 : goal.returns-then-number-ne0
unfolding chord_refusal
returns-then-number-ne0 c =
    let e = c.table_refusal-number.ensures in
    e ∙ refused-first _ _ (λ z. c.if-number-ne0.true (e ∙ z))

pub word_at-requires : goal.word_at-requires
word_at-requires c =
    let k = counts-in _ (sym c.table_refusal-number.ensures ∙ c.if-number-ne0.false) in
    (omega arith, k.long)

pub returns-then-from-chord : goal.returns-then-from-chord
unfolding chord_refusal
returns-then-from-chord c =
    let none = sym c.table_refusal-number.ensures ∙ c.if-number-ne0.false in
    let e = c.from.ensures ∙ c.word_at.ensures in
    rw (none, le-ltb c.args.chord (count_r _) (rw e at c.if-from-chord.true))

pub returns : goal.returns
unfolding chord_refusal
returns c =
    let none = sym c.table_refusal-number.ensures ∙ c.if-number-ne0.false in
    let e = c.from.ensures ∙ c.word_at.ensures in
    rw (none, lt-ltb c.args.chord (count_r _) (rw e at c.if-from-chord.false))
