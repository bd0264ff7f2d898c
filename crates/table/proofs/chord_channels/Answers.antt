-- `table::chord_channels` meets its contract: a chord that is not refused has its members as the part.
use mathlib.Core.Path.{sym, ◌∙◌}
use native.Mathlib.Omega.{arith}
use borrow.Author.Tests.{ne_eqb}
use Rattle.model.specs.Layout.{chord_refusal, chord_part}
use Rattle.model.proofs.AcceptedChords.{table-ok}
use Rattle.model.proofs.TableLaws.{below-count}
use Rattle.model.proofs.Survive.{tables-survive}
use Rattle.table.proofs.Places.{chord-there}
use Rattle.table.proofs.chord_channels.Goals as goal

pub returns-then-number-ne0 : goal.returns-then-number-ne0
unfolding chord_part
returns-then-number-ne0 c =
    rw (ne_eqb (chord_refusal _ _) 0 (λ z. c.if-number-ne0.true (c.chord_refusal-number.ensures ∙ z)))

pub overflow_cast-chord : goal.overflow_cast-chord
overflow_cast-chord c =
    let t = chord-there c.args.table.now c.args.chord (sym c.chord_refusal-number.ensures ∙ c.if-number-ne0.false) in
    let k = table-ok _ t.0 in
    omega arith

pub members-requires : goal.members-requires
members-requires c = chord-there _ _ (sym c.chord_refusal-number.ensures ∙ c.if-number-ne0.false)

pub returns : goal.returns
returns c =
    let a = c.args in
    let t = chord-there a.table.now a.chord (sym c.chord_refusal-number.ensures ∙ c.if-number-ne0.false) in
    c.members.ensures ∙ sym (tables-survive.part a.table.now a.chord t.0 (below-count a.table.now a.chord t.0 t.1))
