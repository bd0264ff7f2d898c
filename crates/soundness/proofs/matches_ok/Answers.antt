-- `soundness::matches_ok` meets its contract: a chord that is not in the table is a no, numbers that are all below the
-- count are a yes, and the rest is tested a match at a time.
use Rattle.std.proofs.Common.{sym, ap, ◌∙◌, ◌*◌}
use Rattle.columns.specs.MatchColumns.{matches_of}
use Rattle.soundness.proofs.Columns.{below-are}
use Rattle.soundness.proofs.Matches.{matches-are, all_are}
use Rattle.soundness.proofs.matches_ok.Goals as goal

pub each_ok-requires-clause-chords_value : goal.each_ok-requires-clause-chords_value
each_ok-requires-clause-chords_value c =
    let a = c.args in
    let i = below-are a.chords.now c.below.ensures c.chords_len.ensures c.from-n.ensures in
    rw c.from-n.ensures (sym i ∙ c.if-below.true)

pub returns-else-below : goal.returns-else-below
returns-else-below c b e =
    let a = c.args in
    let r = c.requires in
    let i = below-are a.chords.now c.below.ensures c.chords_len.ensures c.from-n.ensures in
    let m = matches-are a.table.now r.table_value (matches_of a.chords.now a.messages.now) a.k b r.k_in_bounds.0
    r.k_in_bounds.1 in
    rw (m, ← i, c.if-below.false)

pub returns-then-below-2 : goal.returns-then-below-2
returns-then-below-2 c b e =
    let a = c.args in
    let r = c.requires in
    let i = below-are a.chords.now c.below.ensures c.chords_len.ensures c.from-n.ensures in
    let j = below-are a.messages.now c.below-then-below.ensures (sym e) (ap (λ n. 8 * n) c.from-n.ensures) in
    rw c.if-below-2.true (sym (all_are a.table.now r.table_value (matches_of a.chords.now a.messages.now) a.k b
    r.k_in_bounds.0 r.k_in_bounds.1 (sym i ∙ c.if-below.true) (sym j ∙ c.if-below-2.true)))

pub returns-else-below-2 : goal.returns-else-below-2
returns-else-below-2 c b e =
    let a = c.args in
    let r = c.requires in
    let i = below-are a.chords.now c.below.ensures c.chords_len.ensures c.from-n.ensures in
    let m = matches-are a.table.now r.table_value (matches_of a.chords.now a.messages.now) a.k b r.k_in_bounds.0
    r.k_in_bounds.1 in
    rw (m, ← i, c.if-below.true, e) (rw c.from-n.ensures at c.each_ok.ensures)
