-- `reads::match_read` meets its contract: the match's numbers are of messages with these cents.
use Rattle.std.proofs.Common.{ℕ, ◌<◌, length, get_or, rules}
use Rattle.std.proofs.lemmas.Int.{to_z-of_z}
use mir.Syntax.{w64}
use mir.Val.{SFits}
use Rattle.model.specs.Boards.{message_at}
use Rattle.model.specs.Layout.{table_of}
use Rattle.columns.specs.MatchColumns.{match_in}
use Rattle.reads.proofs.match_read.Goals as goal

pub returns-clause-by_index : goal.returns-clause-by_index
unfolding match_in
returns-clause-by_index c =
    let a = c.args in
    let ns = c.match_numbers-numbers.result.now in
    let below : (j : ℕ) → j < length ns → get_or ns j 0 < a.n =
    rw c.match_numbers-numbers.ensures.0 c.requires.readable.numbers-below in
    λ b h.
    let e = c.cents_of.ensures (table_of a.table.now) (λ i. (message_at b i).sent) (λ j l. h _ (below j l)) in
    let fits : SFits w64 c.cents_of.result = search rules in
    rw (to_z-of_z w64 _ fits, c.from.ensures, c.copied.ensures.0, e, c.match_numbers-numbers.ensures.0)
