-- `looks::missed` meets its contract.
use mathlib.Core.Path.{ap, ◌∙◌}
use lib.ListN.{get_or}
use Rattle.model.specs.Layout.{table_of}
use Rattle.model.specs.Tables.{chord_at}
use Rattle.model.specs.Boards.{message_at}
use Rattle.columns.specs.Columns.{columns_by, board_by}
use Rattle.columns.proofs.Messages.{nth-channel}
use Rattle.looks.proofs.Looking.{nth-property, nth-unit, missed-is}
use Rattle.looks.proofs.missed.Goals as goal

pub returns : goal.returns
returns c =
    let g = c.want_of-want in
    let a = c.args in
    let t = table_of a.table.now in
    let j = a.d.job in
    λ o e.
    let m = columns_by a.channels.now a.keys.now a.statuses.now o in
    let b = board_by a.channels.now a.keys.now a.statuses.now a.n o in
    rw c.works.ensures
    (missed-is t b a.d a.k c.next_chord-next.result g.result.channel c.some_claimed-claimed.result g.ensures.0
    (c.some_claimed-claimed.ensures o (chord_at t j.chord) (message_at b j.subject).sent e
    (g.ensures.2 _ (nth-property m a.n j.subject c.requires.k_bound.1)
    (nth-unit m a.n j.subject c.requires.k_bound.1 ∙ ap (λ us. get_or us j.subject 0) e)))
    (c.next_chord-next.ensures b (nth-channel m a.n j.subject c.requires.k_bound.1)))
