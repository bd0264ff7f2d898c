-- `consumes::consumed_to` meets its contract: the choice is among the lent messages.
use Rattle.model.specs.Layout.{table_of}
use Rattle.consumes.proofs.Telling.{all_lent}
use Rattle.consumes.proofs.consumed_to.Goals as goal

pub told_len-requires-clause-below : goal.told_len-requires-clause-below
told_len-requires-clause-below c =
    let a = c.args in
    rw (c.from.ensures, c.chord_len-len.ensures)
    (all_lent (table_of a.table.now) a.d.job.chosen a.channels.now _ a.n c.requires.phase_value.2)
