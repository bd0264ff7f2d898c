-- `refusals::senders_ok` meets its contract: each sender by itself, then no mark twice.
use Rattle.std.proofs.Common.{sym, ◌∙◌, ap}
use Rattle.model.specs.Layout.{table_of}
use Rattle.senders.proofs.Alone.{marks-shared}
use Rattle.senders.specs.Seen.{none_twice}
use Rattle.refusals.specs.Rows.{senders_in}
use Rattle.refusals.proofs.senders_ok.Goals as goal

pub returns : goal.returns
returns c b sees =
    let a = c.args in
    rw (sym (c.rows_ok.ensures b sees) ∙ c.if-not-rows_ok.false)
    (c.none_twice.ensures ∙ ap none_twice c.put_marks.ensures
    ∙ marks-shared (table_of a.table.now) (senders_in a.s.now))
