-- `codec::read_table` meets its contract: the number decides which table is read.
use Rattle.std.proofs.Common.{sym, ◌∙◌}
use borrow.Author.Tests.{ne_eqb}
use Rattle.codec.specs.Views.{table_read}
use Rattle.model.specs.Layout.{table_of}
use Rattle.model.proofs.AcceptedChords.{table-ok}
use Rattle.codec.proofs.Views.{table-seen}
use Rattle.codec.proofs.read_table.Goals as goal

pub returns-then-number-ne0-clause-value : goal.returns-then-number-ne0-clause-value
unfolding table_read
returns-then-number-ne0-clause-value c =
    rw (← c.table_refusal-number.ensures, ne_eqb _ 0 c.if-number-ne0.true)

pub returns-clause-value : goal.returns-clause-value
unfolding table_read
returns-clause-value c =
    rw (sym c.table_refusal-number.ensures ∙ c.if-number-ne0.false, c.if-number-ne0.false, c.table_read.ensures)

pub returns-clause-table_value : goal.returns-clause-table_value
returns-clause-table_value c z =
    let s = c.args.bytes.now in
    rw c.table_read.ensures (table-seen (table_of s) (table-ok s z))
