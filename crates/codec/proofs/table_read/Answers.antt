-- `codec::table_read` meets its contract: field by field.
use Rattle.std.proofs.Common.{rules}
use Rattle.model.proofs.AcceptedChords.{table-ok}
use Rattle.codec.specs.Views.{table_for}
use Rattle.codec.proofs.table_read.Goals as goal

pub padded-requires : goal.padded-requires
padded-requires c = (search rules, rw c.kinds.ensures (table-ok _ c.requires).kinds_few)

pub returns : goal.returns
unfolding table_for
returns c =
    let e = rw c.kinds.ensures at c.padded.ensures in
    cc
