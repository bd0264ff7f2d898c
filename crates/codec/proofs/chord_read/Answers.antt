-- `codec::chord_read` meets its contract: field by field.
use Rattle.std.proofs.Common.{rules}
use Rattle.model.proofs.AcceptedChords.{table-ok}
use Rattle.table.proofs.Equalities.{equality-for}
use Rattle.codec.specs.Views.{chord_for}
use Rattle.codec.proofs.chord_read.Goals as goal

pub padded-requires : goal.padded-requires
padded-requires c =
    let few = (table-ok _ c.requires.0).chord_few c.args.chord c.requires.1 in
    (search rules, rw c.members.ensures few)

pub returns : goal.returns
unfolding chord_for
returns c =
    let e = rw c.members.ensures at c.padded.ensures in
    cc (equality-for c.chord_equal.result c.chord_equal.ensures)
