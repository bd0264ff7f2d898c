-- `table::chord_equal` meets its contract: the byte read is the entry's last.
use Rattle.model.proofs.TableLaws.{equal_is}
use Rattle.table.proofs.chord_equal.Goals as goal

pub returns : goal.returns
returns c =
    rw (
      equal_is c.args.table.now c.args.chord c.requires.0 c.requires.1,
      c.equality_of.ensures,
      c.entry_byte.ensures,
    )
