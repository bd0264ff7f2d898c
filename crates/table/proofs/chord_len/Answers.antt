-- `table::chord_len` meets its contract: the byte read is the size.
use mathlib.Core.Path.{sym, ◌∙◌}
use Rattle.model.proofs.TableLaws.{size_is}
use Rattle.table.proofs.chord_len.Goals as goal

pub returns : goal.returns
returns c =
    c.entry_byte.ensures ∙ sym (size_is c.args.table.now c.args.chord c.requires.0 c.requires.1)
