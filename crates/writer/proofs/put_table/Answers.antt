-- `writer::put_table` meets its contract: the four sections stored in turn are the table's bytes.
use Rattle.writer.proofs.Writes.{table-stored}
use Rattle.writer.proofs.put_table.Goals as goal

pub returns : goal.returns
returns c =
    rw (c.put_members.ensures, c.put_entries.ensures, c.put_bytes.ensures, c.put_header.ensures, c.members_len.ensures)
    (table-stored c.args.kinds.now c.args.chords.now c.args.out.now c.requires.room)
