-- `table::channels_len` meets its contract: the word read is the length of the table's list.
use mathlib.Core.Path.{sym, ◌∙◌}
use native.Mathlib.Omega.{arith}
use Rattle.model.proofs.Accepted.{accepted}
use Rattle.model.proofs.AcceptedChords.{length-kinds}
use Rattle.table.proofs.Places.{counts-in}
use Rattle.table.proofs.channels_len.Goals as goal

pub word_at-requires : goal.word_at-requires
word_at-requires c = let k = counts-in _ c.requires in (omega arith, k.long)

pub overflow_cast-result : goal.overflow_cast-result
overflow_cast-result c = let a = accepted _ c.requires in omega (arith, c.word_at.ensures)

pub returns : goal.returns
returns c = c.word_at.ensures ∙ sym (length-kinds _ (accepted _ c.requires))
