-- `table::entry_byte` meets its contract: the place read lies within the chord's entry.
use native.Mathlib.Omega.{arith}
use Rattle.table.proofs.Places.{counts-in, entry_in}
use Rattle.table.proofs.entry_byte.Goals as goal

pub word_at-requires : goal.word_at-requires
word_at-requires c = let k = counts-in _ c.requires.0 in (omega arith, k.long)

pub bounds-table-chords : goal.bounds-table-chords
bounds-table-chords c =
    let l = entry_in c.args.table.now c.args.chord c.requires.0 c.requires.1 in
    omega (arith, c.word_at.ensures, c.from.ensures, c.from-chords.ensures, c.requires.2)
