use mathlib.Core.Path.{◌≡◌}
use Rattle.model.specs.Layout.{table_of}
use Rattle.chords.specs.Naming.{next_naming}
use Rattle.chords.proofs.next_naming.Given as goal

abbrev pub invariant-loop-i : goal.invariant-loop-i
invariant-loop-i l = next_naming (table_of l.table) l.channel l.from ≡ next_naming (table_of l.table) l.channel l.i
