use Rattle.std.proofs.Common.{◌≡◌, true}
use Rattle.model.specs.Layout.{table_of}
use Rattle.soundness.specs.Tests.{each_below, numbers_ok}
use Rattle.soundness.proofs.each_ok.Given as goal

abbrev pub invariant-loop-i : goal.invariant-loop-i
invariant-loop-i l = each_below l.i (numbers_ok (table_of l.table) l.chords l.messages l.count) ≡ true
