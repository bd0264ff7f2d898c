use Rattle.std.proofs.Common.{◌≡◌, ◌+◌, drop}
use Rattle.std.proofs.lemmas.List.Edits.{sets}
use Rattle.merger.specs.Asks.{chords_for}
use Rattle.merger.proofs.chords_after.Given as goal

abbrev pub invariant-loop-i : goal.invariant-loop-i
invariant-loop-i l =
    sets l.chords (l.at + l.i) (drop l.i (chords_for l.targets l.second))
    ≡ sets l.fn.chords l.at (chords_for l.targets l.second)
