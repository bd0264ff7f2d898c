use Rattle.std.proofs.Common.{◌≡◌, ◌+◌, ◌≤◌, length, drop}
use Rattle.std.proofs.lemmas.List.Edits.{sets}
use Rattle.merging.specs.Merges.{new_kinds}
use Rattle.merger.specs.Asks.{count_new}
use Rattle.merger.proofs.kinds_after.Given as goal

abbrev pub invariant-loop-m : goal.invariant-loop-m
invariant-loop-m l =
    let i = length l.yielded in
    (l.n + count_new (drop i l.map) ≤ 16)
    × (sets l.kinds l.n (new_kinds (drop i l.map) (drop i l.second)) ≡ sets l.fn.kinds l.at (new_kinds l.map l.second))
