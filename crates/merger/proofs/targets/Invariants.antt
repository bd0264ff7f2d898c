use Rattle.std.proofs.Common.{◌≡◌, ◌+◌, ◌≤◌, drop, replicate}
use Rattle.std.proofs.lemmas.List.Edits.{sets}
use Rattle.merging.specs.Merges.{targets}
use Rattle.merger.proofs.targets.Given as goal

abbrev pub invariant-loop-i : goal.invariant-loop-i
invariant-loop-i l =
    (l.next ≤ l.n + l.i)
    × (sets l.out l.i (targets l.next (drop l.i l.map)) ≡ sets (replicate 16 0) 0 (targets l.n l.map))
