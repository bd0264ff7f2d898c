use Rattle.std.proofs.Common.{◌≡◌, map, drop, get_or, replicate}
use Rattle.std.proofs.lemmas.List.Edits.{sets}
use Rattle.merger.proofs.chord_after.Given as goal

abbrev pub invariant-loop-k : goal.invariant-loop-k
invariant-loop-k l =
    sets l.channels l.k (map (λ x. get_or l.targets x 0) (drop l.k l.x-items))
    ≡ sets (replicate 8 0) 0 (map (λ x. get_or l.targets x 0) l.x-items)
