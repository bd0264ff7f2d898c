use Rattle.std.proofs.Common.{◌≡◌, ◌-◌, true, length, drop}
use Rattle.merging.specs.Merges.{joined_once}
use Rattle.merger.proofs.Walks.{Seen}
use Rattle.merger.proofs.none_twice.Given as goal

-- the bytes from here on name none twice, and are marked
abbrev pub invariant-loop-m : goal.invariant-loop-m
invariant-loop-m l =
    let left = drop (length l.map - length l.yielded) l.map in
    (joined_once left ≡ true) × (length l.seen ≡ 256) × Seen l.seen left
