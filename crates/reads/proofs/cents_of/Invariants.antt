use Rattle.std.proofs.Common.{◌≡◌, ◌*◌, drop, pos, ◌+ℤ◌, neg_ℤ, ◌≤ℤ◌}
use Rattle.model.specs.Tables.{Table}
use Rattle.model.specs.Boards.{cents_of}
use Rattle.reads.proofs.Sums.{sent_by}
use Rattle.reads.proofs.cents_of.Given as goal

abbrev pub invariant-loop-k : goal.invariant-loop-k
invariant-loop-k l =
    ((t : Table) → l.sum +ℤ cents_of t (sent_by l.cents) (drop l.k-index l.numbers)
    ≡ cents_of t (sent_by l.cents) l.numbers)
    × (neg_ℤ (pos (1000000000000 * l.k-index)) ≤ℤ l.sum) × (l.sum ≤ℤ pos (1000000000000 * l.k-index))
