use Rattle.std.proofs.Common.{◌≡◌, ◌∷◌, ◌+◌, ◌*◌, take, replicate}
use Rattle.rows.specs.Fresh.{fresh_sender}
use Rattle.rows.specs.Numbers.{senders_numbers}
use Rattle.rows.proofs.put_fresh.Given as goal

abbrev pub invariant-loop-i : goal.invariant-loop-i
invariant-loop-i l = take (2 + 21 * l.i) l.s ≡ 0 ∷ 0 ∷ senders_numbers (replicate l.i fresh_sender)
