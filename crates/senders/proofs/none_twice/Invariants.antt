-- The answer for all marks is the answer for those left.
use mathlib.Core.Path.{◌≡◌}
use lib.ListN.{drop}
use Rattle.senders.specs.Seen.{none_twice}
use Rattle.senders.proofs.none_twice.Given as goal

abbrev pub invariant-loop-i : goal.invariant-loop-i
invariant-loop-i l = none_twice l.marks ≡ none_twice (drop l.i l.marks)
