use mathlib.Core.Path.{◌≡◌}
use mathlib.Core.Bool.{Bool, ◌&&◌}
use Prim.Native.Nat.{ℕ, ◌-◌, ◌≤◌}
use lib.ListN.{length, take}
use Rattle.columns.specs.Firsts.{unchosen}
use Rattle.columns.specs.Words.{bit, word_from}
use Rattle.columns.proofs.clear.without_chosen.Given as goal

abbrev pub invariant-loop-i : goal.invariant-loop-i
invariant-loop-i l =
    (l.i ≤ length l.chosen)
    × ((p : ℕ → Bool) → l.word ≡ word_from (λ j. bit (p j)) l.at 64
    → l.w ≡ word_from (λ j. bit (p j && unchosen (take l.i l.chosen) j)) l.at 64)

abbrev pub decreases-loop-i : goal.decreases-loop-i
decreases-loop-i l = length l.chosen - l.i
