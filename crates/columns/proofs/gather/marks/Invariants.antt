use mathlib.Core.Path.{◌≡◌}
use Prim.Native.Nat.{ℕ, ◌-◌, ◌<◌, ◌≤◌}
use lib.ListN.{length, get_or}
use Rattle.columns.specs.Words.{is_one, placed}
use Rattle.columns.proofs.gather.marks.Given as goal

abbrev pub invariant-loop-i : goal.invariant-loop-i
invariant-loop-i l = (l.i ≤ 64) × (length l.z ≡ 64) × ((k : ℕ) → k < l.i → get_or l.z k 0 ≡ placed (is_one l.y k) k)

abbrev pub decreases-loop-i : goal.decreases-loop-i
decreases-loop-i l = 64 - l.i
