-- Laws of a block that is passed over, since none of it comes before the best so far.
use mathlib.Core.Path.{◌≡◌, refl}
use mathlib.Core.Logic.{◌≢◌, inl, inr}
use mathlib.Core.Bool.{Bool, true, false, ◌&&◌}
use mathlib.Core.List.{List}
use Prim.Native.Nat.{ℕ, zero, suc, ◌+◌, ◌-◌, ◌/◌, ◌^◌, ◌<◌, ◌≤◌}
use native.Mathlib.Omega.{arith}
use lib.Dec.{ltb}
use borrow.Author.Tests.{ltb-false}
use Rattle.model.specs.Basics.{pick}
use Rattle.columns.specs.Firsts.{first_from, found, of_day_before}
use Rattle.columns.specs.Ranks.{day_in, rank_of, no_rank, better, least_from, RankBelow}
use Rattle.columns.proofs.Firsts.{not_found, none_passes}
use Rattle.columns.proofs.Ranks.{better-later}

-- a message from number n on that is not of a day before that of the best comes after it
rank-later : (day : ℕ → ℕ) (n b : ℕ) → n ≤ 1024 → b ≢ no_rank → RankBelow day n b → (k : ℕ) → n ≤ k
    → ltb (day k) (b / 65536) ≡ false → b ≤ rank_of day k
unfolding rank_of
rank-later day n b few some (inl e) k l f = absurd (some e)
rank-later day n b few some (inr (j, h, e)) k l f = let d = ltb-false (day k) (b / 65536) f in omega arith

-- none of a block passes
none_in : (p : ℕ → Bool) (at : ℕ) → found (first_from p at (at + 64 - at)) ≡ false → (k : ℕ) → at ≤ k → k < at + 64
    → p k ≡ false
none_in p at e k h l = none_passes p at (at + 64 - at) (not_found _ e) k h (omega arith)

-- the day of the best is of 32 bits, as those of messages are
pub rank-day : (day : ℕ → ℕ) (n b : ℕ) → n ≤ 1024 → b ≢ no_rank → RankBelow day n b → ((k : ℕ) → day k < 2 ^ 32)
    → b / 65536 < 2 ^ 32
unfolding rank_of
rank-day day n b few some (inl e) days = absurd (some e)
rank-day day n b few some (inr (j, h, e)) days = let d = days j in omega arith

-- a block of which none is of a day before that of the best so far leaves it
pub none_before : (keys : List ℕ) (best at : ℕ) → RankBelow (day_in keys) at best → at ≤ 1024 → best ≢ no_rank
    → found (first_from (of_day_before keys (best / 65536)) at (at + 64 - at)) ≡ false
    → (t : Bool) (k : ℕ) → at ≤ k → k < at + 64 → better t (rank_of (day_in keys) k) best ≡ best
unfolding of_day_before
none_before keys best at r few some e t k h l =
    better-later t (rank_of (day_in keys) k) best
    (rank-later (day_in keys) at best few some r k h (none_in _ at e k h l))

-- ranks of messages below a number
module _ (day : ℕ → ℕ) where
  pub below_more : (n m b : ℕ) → n ≤ m → RankBelow day n b → RankBelow day m b
  below_more n m b l (inl e) = inl e
  below_more n m b l (inr (k, h, e)) = inr (k, omega arith, e)

  better-below : (t : Bool) (i b : ℕ) → RankBelow day i b → RankBelow day (suc i) (better t (rank_of day i) b)
  unfolding better
  better-below t i b r = go (t && ltb (rank_of day i) b)
    where
      go : (u : Bool) → RankBelow day (suc i) (pick u (rank_of day i) b)
      go true = inr (i, omega arith, refl)
      go false = below_more i (suc i) b (omega arith) r

  least-below : (p : ℕ → Bool) (b i n : ℕ) → RankBelow day i b → RankBelow day (i + n) (least_from day p b i n)
  unfolding least_from
  least-below p b i zero r = below_more i (i + 0) b (omega arith) r
  least-below p b i (suc n) r =
      let e : suc i + n ≡ i + suc n = omega arith in
      rw (← e) (least-below p (better (p i) (rank_of day i) b) (suc i) n (better-below (p i) i b r))

  -- what is found in a block is below its end
  pub block-below : (p : ℕ → Bool) (b at from to r : ℕ) → at ≤ from → from ≤ to
      → r ≡ least_from day p b from (to - from) → RankBelow day at b → RankBelow day to r
  block-below p b at from to r h l e q =
      let z : from + (to - from) ≡ to = omega arith in
      rw (← z, e) (least-below p b from (to - from) (below_more at from b h q))
