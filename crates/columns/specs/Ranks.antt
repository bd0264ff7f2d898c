-- A message's rank in the order of days and numbers, and the least rank of those that pass a test (rule 4.2).
use Rattle.std.specs.Prelude.{◌≡◌, ◌⊎◌, Bool, ◌&&◌, List, ℕ, zero, suc, ◌+◌, ◌*◌, ◌<◌, ltb, get_or}
use Rattle.model.specs.Basics.{pick}
use Rattle.columns.specs.Columns.{days_at}

-- the day of message k
abbrev pub day_in : List ℕ → ℕ → ℕ
day_in keys k = get_or keys (days_at + k) 0

-- a message numbered below 65,536 has a lesser rank than another just if it comes before it; below 65,536 is day 0
unfoldable pub rank_of : (ℕ → ℕ) → ℕ → ℕ
rank_of day k = day k * 65536 + (k + 1)

-- no message's rank: above those of days of 32 bits, and of number 0
abbrev pub no_rank : ℕ
no_rank = 281474976710656

-- the best rank b so far, or x where it passes and is less
unfoldable pub better : Bool → ℕ → ℕ → ℕ
better passes x b = pick (passes && ltb x b) x b

-- the best rank b so far, or the least of n numbers from i on that pass
unfoldable pub least_from : (ℕ → ℕ) → (ℕ → Bool) → ℕ → ℕ → ℕ → ℕ
least_from day p b i zero = b
least_from day p b i (suc n) = least_from day p (better (p i) (rank_of day i) b) (suc i) n

-- b is no message's rank, or that of one below number n
abbrev pub RankBelow : (ℕ → ℕ) → ℕ → ℕ → Type 0
RankBelow day n b = (b ≡ no_rank) ⊎ ((k : ℕ) × (k < n) × (b ≡ rank_of day k))
