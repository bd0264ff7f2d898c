-- Words of bits: bit k of a word says yes or no of number i + k.
use Rattle.std.specs.Prelude.{◌≡◌, Bool, true, false, not, List, ℕ, zero, suc, ◌+◌, ◌*◌, ◌/◌, ◌%◌, ◌^◌, ◌<◌, eqb, length, get_or}
use Rattle.columns.specs.Ranks.{rank_of, better}

unfoldable pub bit : Bool → ℕ
bit true = 1
bit false = 0

-- the word of n bits, from number i on
unfoldable pub word_from : (ℕ → ℕ) → ℕ → ℕ → ℕ
word_from f i zero = 0
word_from f i (suc n) = f i + 2 * word_from f (suc i) n

-- byte k is 1
unfoldable pub is_one : List ℕ → ℕ → Bool
is_one y k = eqb (get_or y k 0) 1

-- of sixty-four bytes those below number n are the yes or no of the numbers from `at` on
pub record Told (p : ℕ → Bool) (at n : ℕ) (y : List ℕ) : Type 0 where
  pub all : length y ≡ 64
  pub below : (k : ℕ) → k < n → get_or y k 0 ≡ bit (p (at + k))

-- a yes or no at its place among eight
unfoldable pub placed : Bool → ℕ → ℕ
placed b k = bit b * 2 ^ (k % 8)

-- byte k is a yes
unfoldable pub is_yes : List ℕ → ℕ → Bool
is_yes y k = not (eqb (get_or y k 0) 0)

-- sixty-four bytes, each a yes or no at its place among eight
abbrev pub Marks : List ℕ → Type 0
Marks y = (k : ℕ) → k < 64 → get_or y k 0 ≡ placed (is_yes y k) k

-- the word of n of them, from number i on
abbrev pub word_of : List ℕ → ℕ → ℕ → ℕ
word_of y i n = word_from (λ k. bit (is_yes y k)) i n

-- the best rank b so far, or the least of n numbers from i on whose bit is set
unfoldable pub least_bit : (ℕ → ℕ) → ℕ → ℕ → ℕ → ℕ → ℕ
least_bit day w b i zero = b
least_bit day w b i (suc n) = least_bit day (w / 2) (better (eqb (w % 2) 1) (rank_of day i) b) (suc i) n
