-- Merges with their numbers, and the bytes of one, by hand.
use Rattle.std.specs.Prelude.{List, [], ◌∷◌, ℕ, take, replicate}
use Rattle.model.specs.Samples.{table_p}

-- two tables, a map, the bytes of the buffer, and the number
pub record MergeSample : Type 0 where
  pub first : List ℕ
  pub second : List ℕ
  pub map : List ℕ
  pub room : ℕ
  pub number : ℕ

abbrev pub of : List ℕ → List ℕ → List ℕ → ℕ → ℕ → MergeSample
of s z ms r n = record { first = s; second = z; map = ms; room = r; number = n }

-- sixteen asynchronous channels and no chord
abbrev pub full : List ℕ
full = 16 ∷ 0 ∷ 0 ∷ 0 ∷ 0 ∷ 0 ∷ 12 ∷ 0 ∷ 28 ∷ 0 ∷ 28 ∷ 0 ∷ replicate 16 0

-- three channels, of which two are asynchronous
abbrev pub three : List ℕ
three = 3 ∷ 0 ∷ 0 ∷ 0 ∷ 0 ∷ 0 ∷ 12 ∷ 0 ∷ 15 ∷ 0 ∷ 15 ∷ 0 ∷ 0 ∷ 1 ∷ 0 ∷ []

abbrev pub merge_samples : List MergeSample
merge_samples =
    of table_p table_p (0 ∷ 1 ∷ []) 26 0 ∷
    of table_p table_p (255 ∷ 255 ∷ []) 28 0 ∷
    of table_p table_p (0 ∷ 255 ∷ []) 30 0 ∷
    of three three (2 ∷ 255 ∷ 255 ∷ []) 30 0 ∷
    -- the first's number before the second's, the second's before 17
    of (take 11 table_p) (take 19 table_p) (0 ∷ 1 ∷ []) 30 1 ∷
    of table_p (take 19 table_p) (0 ∷ []) 30 3 ∷
    -- the map's length; a channel that is not there; one named twice; kinds that differ
    of table_p table_p (0 ∷ []) 30 17 ∷
    of table_p table_p (0 ∷ 1 ∷ 255 ∷ []) 30 17 ∷
    of table_p table_p (2 ∷ 1 ∷ []) 30 17 ∷
    of table_p table_p (254 ∷ 1 ∷ []) 30 17 ∷
    of three three (0 ∷ 255 ∷ 0 ∷ []) 30 17 ∷
    of table_p table_p (1 ∷ 0 ∷ []) 30 17 ∷
    -- 17 before 18, 18 before 31
    of full table_p (16 ∷ 255 ∷ []) 30 17 ∷
    of full table_p (0 ∷ 255 ∷ []) 30 18 ∷
    of full table_p (255 ∷ 255 ∷ []) 0 18 ∷
    of table_p table_p (0 ∷ 255 ∷ []) 26 31 ∷
    of table_p table_p (0 ∷ 255 ∷ []) 27 0 ∷ []

-- table P joined with another table P: its asynchronous channel is the same, its synchronous one is new
abbrev pub two_p : List ℕ
two_p =
    0x03 ∷ 0x00 ∷ 0x02 ∷ 0x00 ∷ 0x04 ∷ 0x00 ∷ 0x0C ∷ 0x00 ∷ 0x0F ∷ 0x00 ∷ 0x17 ∷ 0x00 ∷
    0x00 ∷ 0x01 ∷ 0x01 ∷
    0x00 ∷ 0x00 ∷ 0x02 ∷ 0x01 ∷
    0x02 ∷ 0x00 ∷ 0x02 ∷ 0x01 ∷
    0x00 ∷ 0x01 ∷ 0x00 ∷ 0x02 ∷ []
