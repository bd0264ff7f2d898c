-- The tests of lent columns (rules 3.2 and 3.3), by the places of what they test.
use Rattle.std.specs.Prelude.{Bool, true, ◌&&◌, ◌||◌, not, List, ℕ, zero, suc, ◌*◌, eqb, leb, ltb, ℤ, pos, get_or}
use Rattle.std.specs.Prelude.{take, drop}
use Rattle.model.specs.Basics.{every}
use Rattle.model.specs.Tables.{Table, size}
use Rattle.model.specs.Boards.{Board}
use Rattle.model.specs.Adds.{cents_ok}
use Rattle.model.specs.Sound.{message_ok}
use Rattle.columns.specs.Columns.{Columns, messages_from}

-- the test holds of each number below n
unfoldable pub each_below : ℕ → (ℕ → Bool) → Bool
each_below zero f = true
each_below (suc n) f = each_below n f && f n

-- the i-th is below m
abbrev pub below : ℕ → List ℕ → ℕ → Bool
below m s i = ltb (get_or s i 0) m

-- rule 3.2: the i-th amount is in range
abbrev pub in_range : List ℤ → ℕ → Bool
in_range cents i = cents_ok (get_or cents i (pos 0))

-- rule 3.2: the i-th link is at most m, and there where the status asks for it
abbrev pub link_ok : List ℕ → List ℕ → ℕ → ℕ → ℕ → Bool
link_ok links statuses m asks i =
    leb (get_or links i 0) m && (not (eqb (get_or statuses i 0) asks) || leb 1 (get_or links i 0))

-- rule 3.3: the numbers of the i-th match, as many as its chord has channels, are below m
abbrev pub numbers_ok : Table → List ℕ → List ℕ → ℕ → ℕ → Bool
numbers_ok t chords messages m i = each_below (size t (get_or chords i 0)) (below m (drop (8 * i) messages))

-- rules 3.2 and 6.2: of n messages in columns the bytes are statuses, and each is sound on the board
abbrev pub messages_ok : Table → Board → Columns → ℕ → Bool
messages_ok t b c n = every (λ x. leb x 3) (take n c.statuses) && every (message_ok t b) (messages_from c 0 n)
