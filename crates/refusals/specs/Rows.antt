-- The tests of a sender by its 21 numbers (rules 3.4 to 3.6 and 6.2), and of the numbers beside the senders.
use Rattle.std.specs.Prelude.{Bool, true, ◌&&◌, List, [], ◌∷◌, ℕ, zero, suc, ◌+◌, ◌*◌, leb, get_or, drop, take}
use Rattle.std.specs.List.{range_with_len}
use Rattle.model.specs.Basics.{every}
use Rattle.model.specs.Tables.{Table}
use Rattle.model.specs.Boards.{Board, Sender, backoffs_pass}
use Rattle.model.specs.Shares.{shares_ok}
use Rattle.model.specs.Sound.{sender_ok}
use Rattle.soundness.specs.Tests.{each_below}
use Rattle.state.specs.declared.Sender as DD
use Rattle.state.specs.Views.{sender_in}
use Rattle.boards.specs.Layout.{tallies_in, backoffs_in}
use Rattle.rows.specs.Numbers.{encodes_sender}
use Rattle.rows.specs.Decoded.{sender_from, senders_from}

-- the 21 numbers from a place on
abbrev pub row : List ℕ → ℕ → List ℕ
row s at = take 21 (drop at s)

-- each of the first 16 is at most its limit
unfoldable pub within : List ℕ → List ℕ → Bool
within most a = each_below 16 (λ i. leb (get_or a i 0) (get_or most i 0))

-- so are those of each of the 32 senders of a board's numbers
unfoldable pub all_within : List ℕ → List ℕ → Bool
all_within most s = every (λ i. within most (row s (2 + 21 * i))) (range_with_len 0 32)

-- the limits on a board of n messages and k matches; 65,535 is none
abbrev pub limits : ℕ → ℕ → List ℕ
limits n k =
    2 ∷ 1 ∷ n ∷ n ∷ k ∷ k ∷ 65535 ∷ 255 ∷ 9 ∷ 255 ∷ 65535 ∷ 1 ∷ 255 ∷ 65535 ∷ 65535 ∷ 65535 ∷ []

-- the sender of 21 numbers, as the model's
abbrev pub row_sender : Table → List ℕ → Sender
row_sender t a = sender_in t (sender_from a)

-- 21 numbers are those of a sender that is sound on the board
unfoldable pub row_ok : Table → Board → List ℕ → Bool
row_ok t b a = encodes_sender a && sender_ok t b (row_sender t a)

-- n senders, one after another
unfoldable pub rows_ok : Table → Board → ℕ → List ℕ → Bool
rows_ok t b zero s = true
rows_ok t b (suc n) s = row_ok t b (take 21 s) && rows_ok t b n (drop 21 s)

-- the 32 senders of a board's numbers
abbrev pub senders_in : List ℕ → List DD.Sender
senders_in s = senders_from 32 (drop 2 s)

-- rules 3.1, 9.9 and 9.10: the counts, the tallies and the backoff table of a board's numbers
abbrev pub counts_ok : List ℕ → Bool
counts_ok s =
    (leb (get_or s 0 0) 1024 && leb (get_or s 1 0) 1024)
    && (shares_ok (tallies_in s) (get_or s 0 0) && backoffs_pass (backoffs_in s))
