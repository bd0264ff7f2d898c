-- What the lent lists hold: the board that the numbers are, with its columns. Lists of another length, and numbers that
-- are no board's, hold nothing: columns that are empty, which every board call refuses 30.
use Rattle.std.specs.Prelude.{◌≡◌, Bool, true, false, ◌&&◌, List, [], ℕ}
use Rattle.model.specs.Basics.{pick}
use Rattle.model.specs.Layout.{table_of}
use Rattle.model.specs.Sound.{sound}
use Rattle.boards.specs.Boards.{board_in}
use Rattle.boards.specs.Calls.{Held, held, held_by}
use Rattle.boards.specs.Layout.{Lists, columns_in, matches_in, lists_ok, Sized}
use Rattle.rows.specs.Numbers.{encodes}
use Rattle.rows.specs.Decoded.{board_from}
use Rattle.refusals.specs.Judged.{statuses_ok, board_refusal}

abbrev pub nothing : Held
nothing =
    held_by (record { messages = 0; matches = 0; senders = []; closed = false; tallies = []; backoffs = [] })
    [] [] [] [] [] [] [] [] []

-- what lists of their lengths hold
abbrev pub held_of : Lists → Held
held_of l = held (board_from l.board) (columns_in l) (matches_in l)

unfoldable pub held_in : Lists → Held
held_in l = pick (lists_ok l && encodes l.board) (held_of l) nothing

-- rule 6.2: the numbers of lists of their lengths are those of a sound board
abbrev pub sound_in : List ℕ → Lists → Bool
sound_in s l =
    encodes l.board && (statuses_ok (board_from l.board).messages (columns_in l).statuses
    && sound (table_of s) (board_in (table_of s) (board_from l.board) (columns_in l) (matches_in l)))

-- rule 6.2: lists that the first tests accept
pub record Accepted (s : List ℕ) (l : Lists) : Type 0 where
  pub numbers : encodes l.board ≡ true
  pub sized : Sized l
  pub accepted : board_refusal s (board_from l.board) (columns_in l) (matches_in l) ≡ 0

-- accepted lists that hold the same are equal, number for number
abbrev pub HeldOnce : Type 0
HeldOnce = (s : List ℕ) (l m : Lists) → Accepted s l → Accepted s m → held_in l ≡ held_in m → l ≡ m
