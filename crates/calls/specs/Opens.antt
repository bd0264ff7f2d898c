-- Open (rules 6.3 and 9.10): the numbers of an empty board (rule 1.10) with a backoff table; the other lists may hold
-- anything.
use Rattle.std.specs.Prelude.{List, ℕ, eqb, length}
use Rattle.model.specs.Basics.{unless, first_of}
use Rattle.model.specs.Boards.{backoffs_pass}
use Rattle.model.specs.Layout.{table_refusal}
use Rattle.boards.specs.Layout.{board_len}
use Rattle.rows.specs.Numbers.{board_numbers}
use Rattle.rows.specs.Fresh.{fresh_board}
use Rattle.calls.specs.Reads.{answered}

-- rule 9.10: the table's refusal, 21 for a backoff table that does not pass, then 30 for numbers of another length than
-- a board's; those who give no backoff table have the built-in one, which passes
unfoldable pub open_number : List ℕ → List ℕ → List ℕ → ℕ
open_number s rests board =
    first_of (table_refusal s) (unless (backoffs_pass rests) 21 (unless (eqb (length board) board_len) 30 0))

-- the board's list after it, as it was where refused
unfoldable pub opened_numbers : List ℕ → List ℕ → List ℕ → List ℕ
opened_numbers s rests board = answered (open_number s rests board) (board_numbers (fresh_board rests)) board
