-- The report at the end of the run, by its lines, and the parts in which they are printed.
use Rattle.std.specs.Prelude.{List, [], ◌∷◌, ◌++◌, ℕ, suc, ◌+◌, ◌-◌, get_or, take, drop}
use Rattle.model.specs.Basics.{pick}
use Rattle.model.specs.Tables.{Table}
use Rattle.model.specs.Layout.{table_of}
use Rattle.model.specs.Boards.{Board, Message, Status, is_consumed}
use Rattle.model.specs.Pools.{match_reads, quiet}
use Rattle.model.specs.Printing.{match_line, open_line, quiet_line}
use Rattle.boards.specs.Layout.{Lists}
use Rattle.refusals.specs.Held.{held_of}
use Rattle.refusals.specs.Calls.{board_of}

-- rule 8.5: the line of a consumed message is empty
abbrev pub item_line : ℕ → Status → List ℕ
item_line n s = pick (is_consumed s) [] (open_line n s)

abbrev pub message_line : ℕ → Message → List ℕ
message_line n x = item_line n x.status

-- a line for each of a list, the first with number k
abbrev pub numbered : {A : Type 0} → (ℕ → A → List ℕ) → ℕ → List A → List (List ℕ)
numbered f k [] = []
numbered f k (x ∷ xs) = f k x ∷ numbered f (suc k) xs

-- rule 8.5
unfoldable pub report_lines : Table → Board → List (List ℕ)
report_lines t b =
    numbered match_line 0 (match_reads t b) ++ (numbered message_line 0 b.messages ++ (quiet_line (quiet b) ∷ []))

-- the same on lists that the first tests accept
abbrev pub lines_on : List ℕ → Lists → List (List ℕ)
lines_on s l = report_lines (table_of s) (board_of s (held_of l))

-- how many they are, by the board's numbers
abbrev pub line_count : List ℕ → ℕ
line_count board = get_or board 1 0 + get_or board 0 0 + 1

-- lines one after another
abbrev pub all_lines : List (List ℕ) → List ℕ
all_lines [] = []
all_lines (w ∷ ws) = w ++ all_lines ws

-- numbers k to n - 1 of a list
abbrev pub between : {A : Type 0} → ℕ → ℕ → List A → List A
between k n xs = take (n - k) (drop k xs)
