-- The program (rules 8.1 to 8.5): what it prints for the bytes of `rules.bin` and of standard input.
use Rattle.std.specs.Prelude.{List, [], ◌∷◌, ◌++◌, ℕ, zero, suc, eqb, take}
use Rattle.model.specs.Basics.{pick}
use Rattle.model.specs.Tables.{Table}
use Rattle.model.specs.Layout.{table_of, table_refusal}
use Rattle.model.specs.Boards.{Board, Message, empty_board, builtin_backoffs, is_consumed}
use Rattle.model.specs.Effects.{Refused}
use Rattle.model.specs.Pools.{Answer, answer_to, MatchRead, match_reads, quiet}
use Rattle.model.specs.Lines.{Line, reads, unreadable, line_of}
use Rattle.model.specs.Printing.{answer_line, match_line, open_line, quiet_line}

-- rule 8.3: what is no call answers `refused 16` and changes nothing
abbrev pub line_answer : Table → Board → Line → Answer
line_answer t b unreadable = record { said = Refused 16; board = b }
line_answer t b (reads k) = answer_to t b k

-- what has been printed, the board, and the bytes since the last line feed
pub record Session : Type 0 where
  pub text : List ℕ
  pub board : Board
  pub partial : List ℕ

-- rule 8.4: the line is answered
unfoldable pub line_ends : Table → Session → Session
line_ends t x =
    let a = line_answer t x.board (line_of x.partial) in
    record { text = x.text ++ answer_line a.said; board = a.board; partial = [] }

-- rule 8.2: a line feed ends the line
abbrev pub fed_byte : Table → Session → ℕ → Session
fed_byte t x c =
    pick (eqb c 10) (line_ends t x) (record { text = x.text; board = x.board; partial = x.partial ++ (c ∷ []) })

abbrev pub fed : Table → Session → List ℕ → Session
fed t x [] = x
fed t x (c ∷ cs) = fed t (fed_byte t x c) cs

-- rule 8.2: bytes after the last line feed are a line
abbrev pub input_ends : Table → Session → List ℕ → Session
input_ends t x [] = x
input_ends t x (c ∷ cs) = line_ends t x

-- rules 8.2 to 8.4, on an empty board
abbrev pub session_of : Table → List ℕ → Session
session_of t input =
    let x = fed t (record { text = []; board = empty_board builtin_backoffs; partial = [] }) input in
    input_ends t x x.partial

-- rule 8.5: of each match
abbrev pub match_lines : ℕ → List MatchRead → List ℕ
match_lines k [] = []
match_lines k (m ∷ ms) = match_line k m ++ match_lines (suc k) ms

-- rule 8.5: of each message that is not consumed
abbrev pub open_lines : ℕ → List Message → List ℕ
open_lines n [] = []
open_lines n (x ∷ xs) = pick (is_consumed x.status) [] (open_line n x.status) ++ open_lines (suc n) xs

-- rule 8.5
unfoldable pub report_text : Table → Board → List ℕ
report_text t b = match_lines 0 (match_reads t b) ++ (open_lines 0 b.messages ++ quiet_line (quiet b))

-- rule 8.1: a table that is refused prints one line, else the answers and the report
abbrev pub printed_by : ℕ → List ℕ → List ℕ → List ℕ
printed_by (suc f) s input = answer_line (Refused (suc f))
printed_by zero s input = let x = session_of (table_of s) input in x.text ++ report_text (table_of s) x.board

-- rule 8.1: by the first 413 bytes of the file, which is empty if it is not there
unfoldable pub printout : List ℕ → List ℕ → List ℕ
printout file input = printed_by (table_refusal (take 413 file)) (take 413 file) input

-- the same, by the lines of the input
abbrev pub answers_text : Table → Board → List (List ℕ) → List ℕ
answers_text t b [] = []
answers_text t b (l ∷ ls) =
    let a = line_answer t b (line_of l) in
    answer_line a.said ++ answers_text t a.board ls

abbrev pub after_lines : Table → Board → List (List ℕ) → Board
after_lines t b [] = b
after_lines t b (l ∷ ls) = after_lines t (line_answer t b (line_of l)).board ls
