-- How far the program is (rules 8.2 to 8.5): what has been printed after the bytes that were read, and what a turn adds
-- to both.
use Rattle.std.specs.Prelude.{◌≡◌, Bool, true, false, ◌&&◌, ◌||◌, List, [], ◌++◌, ℕ, ◌<◌, ◌≤◌, eqb, length, get_or}
use Rattle.std.specs.Prelude.{take}
use Rattle.model.specs.Layout.{table_of}
use Rattle.model.specs.Boards.{empty_board, builtin_backoffs}
use Rattle.model.specs.Sessions.{Session, fed, session_of}
use Rattle.columns.specs.Columns.{Passed}
use Rattle.boards.specs.Layout.{Lists, statuses_in}
use Rattle.refusals.specs.Held.{held_of, Accepted}
use Rattle.refusals.specs.Calls.{board_of}
use Rattle.sessions.specs.declared.Carry as DC
use Rattle.sessions.specs.Serves.{session, Keeps}
use Rattle.reports.specs.Parts.{lines_on, line_count, all_lines}
use Rattle.printouts.specs.declared.Stage as DS

-- the session after the bytes of the input so far, which may go on
abbrev pub read_of : List ℕ → List ℕ → Session
read_of s input = fed (table_of s) (session [] (empty_board builtin_backoffs) []) input

-- rules 8.2 to 8.4: the input goes on, and text was printed
pub record Serving (s input text : List ℕ) (c : DC.Carry) (l : Lists) : Type 0 where
  pub answers : text ≡ (read_of s input).text
  pub board : board_of s (held_of l) ≡ (read_of s input).board
  pub keeps : Keeps (read_of s input).partial c

-- rule 8.5: the input has ended, and text was printed: all answers and the report's lines before number n
pub record Reporting (s input text : List ℕ) (n : ℕ) (l : Lists) : Type 0 where
  pub lines : text ≡ (session_of (table_of s) input).text ++ all_lines (take n (lines_on s l))
  pub board : board_of s (held_of l) ≡ (session_of (table_of s) input).board

abbrev pub SoFarBy : Bool → List ℕ → List ℕ → List ℕ → DS.Stage → Lists → Type 0
SoFarBy false s input text g l = Serving s input text g.carry l
SoFarBy true s input text g l = Reporting s input text g.next l

-- the bytes of the input were read, and text was printed
abbrev pub SoFar : List ℕ → List ℕ → List ℕ → DS.Stage → Lists → Type 0
SoFar s input text g l = SoFarBy g.ended s input text g l

-- what a turn asks of its stage and lists: some input and text lead to them
pub record Stands (s : List ℕ) (l : Lists) (g : DS.Stage) : Type 0 where
  pub accepted : Accepted s l
  pub passed : Passed g.start (get_or l.board 0 0) (statuses_in l.bytes)
  pub kept : g.carry.len ≤ 81
  pub listed : g.next ≤ line_count l.board
  pub input : List ℕ
  pub text : List ℕ
  pub reached : SoFar s input text g l

-- nothing was read or printed
pub record Begins (g : DS.Stage) : Type 0 where
  pub no_bytes : g.carry.len ≡ 0
  pub from_first : g.start ≡ 0
  pub first_line : g.next ≡ 0
  pub goes_on : g.ended ≡ false

-- rule 8.5: every line of the report is printed
abbrev pub done_on : List ℕ → DS.Stage → Bool
done_on board g = g.ended && eqb g.next (line_count board)

-- what a turn takes of the bytes that it is lent: after the input's end nothing
abbrev pub taken : Bool → List ℕ → List ℕ
taken false input = input
taken true input = []

-- a turn on l at stage g, with the bytes that were read, none at the input's end, leaves l', stage g' and the buffer
-- out, of which the first bytes up to a place are printed
pub record Advances (s : List ℕ) (l : Lists) (g : DS.Stage) (input : List ℕ) (l' : Lists) (g' : DS.Stage) (at : ℕ)
    (out : List ℕ) : Type 0 where
  pub prints : (before text : List ℕ) → SoFar s before text g l
      → SoFar s (before ++ taken g.ended input) (text ++ take at out) g' l'
  pub ends : g'.ended ≡ (g.ended || eqb (length input) 0)
  pub further : g.ended ≡ true → g.next < g'.next
  pub stands : Stands s l' g'
  pub room : at ≤ length out
