-- What a line of the program's input, a chunk of it and its end leave (rules 8.2 to 8.4).
use Rattle.std.specs.Prelude.{◌≡◌, List, [], ℕ, ◌+◌, ◌≤◌, length, take}
use Rattle.model.specs.Layout.{table_of}
use Rattle.model.specs.Boards.{Board}
use Rattle.model.specs.Lines.{line_of}
use Rattle.model.specs.Pools.{Answer}
use Rattle.model.specs.Printing.{answer_line}
use Rattle.model.specs.Sessions.{Session, line_answer, fed, input_ends}
use Rattle.boards.specs.Layout.{Lists}
use Rattle.refusals.specs.Held.{held_of, Accepted}
use Rattle.refusals.specs.Calls.{board_of}
use Rattle.prints.specs.Printed.{Printed}
use Rattle.sessions.specs.declared.Carry as DC

-- rule 8.3: the model's answer to the bytes of a line
abbrev pub answer_on : List ℕ → Lists → List ℕ → Answer
answer_on s l line = line_answer (table_of s) (board_of s (held_of l)) (line_of line)

-- a line on l leaves l', and turns the lent buffer from out to done by what is printed at a place
pub record Serves (s : List ℕ) (l : Lists) (line out : List ℕ) (at : ℕ) (l' : Lists) (after : ℕ) (done : List ℕ) :
    Type 0 where
  pub prints : Printed out at (answer_line (answer_on s l line).said) after done
  pub leaves : board_of s (held_of l') ≡ (answer_on s l line).board
  pub accepted : Accepted s l'
  pub room : after ≤ at + 16

abbrev pub carry_of : DC.Carry → List ℕ
carry_of c = take c.len c.bytes

-- rule 8.3: of a line over 80 bytes the first 81 are enough to tell
abbrev pub Keeps : List ℕ → DC.Carry → Type 0
Keeps p c = take 81 p ≡ carry_of c

abbrev pub session : List ℕ → Board → List ℕ → Session
session text board partial = record { text = text; board = board; partial = partial }

-- the text and the board of the session x stand in the first bytes of the buffer and in b
pub record Says (x : Session) (b : Board) (after : ℕ) (done : List ℕ) : Type 0 where
  pub text : take after done ≡ x.text
  pub board : b ≡ x.board

-- a chunk of input on l, after the bytes that c keeps, leaves l' and c'
pub record ServesChunk (s : List ℕ) (l : Lists) (c : DC.Carry) (input : List ℕ) (l' : Lists) (c' : DC.Carry)
    (after : ℕ) (done : List ℕ) : Type 0 where
  pub says : (p : List ℕ) → Keeps p c
      → let x = fed (table_of s) (session [] (board_of s (held_of l)) p) input in
      Says x (board_of s (held_of l')) after done × Keeps x.partial c'
  pub accepted : Accepted s l'
  pub room : after ≤ length done
  pub kept : c'.len ≤ 81

-- the end of input on l, after the bytes that c keeps, leaves l'
pub record ServesEnd (s : List ℕ) (l : Lists) (c : DC.Carry) (l' : Lists) (after : ℕ) (done : List ℕ) : Type 0 where
  pub says : (p : List ℕ) → Keeps p c
      → Says (input_ends (table_of s) (session [] (board_of s (held_of l)) p) p) (board_of s (held_of l')) after done
  pub accepted : Accepted s l'
  pub room : after ≤ 16
