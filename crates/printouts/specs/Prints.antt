-- What the program prints (rules 8.1 to 8.5): what the turns that it makes leave in their buffers, one after another.
use Rattle.std.specs.Prelude.{◌≡◌, Bool, true, false, List, [], ◌∷◌, ◌++◌, ℕ, zero, suc, ◌≤◌, eqb, length, take}
use Rattle.model.specs.Boards.{builtin_backoffs}
use Rattle.model.specs.Effects.{Refused}
use Rattle.model.specs.Printing.{answer_line}
use Rattle.model.specs.Sessions.{printout}
use Rattle.boards.specs.Layout.{Lists, board_len}
use Rattle.prints.specs.Printed.{Printed}
use Rattle.calls.specs.Opens.{open_number}
use Rattle.schedules.specs.Schedules.{Opened}
use Rattle.printouts.specs.declared.Stage as DS
use Rattle.printouts.specs.Stages.{Begins, Advances, done_on}

-- turns with the bytes of a read each, every one on the lists and at the stage that the one before left
abbrev pub Turns : List ℕ → Lists → DS.Stage → List (List ℕ) → List ℕ → Lists → DS.Stage → Type 0
Turns s l g [] text l' g' = (text ≡ []) × (l' ≡ l) × (g' ≡ g)
Turns s l g (input ∷ inputs) text l' g' =
    (m : Lists) × (h : DS.Stage) × (at : ℕ) × (out : List ℕ) × (rest : List ℕ)
    × Advances s l g input m h at out × (text ≡ take at out ++ rest) × Turns s m h inputs rest l' g'

-- a turn with the bytes of some read
abbrev pub Advanced : List ℕ → Lists → DS.Stage → Lists → DS.Stage → Type 0
Advanced s l g l' g' = (input : List ℕ) × (at : ℕ) × (out : List ℕ) × Advances s l g input l' g' at out

-- turns with some reads
abbrev pub Turned : List ℕ → Lists → DS.Stage → Lists → DS.Stage → Type 0
Turned s l g l' g' = (reads : List (List ℕ)) × (text : List ℕ) × Turns s l g reads text l' g'

-- on a board that was opened, from the beginning until all is printed
pub record ServesAll (s : List ℕ) (reads : List (List ℕ)) (text : List ℕ) : Type 0 where
  pub first : Lists
  pub opened : Opened s builtin_backoffs first
  pub begun : DS.Stage
  pub begins : Begins begun
  pub last : Lists
  pub reached : DS.Stage
  pub turns : Turns s first begun reads text last reached
  pub done : done_on last.board reached ≡ true

-- rule 8.1: a table that is refused, one line
pub record SaysRefused (number : ℕ) (text : List ℕ) : Type 0 where
  pub before : List ℕ
  pub at : ℕ
  pub inside : at ≤ length before
  pub out : List ℕ
  pub printed : Printed before 0 (answer_line (Refused number)) at out
  pub whole : text ≡ take at out

abbrev pub PrintsBy : ℕ → List ℕ → List (List ℕ) → List ℕ → Type 0
PrintsBy zero s reads text = ServesAll s reads text
PrintsBy (suc f) s reads text = SaysRefused (suc f) text

-- the bytes of the file that are read, a board's list of its length, and what is printed after it was opened
abbrev pub Prints : List ℕ → List (List ℕ) → List ℕ → Type 0
Prints file reads text =
    (before : List ℕ) × (length before ≡ board_len)
    × PrintsBy (open_number (take 413 file) builtin_backoffs before) (take 413 file) reads text

-- the input's bytes, read by read; one that puts none is at its end
abbrev pub input_of : Bool → List (List ℕ) → List ℕ
input_of ended [] = []
input_of true (c ∷ cs) = []
input_of false (c ∷ cs) = c ++ input_of (eqb (length c) 0) cs

-- however the input is split into reads, what is printed is the model's printout
abbrev pub ProgramPrints : Type 0
ProgramPrints = (file : List ℕ) (reads : List (List ℕ)) (text : List ℕ) → Prints file reads text
    → text ≡ printout file (input_of false reads)
