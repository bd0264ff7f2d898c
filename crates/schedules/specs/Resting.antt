-- Backoff tables (rule 9.10), about what public calls return and leave.
use Rattle.std.specs.Prelude.{◌≡◌, true, List, ℕ, eqb, length}
use Rattle.model.specs.Basics.{unless, first_of}
use Rattle.model.specs.Boards.{backoffs_pass, builtin_backoffs}
use Rattle.model.specs.Layout.{table_refusal}
use Rattle.boards.specs.Layout.{Lists, board_len, backoffs_in}
use Rattle.refusals.specs.Held.{held_in}
use Rattle.refusals.specs.Calls.{refusal_of}
use Rattle.calls.specs.Opens.{open_number}
use Rattle.schedules.specs.Schedules.{Opened}
use Rattle.schedules.specs.Mixes.{Act, Acts}

-- rule 9.10
pub record RestingCalls : Type 0 where
  -- none given: refused by the table, or by the board's length, and never 21
  pub none_given : (s board : List ℕ)
      → open_number s builtin_backoffs board ≡ first_of (table_refusal s) (unless (eqb (length board) board_len) 30 0)
  -- a board has the table that it was opened with, and that passes
  pub opened : (s rests : List ℕ) (l : Lists) → Opened s rests l
      → (backoffs_pass rests ≡ true) × (backoffs_in l.board ≡ rests)
  -- from any accepted lists on, calls and replays in any mix leave it as it is
  pub kept : (s : List ℕ) (l : Lists) (xs : List Act) (l' : Lists) → refusal_of s (held_in l) ≡ 0 → Acts s l xs l'
      → backoffs_in l'.board ≡ backoffs_in l.board
  pub asked : (s : List ℕ) (l : Lists) → refusal_of s (held_in l) ≡ 0 → backoffs_pass (backoffs_in l.board) ≡ true
