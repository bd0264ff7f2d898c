-- A board as its host holds it, and the calls.
use Rattle.std.specs.Prelude.{List, ℕ, ℤ}
use Rattle.model.specs.Boards as MB
use Rattle.model.specs.Pools as MP
use Rattle.columns.specs.Columns.{Columns, columns_of}
use Rattle.columns.specs.MatchColumns.{MatchColumns, matches_of}
use Rattle.boards.specs.Boards.{HeldBoard}
use Rattle.boards.specs.declared.Sent as DS
use Rattle.boards.specs.declared.Call as DC
use Rattle.boards.specs.declared.Call.TheVariants as C

-- the board, and the columns that the host lends with it
pub record Held : Type 0 where
  pub board : HeldBoard
  pub columns : Columns
  pub matches : MatchColumns

abbrev pub held : HeldBoard → Columns → MatchColumns → Held
held b c m = record { board = b; columns = c; matches = m }

-- the same by its columns, in the order of the calls' parameters
abbrev pub held_by : HeldBoard → List ℕ → List ℕ → List ℤ → List ℕ → List ℕ → List ℕ → List ℕ → List ℕ → List ℕ
    → Held
held_by b channels keys cents statuses matched wakers units chords messages =
    held b (columns_of channels keys cents statuses matched wakers units) (matches_of chords messages)

-- what an add hands over
abbrev pub sent : ℕ → ℕ → ℤ → ℕ → ℕ → MB.Sent
sent channel property cents day unit =
    record { channel = channel; property = property; cents = cents; day = day; unit = unit }

abbrev pub sent_in : DS.Sent → MB.Sent
sent_in x = sent x.channel x.property x.cents x.day x.unit

abbrev pub call_in : DC.Call → MP.Call
call_in (C.Add i x) = MP.adds i (sent_in x)
call_in (C.Step i) = MP.steps i
