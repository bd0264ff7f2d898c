-- Fair shares (rule 9.9), about what public calls return and leave.
use Rattle.std.specs.Prelude.{◌≡◌, ◌≢◌, List, ℕ, ◌+◌, ◌<◌, ◌≤◌}
use Rattle.model.specs.Layout.{table_of}
use Rattle.model.specs.Boards.{Sent}
use Rattle.model.specs.Effects.{Said, Refused}
use Rattle.model.specs.Shares.{tally}
use Rattle.model.specs.Pools.{adds, history}
use Rattle.model.specs.Demands.{accepted_adds}
use Rattle.boards.specs.Layout.{Lists, tallies_in}
use Rattle.refusals.specs.Held.{held_in}
use Rattle.refusals.specs.Calls.{board_of, refusal_of}
use Rattle.calls.specs.Calls.{Calls}
use Rattle.schedules.specs.Schedules.{Opened}
use Rattle.schedules.specs.Mixes.{Act, Acts, calls_in}

-- sender i's tally, in the board's list
abbrev pub tally_in : Lists → ℕ → ℕ
tally_in l i = tally (tallies_in l.board) i

-- rule 9.9
pub record SharedCalls : Type 0 where
  pub opened : (s rests : List ℕ) (l : Lists) (i : ℕ) → Opened s rests l → tally_in l i ≡ 0
  -- from any accepted lists on, calls and replays in any mix raise a tally by the sender's accepted adds
  pub tallied : (s : List ℕ) (l : Lists) (xs : List Act) (l' : Lists) (i : ℕ)
      → refusal_of s (held_in l) ≡ 0 → Acts s l xs l'
      → tally_in l' i
      ≡ tally_in l i + accepted_adds i (history (table_of s) (board_of s (held_in l)) (calls_in xs))
  pub at_most_528 : (s : List ℕ) (l : Lists) (i : ℕ) → refusal_of s (held_in l) ≡ 0 → tally_in l i ≤ 528
  pub first_16 : (s : List ℕ) (l l' : Lists) (i : ℕ) (x : Sent) (w : Said)
      → refusal_of s (held_in l) ≡ 0 → Calls s l (adds i x) w l' → tally_in l i < 16 → w ≢ Refused 26
