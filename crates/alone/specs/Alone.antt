-- A sender left in peace finishes (rule 9.1): what peace is, what finishing is, and within how many steps.
use Rattle.std.specs.Prelude.{◌≡◌, ◌≢◌, ◌⊎◌, true, false, List, ℕ, ◌≤◌, ◌<◌, replicate}
use Rattle.model.specs.Tables.{Table}
use Rattle.model.specs.Layout.{table_refusal, table_of}
use Rattle.model.specs.Boards.{Board, sender_at, message_at, claimed, idle, blocked, backoffs_pass}
use Rattle.model.specs.Effects.{refused}
use Rattle.model.specs.Steps.{step_by}
use Rattle.model.specs.Holdings.{Holds}
use Rattle.model.specs.Pools.{Call, steps, after_all, can_step}
use Rattle.model.specs.Demands.{board_after}

-- rule 9.1: no other sender holds a claimed message
abbrev pub InPeace : Table → Board → ℕ → Type 0
InPeace t b i = (j n : ℕ) → j ≢ i → Holds t (sender_at b j).state n → ⊥

-- the same by the messages: every claimed one is one that sender i holds
abbrev pub HoldsAll : Table → Board → ℕ → Type 0
HoldsAll t b i = (n : ℕ) → (message_at b n).status ≡ claimed → Holds t (sender_at b i).state n

-- rule 9.1: n steps of sender i, and none of any other
abbrev pub stepped_alone : Table → Board → ℕ → ℕ → Board
stepped_alone t b i n = after_all t b (replicate n (steps i))

-- rules 9.1 and 5.6: after at most so many steps sender i has no step; one more is refused 13, and more change nothing
pub record Finishes (t : Table) (b : Board) (i limit : ℕ) : Type 0 where
  pub count : ℕ
  pub few : count ≤ limit
  pub no_step : can_step (sender_at (stepped_alone t b i count) i).state
      (sender_at (stepped_alone t b i count) i).signalled ≡ false
  pub refused_13 : step_by t (stepped_alone t b i count) i ≡ refused 13
  pub for_good : (n : ℕ) → count ≤ n → stepped_alone t b i n ≡ stepped_alone t b i count

-- rule 9.1: from every board that a schedule reaches, with every backoff table that passes
abbrev pub LeftInPeace : ℕ → Type 0
LeftInPeace limit =
    (s rests : List ℕ) (cs : List Call) (i : ℕ)
    → table_refusal s ≡ 0
    → backoffs_pass rests ≡ true
    → i < 32
    → InPeace (table_of s) (board_after (table_of s) rests cs) i
    → Finishes (table_of s) (board_after (table_of s) rests cs) i limit

-- rule 9.1: the steps that support may quote; 4,096 are asked
abbrev pub most_steps : ℕ
most_steps = 1628

pub record Alone : Type 0 where
  pub finishes : LeftInPeace most_steps
  pub asked : LeftInPeace 4096
  -- on every board that a schedule reaches the two ways to say peace are one
  pub peace_there : (s rests : List ℕ) (cs : List Call) (i : ℕ) → table_refusal s ≡ 0
      → InPeace (table_of s) (board_after (table_of s) rests cs) i
      → HoldsAll (table_of s) (board_after (table_of s) rests cs) i
  pub peace_back : (s rests : List ℕ) (cs : List Call) (i : ℕ) → table_refusal s ≡ 0
      → HoldsAll (table_of s) (board_after (table_of s) rests cs) i
      → InPeace (table_of s) (board_after (table_of s) rests cs) i
  -- so there is peace where no message is claimed, and where all others are idle or blocked
  pub none_claimed : (s rests : List ℕ) (cs : List Call) (i : ℕ) → table_refusal s ≡ 0
      → ((n : ℕ) → (message_at (board_after (table_of s) rests cs) n).status ≢ claimed)
      → InPeace (table_of s) (board_after (table_of s) rests cs) i
  pub others_at_rest : (t : Table) (b : Board) (i : ℕ)
      → ((j : ℕ) → j ≢ i → ((sender_at b j).state ≡ idle) ⊎ ((sender_at b j).state ≡ blocked)) → InPeace t b i
