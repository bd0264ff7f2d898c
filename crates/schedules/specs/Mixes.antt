-- Public calls and replays in any mix, with reads anywhere between them, and what they owe together (rule 7.10).
use Rattle.std.specs.Prelude.{◌≡◌, List, [], ◌∷◌, ◌++◌, ℕ, zero, suc, take}
use Rattle.model.specs.Layout.{table_of}
use Rattle.model.specs.Boards.{empty_board}
use Rattle.model.specs.Effects.{Said}
use Rattle.model.specs.Pools.{Call, history}
use Rattle.boards.specs.Layout.{Lists}
use Rattle.refusals.specs.Held.{held_in}
use Rattle.plays.specs.Replays.{CallRows, calls_len, calls_of, answer_number, answer_numbers}
use Rattle.calls.specs.Calls.{Calls, ReplaysIn}
use Rattle.schedules.specs.Schedules.{KeepsDemand3, Opened}

-- a call and what was said, or a replay with its answers before and after and its number
pub data Act : Type 0 where
  called : Call → Said → Act
  replayed : CallRows → List ℕ → List ℕ → ℕ → Act

-- from l to l', each on the lists that the one before left
abbrev pub Acts : List ℕ → Lists → List Act → Lists → Type 0
Acts s l [] l' = l' ≡ l
Acts s l (called k w ∷ xs) l' = (g : Lists) × Calls s l k w g × Acts s g xs l'
Acts s l (replayed c before after f ∷ xs) l' = (g : Lists) × ReplaysIn s l c before after f g × Acts s g xs l'

-- a refused replay plays none of its calls
abbrev pub calls_by : ℕ → CallRows → List Call
calls_by zero c = calls_of c
calls_by (suc f) c = []

abbrev pub answers_by : ℕ → CallRows → List ℕ → List ℕ
answers_by zero c after = take (calls_len c) after
answers_by (suc f) c after = []

-- all calls that were played, and their answers as numbers
abbrev pub calls_in : List Act → List Call
calls_in [] = []
calls_in (called k w ∷ xs) = k ∷ calls_in xs
calls_in (replayed c before after f ∷ xs) = calls_by f c ++ calls_in xs

abbrev pub answers_in : List Act → List ℕ
answers_in [] = []
answers_in (called k w ∷ xs) = answer_number w ∷ answers_in xs
answers_in (replayed c before after f ∷ xs) = answers_by f c after ++ answers_in xs

-- rule 7.10
pub record MixedCalls : Type 0 where
  pub demand : (s rests : List ℕ) (l : Lists) (xs : List Act) (l' : Lists)
      → Opened s rests l → Acts s l xs l' → KeepsDemand3 s rests (calls_in xs) (held_in l')
  pub says : (s rests : List ℕ) (l : Lists) (xs : List Act) (l' : Lists)
      → Opened s rests l → Acts s l xs l'
      → answers_in xs ≡ answer_numbers (history (table_of s) (empty_board rests) (calls_in xs))
  -- so wherever a read stands in the mix, it answers what the schedule up to there has left
  pub between : (s rests : List ℕ) (l : Lists) (xs ys : List Act) (l' : Lists)
      → Opened s rests l → Acts s l (xs ++ ys) l'
      → (g : Lists) × KeepsDemand3 s rests (calls_in xs) (held_in g) × Acts s g ys l'
