-- Public steps of a sender that is left in peace (rule 9.1).
use Rattle.std.specs.Prelude.{◌≡◌, List, ℕ, ◌≤◌, ◌<◌, replicate}
use Rattle.model.specs.Layout.{table_of}
use Rattle.model.specs.Effects.{Said, Refused}
use Rattle.model.specs.Pools.{Call, steps}
use Rattle.alone.specs.Alone.{InPeace, most_steps}
use Rattle.boards.specs.Layout.{Lists}
use Rattle.refusals.specs.Held.{held_in}
use Rattle.refusals.specs.Calls.{board_of}
use Rattle.calls.specs.Calls.{Calls}
use Rattle.schedules.specs.Schedules.{CallsInTurn, Opened}

-- rule 9.1: after so many public steps of sender i, or more, the next is refused 13 and changes no list
pub record ComesToRest (s : List ℕ) (l : Lists) (i : ℕ) : Type 0 where
  pub count : ℕ
  pub few : count ≤ most_steps
  pub then_13 : (n : ℕ) (ws : List Said) (g : Lists) → count ≤ n → CallsInTurn s l (replicate n (steps i)) ws g
      → (w : Said) (g' : Lists) → Calls s g (steps i) w g' → (w ≡ Refused 13) × (g' ≡ g)

-- rule 9.1: from any board that public calls reach, whatever backoff table it was opened with, with no other sender
-- holding a claimed message
abbrev pub PublicPeace : Type 0
PublicPeace =
    (s rests : List ℕ) (l : Lists) (ks : List Call) (ws : List Said) (l' : Lists) (i : ℕ)
    → Opened s rests l
    → CallsInTurn s l ks ws l'
    → i < 32
    → InPeace (table_of s) (board_of s (held_in l')) i
    → ComesToRest s l' i
