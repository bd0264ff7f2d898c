-- What a public call says and leaves, for any table and any lists (rules 6.1 to 6.7).
use Rattle.std.specs.Prelude.{◌≡◌, ◌≢◌, List, ℕ}
use Rattle.model.specs.Effects.{Said, number_of}
use Rattle.model.specs.Pools.{Call}
use Rattle.boards.specs.Layout.{Lists}
use Rattle.refusals.specs.Held.{held_in}
use Rattle.refusals.specs.Calls.{Plays}
use Rattle.plays.specs.Replays.{CallRows, Replays}

-- call k on l says w and leaves l'
pub record Calls (s : List ℕ) (l : Lists) (k : Call) (w : Said) (l' : Lists) : Type 0 where
  pub plays : Plays s (held_in l) k w (held_in l')
  -- rule 6.1: a refused call leaves every list as it was, also lists that hold no board
  pub keeps : number_of w ≢ 0 → l' ≡ l

-- rule 6.7: a replay of the calls c on l answers f, leaves l', and turns the lent answers from before to after
pub record ReplaysIn (s : List ℕ) (l : Lists) (c : CallRows) (before after : List ℕ) (f : ℕ) (l' : Lists)
    : Type 0 where
  pub replays : Replays s (held_in l) c before after f (held_in l')
  pub keeps : f ≢ 0 → l' ≡ l
