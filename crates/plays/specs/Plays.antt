-- One call on lists that the first tests accept.
use Rattle.std.specs.Prelude.{◌≡◌, ◌≢◌, true, List, ℕ}
use Rattle.model.specs.Effects.{Said, number_of}
use Rattle.model.specs.Pools.{Call}
use Rattle.boards.specs.Layout.{Lists, Sized}
use Rattle.rows.specs.Numbers.{encodes}
use Rattle.refusals.specs.Held.{held_of}
use Rattle.refusals.specs.Calls.{Plays}

-- call k on l says w and leaves l'
pub record PlaysIn (s : List ℕ) (l : Lists) (k : Call) (w : Said) (l' : Lists) : Type 0 where
  pub plays : Plays s (held_of l) k w (held_of l')
  pub numbers : encodes l'.board ≡ true
  pub sized : Sized l'
  -- rule 6.1
  pub keeps : number_of w ≢ 0 → l' ≡ l
