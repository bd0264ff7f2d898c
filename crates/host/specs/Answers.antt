-- What a call (rules 6.4, 6.5 and 9.8) answers to a host, as one number.
use Rattle.std.specs.Prelude.{◌≡◌, List, ℕ}
use Rattle.model.specs.Effects.{Said}
use Rattle.model.specs.Pools.{Call}
use Rattle.boards.specs.Layout.{Lists}
use Rattle.plays.specs.Replays.{answer_number}
use Rattle.calls.specs.Calls.{Calls}

-- call k on l answers r and leaves l'
pub record Answers (s : List ℕ) (l : Lists) (k : Call) (r : ℕ) (l' : Lists) : Type 0 where
  pub said : Said
  pub number : r ≡ answer_number said
  pub calls : Calls s l k said l'
