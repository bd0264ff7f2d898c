-- What a function that prints has done to the lent buffer.
use Rattle.std.specs.Prelude.{◌≡◌, List, ℕ, ◌+◌, length}
use Rattle.std.proofs.lemmas.List.Edits.{sets}

-- the text stands at the place, all other bytes are kept, and the place after it is answered
pub record Printed (out : List ℕ) (at : ℕ) (text : List ℕ) (after : ℕ) (done : List ℕ) : Type 0 where
  pub place : after ≡ at + length text
  pub bytes : done ≡ sets out at text
