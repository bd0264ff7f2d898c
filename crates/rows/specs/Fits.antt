-- The boards that the declared types can hold: a byte is up to 255, and arrays have their length.
use Rattle.std.specs.Prelude.{◌≡◌, List, [], ◌∷◌, ◌≤◌, length}
use Rattle.state.specs.declared.Phase as DP
use Rattle.state.specs.declared.Phase.TheVariants as P
use Rattle.state.specs.declared.Sender as DD
use Rattle.boards.specs.Boards.{HeldBoard}

abbrev pub PhaseFits : DP.Phase → Type 0
PhaseFits (P.Look k) = k ≤ 255
PhaseFits (P.Claim k) = k ≤ 255
PhaseFits (P.Revert k claims) = (k ≤ 255) × (claims ≤ 255)
PhaseFits (P.Consume k match) = k ≤ 255
PhaseFits (P.Tell k) = k ≤ 255
PhaseFits P.Wake = Unit {0}
PhaseFits (P.Free k) = k ≤ 255
PhaseFits P.Signal = Unit {0}
PhaseFits P.PassEnd = Unit {0}
PhaseFits (P.Backoff k) = k ≤ 255

pub record SenderFits (d : DD.Sender) : Type 0 where
  pub chord : d.job.chord ≤ 255
  pub phase : PhaseFits d.job.phase
  pub chosen : length d.job.chosen ≡ 8
  pub retries : d.job.retries ≤ 255

abbrev pub SendersFit : List DD.Sender → Type 0
SendersFit [] = Unit {0}
SendersFit (d ∷ ds) = SenderFits d × SendersFit ds

pub record BoardFits (b : HeldBoard) : Type 0 where
  pub all : length b.senders ≡ 32
  pub each : SendersFit b.senders
  pub ends : (length b.tallies ≡ 32) × (length b.backoffs ≡ 16)
