-- The kinds of a table that passes are the bytes after its header, as many as it has channels.
use Rattle.std.proofs.Common.{◌≡◌, ℕ, List, take, drop, length, ◌∙◌}
use Rattle.model.specs.Layout.{table_refusal, table_of}
use Rattle.model.proofs.Accepted.{accepted}
use Rattle.model.proofs.AcceptedChords.{length-kinds}

pub kinds_from : (s : List ℕ) (n : ℕ) → table_refusal s ≡ 0 → n ≡ length (table_of s).kinds
    → take n (drop 12 s) ≡ (table_of s).kinds
unfolding table_of
kinds_from s n e f = rw (f ∙ length-kinds s (accepted s e))
