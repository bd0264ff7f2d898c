-- A table that was written, and as many bytes of the buffer as it takes.
use Rattle.std.proofs.Common.{◌≡◌, List, ◌++◌, ℕ, length, take, drop}
use Rattle.texts.specs.Counts.{IsPrefixLen}
use Rattle.model.specs.Tables.{Table}
use Rattle.model.specs.Layout.{table_refusal, table_bytes, write_refusal, written}
use Rattle.model.proofs.Tests.{first-none}
use Rattle.codec.specs.declared.Table as DT
use Rattle.codec.specs.Views.{table_in}
use Rattle.texts.proofs.Sizes.{front}
use Rattle.tablec.specs.Encoded.{Encoded}

-- n is what the front's header says, and s is the buffer after the write
pub encoded : (t : DT.Table) (out s : List ℕ) (n : ℕ) → write_refusal (table_in t) out ≡ 0
    → s ≡ written (table_in t) out
    → ((v : Table) (rest : List ℕ) → s ≡ table_bytes v ++ rest → n ≡ length (table_bytes v))
    → IsPrefixLen n s × Encoded t (take n s)
unfolding write_refusal written
encoded t out s n z e f =
    let b = table_bytes (table_in t) in
    let rest = drop (length b) out in
    let w : s ≡ b ++ rest = rw z at e in
    let r = front b rest s n w (f (table_in t) rest w) in
    (r.0, record { bytes = r.1; accepted = rw r.1 (first-none (table_refusal b) _ z).0 })
