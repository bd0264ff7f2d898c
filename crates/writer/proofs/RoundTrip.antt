-- A table survives being written and read, both ways, in the words of the contracts of `read_table` and `write_table`.
use mathlib.Core.Path.{◌≡◌, sym, ◌∙◌}
use mathlib.Core.Bool.{true}
use mathlib.Core.List.{List}
use Prim.Native.Nat.{ℕ, ◌≤◌}
use lib.ListN.{length, take}
use lib.Seq.{take-append_seam}
use Rattle.model.specs.Layout.{table_refusal, table_of, table_bytes, write_refusal, written, keeps_layout, all_bytes}
use Rattle.model.proofs.Written.{reads-written}
use Rattle.model.proofs.Survive.{tables-survive}
use Rattle.model.proofs.Tests.{first-none}
use Rattle.codec.specs.declared.Table as DT
use Rattle.codec.specs.Views.{table_in, table_read}
use Rattle.codec.proofs.Views.{read-seen}
use Rattle.writer.specs.Writes.{stored}
use Rattle.writer.proofs.Refusals.{none_refused, all-written}

-- accepted bytes, read and written into a buffer that is long enough, are the bytes again
pub read-written : (s : List ℕ) → all_bytes s ≡ true → table_refusal s ≡ 0 → (out : List ℕ) → length s ≤ length out
    → (write_refusal (table_in (table_read s).table) out ≡ 0)
    × (written (table_in (table_read s).table) out ≡ stored s out)
read-written s b e out h =
    let v = table_of s in
    let w : table_bytes v ≡ s = tables-survive.back s b e in
    let n = none_refused v out (rw w e) (rw w h) in
    rw (read-seen s e) (sym n, sym (all-written v out n) ∙ rw w)

-- a table that is written, in the part of the buffer that it takes, reads as the table
pub written_read : (t : DT.Table) (out : List ℕ) → write_refusal (table_in t) out ≡ 0 →
    let s = take (length (table_bytes (table_in t))) (written (table_in t) out) in
    ((table_read s).number ≡ 0) × (table_in (table_read s).table ≡ table_in t)
unfolding write_refusal table_read
written_read t out e =
    let v = table_in t in
    let a = (first-none (table_refusal (table_bytes v)) _ e).0 in
    let w = all-written v out (sym e) in
    let r = read-seen (table_bytes v) a ∙ reads-written v.kinds v.chords in
    rw (← w, take-append_seam) (a, r)

-- a table that keeps the layout's rules is written where the buffer is long enough
pub keeps-written : (t : DT.Table) (out : List ℕ) → keeps_layout (table_in t) ≡ true
    → length (table_bytes (table_in t)) ≤ length out → write_refusal (table_in t) out ≡ 0
keeps-written t out k h = sym (none_refused (table_in t) out (tables-survive.there (table_in t) k).0 h)
