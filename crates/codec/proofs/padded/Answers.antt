-- `codec::padded` meets its contract: the copy is the bytes stored.
use Rattle.std.proofs.Common.{◌+◌, ◌≤◌, ℕ, List, length, replicate, zero-add, refl, rules}
use Rattle.std.proofs.lemmas.List.{length-replicate}
use Rattle.codec.proofs.Copies.{put_mid-sets}
use Rattle.codec.proofs.padded.Goals as goal

pub returns : goal.returns
returns g c =
    let s = c.args.bytes.now in
    let zeros : List ℕ = replicate g.row.N 0 in
    let h : 0 + length s ≤ length zeros = simp (zero-add, length-replicate) (search rules) in
    rw c.copy_from_slice.ensures.after (put_mid-sets 0 (length s) zeros s refl h)
