-- `writer::put_bytes` meets its contract: the copy is the bytes stored.
use Rattle.std.proofs.Common.{◌≡◌, ◌+◌, ◌-◌, ◌≤◌, length, arith}
use Rattle.codec.proofs.Copies.{put_mid-sets}
use Rattle.writer.proofs.put_bytes.Goals as goal

pub returns : goal.returns
returns c =
    let a = c.args in
    let n = length a.src.now in
    let k : n ≡ a.at + n - a.at = omega arith in
    let h : a.at + (a.at + n - a.at) ≤ length a.out.now = omega arith in
    rw c.copy_from_slice.ensures.after (put_mid-sets a.at _ a.out.now a.src.now k h)
