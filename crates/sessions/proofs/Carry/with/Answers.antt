-- `sessions::Carry::with` meets its contract: the bytes kept, and those after them that have room.
use Rattle.std.proofs.Common.{◌≡◌, ◌+◌, ◌-◌, ◌≤◌, length, min, take, arith}
use Rattle.std.proofs.lemmas.List.{length-take, take_min}
use Rattle.std.proofs.lemmas.Slice.{take-put_mid}
use Rattle.std.proofs.Math.Seq.{take-append-add}
use Rattle.sessions.proofs.Carry.with.Goals as goal

pub returns-clause-result_value : goal.returns-clause-result_value
returns-clause-result_value c =
    let xs = c.args.self.bytes in
    let n = c.args.self.len in
    let s = c.args.s.now in
    let put = c.copy_from_slice.ensures in
    let m : length (take n xs) + (81 - n) ≡ 81 = omega (arith, length-take n xs) in
    let most : c.min-more.result ≡ min (81 - n) (length s) = omega arith in
    let room : n ≤ length xs = omega arith in
    let len : n + c.min-more.result ≡ n + length c.copy_from_slice.new.self = omega (arith, put.len) in
    rw (
      take-put_mid n _ xs _ _ len room,
      rw m at (take-append-add (take n xs) s (81 - n)),
      put.after,
      most,
      take_min (81 - n) s,
    )
