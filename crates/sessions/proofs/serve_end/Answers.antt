-- `sessions::serve_end` meets its contract: nothing without bytes, else one line more.
use Prim.Native.Nat.{◌<◌}
use native.Mathlib.Omega.{arith}
use lib.ListN.{length}
use Rattle.std.proofs.lemmas.List.{length-take}
use Rattle.sessions.specs.Serves.{carry_of}
use Rattle.sessions.proofs.ChunkLaws.{end_line}
use Rattle.sessions.proofs.serve_end.Goals as goal

pub returns-clause-serves_end : goal.returns-clause-serves_end
returns-clause-serves_end c =
    let k = c.args.carry in
    let some : 0 < length (carry_of k) = omega (arith, length-take k.len k.bytes) in
    end_line k some c.requires.len_bound.1 (rw c.as_slice.ensures at c.serve_line.ensures.serves)
