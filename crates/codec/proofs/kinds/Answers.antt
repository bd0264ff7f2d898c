-- `codec::kinds` meets its contract: the part after the header, as long as the header says.
use Rattle.std.proofs.Common.{arith}
use Rattle.model.proofs.Accepted.{accepted}
use Rattle.model.proofs.AcceptedChords.{length-kinds}
use Rattle.codec.proofs.kinds.Goals as goal

pub slice_bounds-result-end : goal.slice_bounds-result-end
slice_bounds-result-end c =
    let a = accepted _ c.requires in
    omega (arith, length-kinds _ a)
