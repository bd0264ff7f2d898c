-- `printouts::end_input` meets its contract: the end of the input is served.
use native.Mathlib.Omega.{arith}
use Rattle.printouts.proofs.StageLaws.{end-advances}
use Rattle.printouts.proofs.end_input.Goals as goal

pub returns : goal.returns
returns c =
    let q = c.requires in
    let r = c.serve_end-served.ensures in
    end-advances q.stands q.ended_value.0 r.passed_2 (omega arith) r.serves_end
