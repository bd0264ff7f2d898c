-- `printouts::take_chunk` meets its contract: a chunk is served.
use Rattle.printouts.proofs.StageLaws.{chunk-advances}
use Rattle.printouts.proofs.take_chunk.Goals as goal

pub returns : goal.returns
returns c =
    let q = c.requires in
    let r = c.serve_chunk-served.ensures in
    chunk-advances q.stands q.ended_value.0 r.passed_2 q.ended_value.1 r.serves_chunk
