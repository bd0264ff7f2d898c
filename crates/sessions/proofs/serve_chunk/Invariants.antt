-- `sessions::serve_chunk` meets its contract: each turn serves one line more.
use Rattle.std.proofs.Common.{length, get_or}
use Rattle.columns.specs.Columns.{Passed}
use Rattle.boards.specs.Layout.{lists, statuses_in}
use Rattle.sessions.proofs.ChunkLaws.{Sofar}
use Rattle.sessions.proofs.serve_chunk.Given as goal

abbrev pub invariant-loop-end : goal.invariant-loop-end
invariant-loop-end l =
    let i = l.initial in
    Sofar l.table (lists i.board i.bytes i.links i.keys i.cents) i.carry l.input i.out
    (lists l.board l.bytes l.links l.keys l.cents) l.carry l.served.at l.left l.out
    × Passed l.served.start (get_or l.board 0 0) (statuses_in l.bytes)

abbrev pub decreases-loop-end : goal.decreases-loop-end
decreases-loop-end l = length l.left
