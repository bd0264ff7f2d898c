-- `sessions::serve_chunk` meets its contract: each turn serves one line more.
use Rattle.std.proofs.Common.{rules, length, ◌≤◌}
use Rattle.std.specs.List.{position_or_len}
use Rattle.sessions.proofs.FeedLaws.{is_feed}
use Rattle.sessions.proofs.ChunkLaws.{Ends, sofar-next, sofar-all}
use Rattle.sessions.proofs.serve_chunk.Goals as goal

pub loop-end-preserved : goal.loop-end-preserved
loop-end-preserved c =
    let f : Ends c.loop-end.left.now c.in-Some.end.now c.in-Some.rest.now = search rules in
    let r = c.serve_line-served.ensures in
    let v = rw c.as_slice.ensures at r.serves in
    let e = c.with-line.ensures.result_value in (
      sofar-next c.loop-end.invariant.0 c.with-line.result f c.requires.len_bound.1 e v c.new-carry.ensures,
      r.passed_2,
    )

pub returns-clause-serves_chunk : goal.returns-clause-serves_chunk
returns-clause-serves_chunk c =
    let none : length c.loop-end.left.now ≤ position_or_len is_feed c.loop-end.left.now = search rules in
    let r = c.with.ensures in
    sofar-all c.loop-end.invariant.0 _ none c.requires.len_bound.1 r.result_value r.len_bound
