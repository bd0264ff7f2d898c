use Rattle.std.proofs.Common.{get_or}
use Rattle.columns.specs.Columns.{Passed}
use Rattle.state.specs.Views.{said_in}
use Rattle.boards.specs.Layout.{lists, statuses_in}
use Rattle.refusals.specs.Held.{held_of, Accepted}
use Rattle.plays.specs.Replays.{call_rows}
use Rattle.plays.proofs.PlayLaws.{First}
use Rattle.plays.proofs.ScheduleLaws.{Played}
use Rattle.plays.proofs.replay_core.Given as goal

abbrev pub invariant-loop-k : goal.invariant-loop-k
invariant-loop-k l =
    let i = l.initial in
    let before = lists i.board i.bytes i.links i.keys i.cents in
    let now = lists l.board l.bytes l.links l.keys l.cents in
    let rows = call_rows l.calls l.numbers l.amounts in
    record {
      accepted : Accepted l.table now;
      passed : Passed l.start (get_or l.board 0 0) (statuses_in l.bytes);
      played : Played l.table (held_of before) rows i.answers l.k (held_of now) l.answers;
      first : First l.table before rows l.k (said_in l.said) now;
    }
