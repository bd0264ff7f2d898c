-- `plays::replay_core` meets its contract: each turn plays one call more, in place.
use Rattle.boards.specs.Layout.{lists}
use Rattle.plays.proofs.PlayLaws.{accepted-after, first_next}
use Rattle.plays.proofs.ScheduleLaws.{played-next, played-all}
use Rattle.plays.proofs.replay_core.Goals as goal

pub loop-k-preserved : goal.loop-k-preserved
loop-k-preserved c =
    let l = c.loop-k in
    let i = l.invariant in
    let e = c.turn-a.ensures in
    let r = c.row_at-row.ensures in
    let now = lists l.board l.bytes l.links l.keys l.cents in
    record {
      accepted = accepted-after c.args.table.now now _ i.accepted _ _ e.plays_in;
      passed = e.passed_2;
      played = played-next _ _ _ _ _ _ _ i.played _ _ _ _ c.loop-k-test.true c.requires.fit.answers_all r
          e.plays_in.plays e.number_value;
      first = first_next _ _ _ _ _ _ now _ _ i.first r e.plays_in;
    }

pub returns-clause-plays_all : goal.returns-clause-plays_all
returns-clause-plays_all c = played-all _ _ _ _ _ _ _ c.loop-k.invariant.played c.loop-k-test.false
