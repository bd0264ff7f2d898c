-- `writes::write_change` meets its contract: each change is written, and nothing else is.
use Rattle.std.proofs.Common.{ap, ◌∙◌}
use Rattle.state.specs.declared.Change.TheVariants.{Record}
use Rattle.writes.specs.Written.{matches_with}
use Rattle.writes.proofs.write_change.Goals as goal

pub returns-in-Turn : goal.returns-in-Turn
returns-in-Turn c = λ board keys cents. rw c.in-Turn.is (c.turn_message.ensures board keys cents)

pub returns-in-Record : goal.returns-in-Record
returns-in-Record c = λ board keys cents.
    let t = c.turn_message-in-Record.ensures board keys cents in
    let r = c.record_match.ensures board keys cents in
    rw c.in-Record.is (record {
      columns = r.columns ∙ t.columns;
      matches = r.matches ∙ ap (matches_with (Record c.in-Record.n) c.args.k c.args.j) t.matches;
    })
