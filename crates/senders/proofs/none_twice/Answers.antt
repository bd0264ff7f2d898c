-- `senders::none_twice` meets its contract: each mark but 0 is looked for among those after it.
use Rattle.std.proofs.Common.{sym, ◌∙◌}
use Rattle.senders.proofs.Alone.{twice-idle, twice-step}
use Rattle.senders.proofs.none_twice.Goals as goal
use Rattle.senders.proofs.none_twice.Goals.{else-m-ne0-via-then-m-ne0+else-contains, else-m-ne0-via-else-m-ne0}

pub returns-then-contains : goal.returns-then-contains
returns-then-contains c =
    sym (c.loop-i.invariant
    ∙ twice-step c.args.marks.now c.loop-i.i c.loop-i-test.true c.if-m-ne0.true _
    (sym c.contains.ensures.value ∙ c.if-contains.true))

pub loop-i-preserved : goal.loop-i-preserved
loop-i-preserved c =
    let marks = c.args.marks.now in
    let i = c.loop-i.i in
    elim c.else-m-ne0.branch [
      | else-m-ne0-via-then-m-ne0+else-contains w ↦ c.loop-i.invariant
          ∙ twice-step marks i c.loop-i-test.true w.if-m-ne0.true _
          (sym w.contains.ensures.value ∙ w.if-contains.false)
      | else-m-ne0-via-else-m-ne0 w ↦ c.loop-i.invariant ∙ twice-idle marks i c.loop-i-test.true w.if-m-ne0.false
    ]
