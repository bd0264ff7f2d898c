-- `consumes::consume_step` meets its contract: what follows is on the messages as the step leaves them.
use Rattle.std.proofs.Common.{◌∙◌, ◌-◌, ◌<◌, length, get_or, arith}
use Rattle.std.proofs.lemmas.Grind.{common_steps}
use Rattle.model.specs.Effects.{turn, consumes, messages_after}
use Rattle.model.specs.Layout.{table_of}
use Rattle.columns.specs.Columns.{columns_by, board_by}
use Rattle.columns.proofs.Messages.{length-messages, nth-channel}
use Rattle.consumes.proofs.Consuming.{channel-after, consumed-after, consumes-is}
use Rattle.consumes.proofs.consume_step.Goals as goal

pub returns : goal.returns
returns c = λ pr st o es ew eg.
    let a = c.args in
    let x = get_or a.d.job.chosen c.from.result 0 in
    let u = consumes a.m in
    let p = c.requires.phase_value in
    let col = columns_by a.channels.now pr st o in
    let b = board_by a.channels.now pr st a.n o in
    let is = b.messages in
    let l : x < length is = rw (length-messages col 0 a.n, c.from.ensures) (p.2.below a.k p.1) in
    let e = c.noted.ensures in
    consumes-is (table_of a.table.now) b a.d c.noted.result c.consumed_to-sender.result a.k a.m x p.0 p.1
    (rw c.from.ensures) e
    (c.consumed_to-sender.ensures (messages_after (turn x u) is)
    (record { channel = λ i h. channel-after is x i u ∙ nth-channel col a.n i h })
    (rw (e, channel-after is x (a.d.own - 1) u) es)
    (rw (e, channel-after is x (a.d.waker - 1) u) ew)
    (rw (e, consumed-after is x (a.d.waker - 1) a.m l, eg) (grind (arith, common_steps))))
