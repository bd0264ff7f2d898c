-- `soundness::messages_ok` meets its contract: the five columns' answers are the messages' answer.
use Rattle.std.proofs.Common.{arith, refl}
use mathlib.Core.Bool.{and_assoc}
use Rattle.model.specs.Layout.{table_of}
use Rattle.columns.specs.Columns.{columns_of}
use Rattle.soundness.proofs.Columns.{below-at, cents-at, links-at}
use Rattle.soundness.proofs.Messages.{messages-are}
use Rattle.soundness.proofs.messages_ok.Goals as goal

pub returns : goal.returns
returns c keys units b ms ks =
    let a = c.args in
    let k = c.from-k.ensures in
    -- a consumed message, status 3, is asked for its match, and a woken one, status 2, for its waker
    let matched = links-at a.matched.now a.statuses.now a.matches 3 c.links_ok.ensures k (omega arith) (omega arith) in
    let wakers = links-at a.wakers.now a.statuses.now a.n 2 c.links_ok-2.ensures k (omega arith) (omega arith) in
    rw (
      below-at a.channels.now c.below.ensures c.channels_len-t.ensures k (omega arith),
      cents-at a.cents.now c.cents_ok.ensures k (omega arith),
      below-at a.statuses.now c.below-2.ensures refl k (omega arith),
      matched,
      wakers,
      messages-are (table_of a.table.now) b (columns_of a.channels.now keys a.cents.now a.statuses.now a.matched.now
          a.wakers.now units) a.n (omega arith),
      ms,
      ks,
    ) (simp and_assoc)
