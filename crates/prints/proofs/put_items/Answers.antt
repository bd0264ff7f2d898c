-- `prints::put_items` meets its contract: a turn prints one number more.
use Rattle.std.proofs.Common.{arith}
use Rattle.prints.proofs.Texts.{items-next}
use Rattle.prints.proofs.put_items.Goals as goal

pub loop-n-preserved : goal.loop-n-preserved
loop-n-preserved c = (
  omega arith,
  items-next c.args.numbers.now c.loop-n.n-index (omega arith) c.loop-n.invariant.1 c.put_spaced-next.ensures.printed,
)
