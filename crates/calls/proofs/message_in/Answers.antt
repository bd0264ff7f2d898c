-- `calls::message_in` meets its contract: the columns that the read is lent are those of the lists.
use mathlib.Core.Path.{refl, ap, ◌∙◌}
use lib.ListN.{get_or}
use Rattle.calls.proofs.ListReads.{message-by}
use Rattle.calls.proofs.message_in.Goals as goal

pub returns : goal.returns
returns c =
    let a = c.args in record {
      result_value = message-by a.cents.now a.n c.channels.ensures.0 refl c.statuses.ensures.0
          c.matched.ensures.0 c.wakers.ensures.0 c.units.ensures.0 c.message_read.ensures.result_value;
      status_value = c.message_read.ensures.status_value ∙ ap (λ x. get_or x a.n 0) c.statuses.ensures.0;
    }
