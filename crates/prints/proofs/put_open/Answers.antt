-- `prints::put_open` meets its contract: the number after its word, then the word of its status.
use Rattle.std.proofs.Common.{◌≡◌, arith}
use Rattle.prints.proofs.Texts.{then}
use Rattle.prints.proofs.put_open.Goals as goal

pub returns-in-0-clause-printed : goal.returns-in-0-clause-printed
returns-in-0-clause-printed c = rw c.in-0.is (then c.put_named-next.ensures.printed c.put_alone.ensures.printed)

pub returns-in-1-clause-printed : goal.returns-in-1-clause-printed
returns-in-1-clause-printed c = rw c.in-1.is (then c.put_named-next.ensures.printed c.put_alone-in-1.ensures.printed)

pub returns-in_default-clause-printed : goal.returns-in_default-clause-printed
returns-in_default-clause-printed c =
    let e : c.args.status ≡ 2 = omega arith in
    rw e (then c.put_named-next.ensures.printed c.put_alone-in_default.ensures.printed)
