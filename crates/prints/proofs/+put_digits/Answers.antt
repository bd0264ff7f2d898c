-- `prints::put_digits` meets its contract: the digits before the last, then the last.
use Rattle.prints.proofs.Decimals.{decimal_small, decimal_more}
use Rattle.prints.proofs.Texts.{then}
use Rattle.prints.proofs.+put_digits.Goals as goal

pub returns-then-n-lt10 : goal.returns-then-n-lt10
returns-then-n-lt10 t c = rw (decimal_small c.args.n c.if-n-lt10.true) c.put.ensures

pub returns : goal.returns
returns t c = rw (decimal_more c.args.n c.if-n-lt10.false) (then c.put_digits-next.ensures c.put-2.ensures)
