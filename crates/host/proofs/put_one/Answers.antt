-- `host::put_one` meets its contract: one store.
use lib.IntN.{pos}
use native.Mathlib.Omega.{arith}
use Rattle.host.proofs.ReadLaws.{number-back, one-put}
use Rattle.host.proofs.put_one.Goals as goal

pub returns : goal.returns
returns c = rw (number-back c.args.n (omega arith)) (one-put c.args.out.now (pos c.args.n) c.requires)
