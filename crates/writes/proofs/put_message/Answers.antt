-- `writes::put_message` meets its contract: each column has record n, or stays.
use Rattle.std.proofs.Common.{arith}
use Rattle.writes.proofs.Parts.{part_writes}
use Rattle.writes.proofs.put_message.Goals as goal

pub returns : goal.returns
returns c = λ board. record { columns = grind (arith, part_writes); matches = grind (arith, part_writes) }
