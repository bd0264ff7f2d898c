-- `writes::turn_message` meets its contract: each column has record n, or stays.
use Rattle.std.proofs.Common.{arith}
use Rattle.writes.proofs.Parts.{part_writes}
use Rattle.writes.proofs.turn_message.Goals as goal

pub returns : goal.returns
returns c = λ board keys cents. record { columns = grind (arith, part_writes); matches = grind (arith, part_writes) }
