-- `columns::gather::low_bits` meets its contract: a remainder.
use mathlib.Core.Path.{sym}
use native.Mathlib.Nat.{mod-eq_of_lt}
use native.Mathlib.Omega.{arith}
use lib.Pow.{pow_pos}
use Rattle.columns.proofs.Words.{one_shifted}
use Rattle.columns.proofs.gather.low_bits.Goals as goal

pub returns-then-n-eq64 : goal.returns-then-n-eq64
returns-then-n-eq64 c l = rw c.if-n-eq64.true (sym (mod-eq_of_lt l))

pub nonzero_rem-result : goal.nonzero_rem-result
nonzero_rem-result c =
    let n = c.args.n in
    let h = pow_pos n in
    rw (one_shifted n (omega arith)) (omega arith)

pub returns : goal.returns
returns c l = rw (one_shifted c.args.n (omega arith))
