-- `columns::fit::put_kinds` meets its contract: the bytes below i are told.
use mathlib.Core.Path.{◌≡◌, refl}
use Prim.Native.Nat.{◌+◌}
use native.Mathlib.Omega.{arith}
use borrow.Author.Rules.{rules}
use Rattle.columns.specs.Firsts.{of_kind}
use Rattle.columns.specs.Words.{bit}
use Rattle.columns.proofs.Told.{told_more}
use Rattle.columns.proofs.fit.put_kinds.Goals as goal

pub loop-i-preserved : goal.loop-i-preserved
unfolding bit of_kind
loop-i-preserved c =
    (search rules, told_more (omega arith) refl c.loop-i.invariant.1)

pub returns : goal.returns
returns c =
    let e : c.loop-i.i ≡ c.args.from + 16 = omega arith in
    rw (← e) c.loop-i.invariant.1
