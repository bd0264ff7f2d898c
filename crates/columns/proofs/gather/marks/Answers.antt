-- `columns::gather::marks` meets its contract: the bytes below i are written.
use native.Mathlib.Omega.{arith}
use borrow.Author.Rules.{rules}
use Rattle.model.proofs.Walks.{set_more}
use Rattle.columns.specs.Words.{bit, is_one, placed}
use Rattle.columns.proofs.Bytes.{placed-is}
use Rattle.columns.proofs.gather.marks.Goals as goal

pub loop-i-preserved : goal.loop-i-preserved
unfolding bit is_one
loop-i-preserved c =
    let a = c.args in (
      search rules,
      search rules,
      set_more (λ k. placed (is_one a.y.now k) k) c.loop-i.z c.loop-i.i _ 0 (omega arith)
          (placed-is _ c.loop-i.i) c.loop-i.invariant.2,
    )

pub returns : goal.returns
returns c = λ k h. c.loop-i.invariant.2 k (omega arith)
