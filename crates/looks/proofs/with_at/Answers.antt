-- `looks::with_at` meets its contract: the numbers so far are those with m in place k.
use mathlib.Core.Path.{◌≡◌, sym, ◌∙◌}
use native.Mathlib.Omega.{arith}
use borrow.Author.Rules.{rules}
use lib.ListN.{length, length-set}
use Rattle.looks.proofs.Anew.{anew-step, anew-end}
use Rattle.looks.proofs.with_at.Goals as goal

pub loop-i-preserved : goal.loop-i-preserved
loop-i-preserved c =
    let a = c.args in
    let v = c.loop-i.invariant in
    let l : length a.c ≡ 8 = c.well_formed.0.1.0.1 in (
      search rules,
      length-set c.loop-i.r c.loop-i.i _ ∙ v.1,
      rw c.pick_at.ensures
          (anew-step a.c a.k a.m c.loop-i.r (v.1 ∙ sym l) c.loop-i.i (omega arith) v.2),
    )

pub returns : goal.returns
returns c =
    let a = c.args in
    let v = c.loop-i.invariant in
    let l : length a.c ≡ 8 = c.well_formed.0.1.0.1 in
    anew-end a.c a.k a.m c.loop-i.r (v.1 ∙ sym l) c.loop-i.i (omega arith) v.2
