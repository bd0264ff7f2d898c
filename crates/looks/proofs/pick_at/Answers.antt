-- `looks::pick_at` meets its contract.
use borrow.Author.Tests.{eq-eqb, ne_eqb}
use Rattle.looks.proofs.pick_at.Goals as goal

pub returns-then-i-k : goal.returns-then-i-k
returns-then-i-k c = rw (eq-eqb _ _ c.if-i-k.true)

pub returns : goal.returns
returns c = rw (ne_eqb _ _ c.if-i-k.false)
