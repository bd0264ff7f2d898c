-- `looks::found` meets its contract, for the last member and for another.
use mathlib.Core.Path.{sym, ◌∙◌}
use mathlib.Core.Bool.{true, false}
use Prim.Native.Nat.{suc}
use native.Mathlib.Numerals.{add-one}
use borrow.Author.Tests.{eq-eqb, ne_eqb}
use Rattle.looks.proofs.Looking.{found-is}
use Rattle.looks.proofs.found.Goals as goal

pub returns-then-k-size : goal.returns-then-k-size
returns-then-k-size c =
    let a = c.args in
    λ t b e.
    let l = e ∙ sym c.if-k-size.true ∙ add-one a.k in
    rw c.works.ensures
    (found-is t b a.d a.k c.chose-last.result a.m true (eq-eqb (suc a.k) _ (sym l)) (c.chose-last.ensures t l))

pub returns : goal.returns
returns c =
    let a = c.args in
    λ t b e. rw c.works-2.ensures
    (found-is t b a.d a.k c.chose-next.result a.m false
    (ne_eqb (suc a.k) _ (λ z. c.if-k-size.false (add-one a.k ∙ z ∙ e)))
    (rw (← add-one a.k) (c.chose-next.ensures t (add-one a.k))))
