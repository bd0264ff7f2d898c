-- `prints::put_match` meets its contract: the numbers, each after its word, the cents and the items.
use borrow.Author.Rules.{rules}
use mir.Syntax.{w64}
use mir.Val.{SFits}
use mir.ValLaws.{to_z-of_z}
use Rattle.prints.proofs.Texts.{then}
use Rattle.prints.proofs.put_match.Goals as goal

pub returns-clause-printed : goal.returns-clause-printed
returns-clause-printed c =
    let items = then c.put_text-next-2.ensures (then c.put_items-next.ensures.printed c.put.ensures) in
    let line = then c.put_named-next.ensures.printed (then c.put_named-next-2.ensures.printed
    (then c.put_text-next.ensures (then c.put_signed-next.ensures.printed items))) in
    let x = c.args.m.cents in
    let f : SFits w64 x = search rules in
    rw (c.from.ensures, c.from-2.ensures, to_z-of_z w64 x f) at line
