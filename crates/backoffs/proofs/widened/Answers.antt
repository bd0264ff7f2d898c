-- `backoffs::widened` meets its contract: each entry is the byte.
use Rattle.std.proofs.Common.{arith, rules}
use Rattle.std.proofs.lemmas.Grind.{same_number_lists}
use Rattle.backoffs.proofs.widened.Goals as goal

pub returns : goal.returns
returns c =
    let h = c.map.ensures.items in
    same_number_lists c.map.result c.args.rests.now (omega (arith, h.long)) (λ k l.
    let e = h.at k 0 0 (omega (arith, h.long)) in search (rules, e))
