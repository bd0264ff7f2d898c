-- `refusals::all_within` meets its contract: each row by itself.
use Rattle.std.proofs.Common.{◌+◌, ◌*◌, refl, rules, tests}
use Rattle.std.proofs.lemmas.Iterator.{YieldsList-from_range}
use Rattle.std.proofs.lemmas.Iterator.Search.{all_from_yields_List}
use Rattle.refusals.specs.Rows.{row, within, all_within}
use Rattle.refusals.proofs.all_within.Goals as goal

pub returns : goal.returns
unfolding all_within
returns c =
    all_from_yields_List (λ i. within c.args.most.now (row c.args.s.now (2 + 21 * i))) _ _ _ c.all.ensures.ran
    (YieldsList-from_range 0 32 32 refl refl) (λ x r q k. search (rules, tests))
