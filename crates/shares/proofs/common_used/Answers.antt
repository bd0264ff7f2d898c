-- `shares::common_used` meets its contract: 32 tallies of 16 bits fit in the sum.
use Rattle.std.proofs.Common.{arith, rules, tests}
use Rattle.std.proofs.lemmas.Iterator.{YieldsList-from_slice}
use Rattle.std.proofs.lemmas.Iterator.Adapters.{fits_from_length, at_most_from_yields_List}
use Rattle.shares.proofs.common_used.Goals as goal

pub sum-requires-clause-fits : goal.sum-requires-clause-fits
sum-requires-clause-fits c =
    fits_from_length _ _ 32 _ (at_most_from_yields_List (YieldsList-from_slice c.args.tallies.now cc) (omega arith))
    c.map.ensures.closure (omega arith) (λ x r q k. search (rules, tests))
