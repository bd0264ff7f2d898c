-- `chords::first_of` meets its contract: the place is the library's, in the part that holds the chord's channels.
use Rattle.std.proofs.Common.{eqb, arith, rules, tests}
use Rattle.std.proofs.lemmas.Iterator.{YieldsList-from_slice}
use Rattle.std.proofs.lemmas.Iterator.Search.{position_from_yields_List}
use Rattle.chords.proofs.Places.{placed, first-few}
use Rattle.chords.proofs.first_of.Goals as goal

pub returns : goal.returns
returns c =
    let s = c.members-part.result.now in
    let e = position_from_yields_List (eqb c.args.channel) _ _ c.position-place.result c.position-place.ensures.ran
    (YieldsList-from_slice s cc) (λ x b q k. search (rules, tests)) in
    rw (c.unwrap_or.ensures, e, placed, c.members-part.ensures)

pub overflow_cast-result : goal.overflow_cast-result
overflow_cast-result c =
    omega (arith, returns c, first-few (eqb c.args.channel) c.args.table.now c.args.chord c.requires)
