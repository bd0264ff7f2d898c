-- `chords::first_sync` meets its contract: the place is the library's, in the part that holds the chord's channels.
use Rattle.std.proofs.Common.{ap, length, arith, rules, tests}
use Rattle.std.proofs.lemmas.List.{get_or_default}
use Rattle.std.proofs.lemmas.Iterator.{YieldsList-from_slice}
use Rattle.std.proofs.lemmas.Iterator.Search.{position_from_yields_List}
use Rattle.std.proofs.lemmas.Iterator.Adapters.{serves_from_places}
use Rattle.model.specs.Layout.{table_of}
use Rattle.model.specs.Tables.{is_sync, first_sync}
use Rattle.model.proofs.AcceptedChords.{table-ok}
use Rattle.chords.proofs.Places.{placed, first-few}
use Rattle.chords.proofs.first_sync.Goals as goal

pub position-place-requires-clause-callable : goal.position-place-requires-clause-callable
position-place-requires-clause-callable c =
    let s = c.members-part.result.now in
    let m = c.members-part.ensures in
    serves_from_places (YieldsList-from_slice s cc) (λ x q r. search (rules, tests)) (λ x k h e _ _ _ _ _ _ _ _.
    let q = (table-ok _ c.requires.0).channel-in c.args.chord k c.requires.1 (omega (arith, ap length m)) in
    (c.requires.0, rw (e, get_or_default s k x.now 0 h, m) q))

pub returns : goal.returns
unfolding first_sync
returns c =
    let s = c.members-part.result.now in
    let e = position_from_yields_List (is_sync (table_of c.args.table.now)) _ _ c.position-place.result
    c.position-place.ensures.ran (YieldsList-from_slice s cc) (λ x b q k. search (rules, tests)) in
    rw (c.unwrap_or.ensures, e, placed, c.members-part.ensures)

pub overflow_cast-result : goal.overflow_cast-result
unfolding first_sync
overflow_cast-result c =
    omega (arith, returns c, first-few (is_sync (table_of c.args.table.now)) c.args.table.now c.args.chord c.requires)
