-- `merger::chord_after` meets its contract: the channels left, mapped and stored from here on, give all of them stored.
use Rattle.std.proofs.Common.{get_or, arith}
use Rattle.std.proofs.lemmas.List.{length-map, drop_all}
use Rattle.model.specs.Tables.{chord_at}
use Rattle.model.specs.Layout.{table_of}
use Rattle.model.proofs.AcceptedChords.{table-ok}
use Rattle.table.proofs.Equalities.{equality-for}
use Rattle.codec.specs.Views.{chord_for}
use Rattle.merger.proofs.chord_after.Goals as goal

pub bounds-targets-from : goal.bounds-targets-from
bounds-targets-from c =
    let t = table-ok _ c.requires.accepted in
    let l = rw c.members-x-items.ensures at c.loop-k-test.true in
    rw (c.from.ensures, c.members-x-items.ensures)
    (omega (arith, t.kinds_few, t.channel-in c.args.chord c.loop-k.k c.requires.chord-in l))

pub bounds-channels-k : goal.bounds-channels-k
bounds-channels-k c =
    let few = (table-ok _ c.requires.accepted).chord_few c.args.chord c.requires.chord-in in
    let l = rw c.members-x-items.ensures at c.loop-k-test.true in
    omega (arith, few, l)

pub returns : goal.returns
unfolding chord_for
returns c =
    let a = c.args in
    let own = (chord_at (table_of a.second.now) a.chord).channels in
    let e = rw (drop_all _ _ c.loop-k-test.false, c.members-x-items.ensures) at c.loop-k.invariant in
    let n = length-map own (λ x. get_or a.targets.now x 0) in
    cc (e, n, equality-for c.chord_equal.result c.chord_equal.ensures)
