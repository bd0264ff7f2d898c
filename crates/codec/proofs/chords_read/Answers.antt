-- `codec::chords_read` meets its contract: the chords left, stored from here on, give all of them stored.
use Rattle.std.proofs.Common.{map, sym, ◌∙◌, arith}
use Rattle.std.proofs.lemmas.List.{length-map}
use lib.ListN.{get_or-map}
use Rattle.model.specs.Tables.{no_chord}
use Rattle.model.specs.Layout.{table_of}
use Rattle.model.proofs.AcceptedChords.{table-ok}
use Rattle.model.proofs.Walks.{fill-next}
use Rattle.codec.specs.Views.{chord_for}
use Rattle.codec.proofs.chords_read.Goals as goal

pub bounds-chords-from : goal.bounds-chords-from
bounds-chords-from c =
    let k = table-ok _ c.requires in
    omega arith

pub loop-i-preserved : goal.loop-i-preserved
loop-i-preserved c =
    let cs = (table_of c.args.table.now).chords in
    let i = c.loop-i.i in
    let m = length-map cs chord_for in
    let f = fill-next c.loop-i.chords (map chord_for cs) i i (chord_for no_chord) (omega arith) in
    rw (c.from.ensures, c.chord_read.ensures, ← get_or-map chord_for cs i no_chord) (sym f ∙ c.loop-i.invariant)
