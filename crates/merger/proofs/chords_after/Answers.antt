-- `merger::chords_after` meets its contract: the chords left, stored from here on, give all of them stored.
use Rattle.std.proofs.Common.{◌≡◌, ◌+◌, map, sym, ap, ◌∙◌, arith}
use Rattle.std.proofs.lemmas.List.{length-map}
use lib.ListN.{get_or-map}
use Rattle.model.specs.Tables.{no_chord}
use Rattle.model.specs.Layout.{table_of}
use Rattle.model.proofs.Walks.{fill-next}
use Rattle.merging.specs.Merges.{merged_chord}
use Rattle.codec.specs.Views.{chord_for}
use Rattle.merger.specs.Asks.{chords_for}
use Rattle.merger.proofs.chords_after.Goals as goal

pub loop-i-preserved : goal.loop-i-preserved
loop-i-preserved c =
    let a = c.args in
    let i = c.loop-i.i in
    let cs = (table_of a.second.now).chords in
    let m = merged_chord a.targets.now in
    let n = length-map cs m in
    let o = length-map (map m cs) chord_for in
    let all = chords_for a.targets.now a.second.now in
    let f = fill-next c.loop-i.chords all (a.at + i) i (chord_for (m no_chord)) (omega arith) in
    let g = get_or-map chord_for (map m cs) i (m no_chord) ∙ ap chord_for (get_or-map m cs i no_chord) in
    let z : a.at + (i + 1) ≡ a.at + i + 1 = omega arith in
    rw (c.from.ensures, c.chord_after.ensures, ← g, z) (sym f ∙ c.loop-i.invariant)
