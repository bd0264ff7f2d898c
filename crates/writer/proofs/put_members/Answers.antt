-- `writer::put_members` meets its contract: the members left, stored from here on, give all of them stored.
use Rattle.std.proofs.Common.{sym, ◌∙◌, arith}
use Rattle.std.proofs.lemmas.List.Sums.{sum_by-drop_more}
use Rattle.codec.specs.declared.Chord.{Chord}
use Rattle.writer.proofs.Chords.{zero_chord}
use Rattle.writer.proofs.Writes.{members-next}
use Rattle.writer.proofs.put_members.Goals as goal

pub loop-c-preserved : goal.loop-c-preserved
loop-c-preserved c =
    let cs = c.args.chords.now in
    let l = c.loop-c in
    let n = sum_by-drop_more (λ (c : Chord). c.len) cs l.c-index zero_chord (omega arith) in
    let f = members-next cs l.c-index zero_chord (omega arith) l.out l.next in
    let v = c.channels_of-channels.ensures in
    (omega arith, rw (v.len, c.put_bytes.ensures, v.value) (sym f ∙ l.invariant.1))
