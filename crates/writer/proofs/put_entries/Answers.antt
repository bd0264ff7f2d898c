-- `writer::put_entries` meets its contract: the entries left, stored from here on, give all of them stored.
use Rattle.std.proofs.Common.{◌≡◌, ◌+◌, ◌*◌, sym, ◌∙◌, arith}
use Rattle.writer.proofs.Chords.{zero_chord}
use Rattle.writer.proofs.Writes.{entries_next}
use Rattle.writer.proofs.put_entries.Goals as goal

pub loop-i-preserved : goal.loop-i-preserved
loop-i-preserved c =
    let a = c.args in
    let l = c.loop-i in
    let at = a.at + 4 * l.i in
    let e : a.at + 4 * (l.i + 1) ≡ at + 4 = omega arith in
    let f = entries_next a.chords.now l.i zero_chord (omega arith) l.out at l.next in
    (omega arith, rw (c.put_entry.ensures, c.from-next.ensures, e) (sym f ∙ l.invariant.1))
