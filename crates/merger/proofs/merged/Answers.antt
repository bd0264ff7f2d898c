-- `merger::merged` meets its contract: the first's kinds and chords, and the second's after them.
use Rattle.std.proofs.Common.{◌≡◌, length, arith, rules}
use Rattle.model.proofs.AcceptedChords.{table-ok}
use Rattle.merger.proofs.Values.{value-merged}
use Rattle.merger.proofs.merged.Goals as goal

pub targets-requires : goal.targets-requires
targets-requires c =
    let few = (table-ok _ c.requires.chords.accepted).kinds_few in
    (omega arith, omega arith)

pub returns : goal.returns
returns c =
    let a = c.args in
    let r = c.requires in
    let k : length a.first.kinds ≡ 16 = search rules in
    let h : length a.first.chords ≡ 32 = search rules in
    rw (
      c.kinds_after.ensures,
      c.kinds.ensures,
      c.count_new.ensures,
      c.chords_after.ensures,
      c.targets.ensures,
      c.chords_len.ensures,
    )
    (value-merged a.first a.second.now a.map.now r.chords.accepted r.whole (omega arith) (omega arith))
