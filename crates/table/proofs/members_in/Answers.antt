-- `table::members_in` meets its contract: the answer and the sum for all chords are those for the chords left.
use mathlib.Core.Path.{sym, ◌∙◌}
use Prim.Native.Nat.{◌+◌, ◌*◌, ◌<◌}
use native.Mathlib.Omega.{arith}
use Rattle.table.proofs.Walks.{chords-at, sum-at}
use Rattle.table.proofs.members_in.Goals as goal

pub loop-i-preserved : goal.loop-i-preserved
loop-i-preserved c =
    let s = c.args.s.now in
    let i = c.loop-i.i in
    let h : i < c.args.n = omega arith in
    let passed = sym c.chord_ok.ensures ∙ c.if-not-chord_ok.false in
    record {
      small = omega (arith, c.from-next.ensures, c.type_inv.s (4 * i + 2));
      ok = c.loop-i.invariant.ok ∙ rw (chords-at s i c.args.n h c.loop-i.next, passed, c.from-next.ensures);
      sum = c.loop-i.invariant.sum ∙ rw (sum-at s i c.args.n h, c.from-next.ensures) (omega arith);
    }
