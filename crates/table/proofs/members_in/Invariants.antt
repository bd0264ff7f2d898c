-- The rest of the chords, from where the members before them end, decides.
use mathlib.Core.Path.{◌≡◌}
use Prim.Native.Nat.{◌≤◌, ◌-◌, ◌+◌, ◌*◌}
use lib.ListN.{drop}
use Rattle.model.specs.Layout.{chords_ok, members_sum}
use Rattle.table.proofs.members_in.Given as goal

abbrev pub invariant-loop-i : goal.invariant-loop-i
invariant-loop-i l = record {
  small : l.next ≤ 255 * l.i;
  ok : chords_ok l.n 0 l.s ≡ chords_ok (l.n - l.i) l.next (drop (4 * l.i) l.s);
  sum : members_sum l.n l.s ≡ l.next + members_sum (l.n - l.i) (drop (4 * l.i) l.s);
}
