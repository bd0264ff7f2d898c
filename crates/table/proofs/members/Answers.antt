-- `table::members` meets its contract: the part lies within the table and holds the chord's channels.
use mathlib.Core.Path.{◌≡◌}
use Prim.Native.Nat.{◌+◌, ◌-◌, ◌≤◌}
use native.Mathlib.Omega.{arith}
use lib.ListN.{length}
use Rattle.model.proofs.TableLaws.{size_is, part_in, part-is}
use Rattle.table.proofs.members.Goals as goal

within : (c : goal.After-from) → c.chord_start-start.result + c.from.result ≤ length c.args.table.now
within c =
    let t = c.args.table.now in
    let q = c.args.chord in
    let h = c.requires in
    rw (c.chord_start-start.ensures, c.from.ensures, c.chord_len.ensures, size_is t q h.0 h.1) (part_in t q h.0 h.1)

pub overflow_add-end : goal.overflow_add-end
overflow_add-end c = omega (arith, within c)

pub slice_bounds-result-end : goal.slice_bounds-result-end
slice_bounds-result-end c = within c

pub returns : goal.returns
returns c =
    let t = c.args.table.now in
    let q = c.args.chord in
    let h = c.requires in
    let a = c.chord_start-start.result in
    let b = c.from.result in
    let e : a + b - a ≡ b = omega arith in
    rw (part-is t q h.0 h.1, e, c.chord_start-start.ensures, c.from.ensures, c.chord_len.ensures, size_is t q h.0 h.1)
