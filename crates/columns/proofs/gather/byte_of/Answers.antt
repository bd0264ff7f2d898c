-- `columns::gather::byte_of` meets its contract: the word of the i bytes from number `at` on.
use mathlib.Core.List.{List}
use mathlib.Core.Path.{◌≡◌, refl}
use Prim.Native.Nat.{ℕ, ◌+◌, ◌≤◌, ◌<◌, ◌%◌}
use native.Mathlib.Omega.{arith}
use lib.ListN.{get_or}
use borrow.Author.Rules.{rules}
use Rattle.columns.specs.Words.{word_from, word_of, Marks}
use Rattle.columns.proofs.Bytes.{word_fits, byte_more}
use Rattle.columns.proofs.gather.byte_of.Goals as goal

-- the word with one bit more
turn : (y : List ℕ) (at i s : ℕ) → at + 8 ≤ 64 → at % 8 ≡ 0 → Marks y → i < 8 → s ≡ word_of y at i
    → s + get_or y (at + i) 0 ≡ word_of y at (i + 1)
turn y at i s h z m l e = rw e (byte_more y at i (at + i) refl (omega arith) (m (at + i) (omega arith)))

pub loop-i-init : goal.loop-i-init
unfolding word_from
loop-i-init c = search rules

pub overflow_add-s-in-loop-i : goal.overflow_add-s-in-loop-i
overflow_add-s-in-loop-i c =
    let a = c.args in
    let l = c.loop-i in
    let e : l.s + get_or a.y.now (a.at + l.i) 0 ≡ word_of a.y.now a.at (l.i + 1) =
    turn a.y.now a.at l.i l.s c.requires.0 c.requires.1 c.requires.2 (omega arith) l.invariant.1 in
    record { fits = rw e (word_fits a.y.now a.at (l.i + 1) 8 (omega arith)) }

pub loop-i-preserved : goal.loop-i-preserved
loop-i-preserved c =
    let a = c.args in
    let l = c.loop-i in
    (search rules, turn a.y.now a.at l.i l.s c.requires.0 c.requires.1 c.requires.2 (omega arith) l.invariant.1)

pub returns : goal.returns
returns c =
    let z : c.loop-i.i ≡ 8 = omega arith in
    rw z at c.loop-i.invariant.1
