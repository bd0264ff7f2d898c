-- `table::chord_start` meets its contract: the two bytes read are the chord's first member.
use mathlib.Core.Path.{◌≡◌, ◌∙◌}
use mathlib.Core.List.{List}
use Prim.Native.Nat.{ℕ, ◌+◌, ◌*◌}
use native.Mathlib.Omega.{arith}
use lib.ListN.{get_or}
use Rattle.model.specs.Layout.{word, chord_entry, part_start}
use Rattle.table.proofs.Places.{counts-in}
use Rattle.table.proofs.Walks.{two_bytes}
use Rattle.table.proofs.chord_start.Goals as goal

pub word_at-requires : goal.word_at-requires
word_at-requires c = let k = counts-in _ c.requires.0 in (omega arith, k.long)

pub word_at-requires-2 : goal.word_at-requires-2
word_at-requires-2 c = let k = counts-in _ c.requires.0 in (omega arith, k.long)

by-words : (s : List ℕ) (chord t r low high first : ℕ) → t ≡ word 0 s → r ≡ word 1 s
    → low ≡ get_or (chord_entry s chord) 0 0 → high ≡ get_or (chord_entry s chord) 1 0 → first ≡ low + 256 * high
    → 12 + (t + 4 * r) + first ≡ part_start s chord
unfolding word
by-words s chord t r low high first et er el eh e = rw (e, el, eh, er, et)

pub returns : goal.returns
returns c =
    by-words c.args.table.now c.args.chord _ _ _ _ _ (c.from-t.ensures ∙ c.word_at.ensures)
    (c.from-r.ensures ∙ c.word_at-2.ensures) c.entry_byte.ensures c.entry_byte-2.ensures
    (c.from.ensures ∙ (c.from_le_bytes-first.ensures ∙ two_bytes _ _))
