-- Laws of chords walked from the front: a chord's four bytes at a place, and what is left from there on.
use mathlib.Core.Path.{◌≡◌}
use mathlib.Core.Bool.{◌&&◌}
use mathlib.Core.List.{List, [], ◌∷◌}
use Prim.Native.Nat.{ℕ, suc, ◌+◌, ◌-◌, ◌*◌, ◌<◌}
use native.Mathlib.Nat.{add-zero}
use native.Mathlib.Omega.{arith}
use lib.Dec.{eqb, leb}
use lib.ListN.{get_or, drop}
use lib.Seq.{drop-drop, get_or-drop}
use Rattle.std.specs.Int.{from_le_bytes, w16}
use Rattle.model.specs.Layout.{chord_ok, chords_ok, members_sum, word}

-- two bytes, the low one first
pub two_bytes : (a b : ℕ) → from_le_bytes w16 (a ∷ b ∷ []) ≡ a + 256 * b
two_bytes a b = omega arith

-- a word, and a chord's bytes, at a place
word-from : (s : List ℕ) (at : ℕ) → word 0 (drop at s) ≡ get_or s at 0 + 256 * get_or s (at + 1) 0
unfolding word
word-from s at = rw (get_or-drop, get_or-drop, add-zero at)

pub chord_from : (s : List ℕ) (at next : ℕ) → chord_ok next (drop at s)
    ≡ (eqb (get_or s at 0 + 256 * get_or s (at + 1) 0) next
    && (leb 1 (get_or s (at + 2) 0) && (leb (get_or s (at + 2) 0) 8 && leb (get_or s (at + 3) 0) 2)))
unfolding chord_ok
chord_from s at next = rw (word-from s at, get_or-drop at s 2 0, get_or-drop at s 3 0)

module _ (s : List ℕ) (i n : ℕ) (h : i < n) where
  four : drop 4 (drop (4 * i) s) ≡ drop (4 * (i + 1)) s
  four = let e : 4 * i + 4 ≡ 4 * (i + 1) = omega arith in rw (drop-drop, e)

  pub chords-at : (next : ℕ) → chords_ok (n - i) next (drop (4 * i) s)
      ≡ (chord_ok next (drop (4 * i) s) && chords_ok (n - (i + 1)) (next + get_or s (4 * i + 2) 0) (drop (4 * (i + 1)) s))
  chords-at next =
      let e : n - i ≡ suc (n - (i + 1)) = omega arith in
      rw (e, four, get_or-drop (4 * i) s 2 0)

  pub sum-at : members_sum (n - i) (drop (4 * i) s)
      ≡ get_or s (4 * i + 2) 0 + members_sum (n - (i + 1)) (drop (4 * (i + 1)) s)
  sum-at =
      let e : n - i ≡ suc (n - (i + 1)) = omega arith in
      rw (e, four, get_or-drop (4 * i) s 2 0)
