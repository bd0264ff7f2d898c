-- Parts of a list: what one write does to them, and another part in their place, at any place and any width.
use mathlib.Core.Path.{◌≡◌}
use mathlib.Core.List.{List, ◌++◌}
use Prim.Native.Nat.{ℕ, ◌+◌, ◌-◌, ◌<◌, ◌≤◌}
use native.Mathlib.Omega.{arith}
use lib.ListN.{length, take, drop, get_or, set, length-append, length-drop}
use lib.Seq.{length-take-le, take-set-lt, take-set-le, drop-set-add, drop-set-lt}
use lib.Seq.{take_at, drop_at, drop-drop, take-append-le, drop-append-le, take-take}
use Rattle.model.proofs.Parts.{part-len, part_at, take-drop}
use Rattle.boards.specs.Parts.{part, splice}

module _ {A : Type 0} (at n : ℕ) (s : List A) where
  pub length_part : at + n ≤ length s → length (part at n s) ≡ n
  unfolding part
  length_part h = part-len s at n h

  -- element j of the part is element i of the list
  pub get_d_part : (i j : ℕ) (d : A) → i ≡ at + j → j < n → get_or (part at n s) j d ≡ get_or s i d
  unfolding part
  get_d_part i j d e h = rw e (part_at s at n j d h)

  -- a write to element j of the part, one before the part, and one after it
  pub set_here : (i j : ℕ) (a : A) → i ≡ at + j → j < n → part at n (set s i a) ≡ set (part at n s) j a
  unfolding part
  set_here i j a e h = rw (e, drop-set-add at s j a) (take-set-lt n (drop at s) j a h)

  pub set_before : (i : ℕ) (a : A) → i < at → part at n (set s i a) ≡ part at n s
  unfolding part
  set_before i a h = rw (drop-set-lt at s i a h)

  pub set_after : (i : ℕ) (a : A) → at + n ≤ i → part at n (set s i a) ≡ part at n s
  unfolding part
  set_after i a h =
      let e : i ≡ at + (i - at) = omega arith in
      rw (e, drop-set-add at s (i - at) a) (take-set-le n (drop at s) (i - at) a (omega arith))

-- another part in the place of the one from `at` on
module _ {A : Type 0} (at n : ℕ) (ys s : List A) (h : at + n ≤ length s) (e : length ys ≡ n) where
  before_at : length (take at s) ≡ at
  before_at = length-take-le at s (omega arith)

  pub splice-here : part at n (splice at n ys s) ≡ ys
  unfolding part splice
  splice-here = rw (drop_at (take at s) (ys ++ drop n (drop at s)) at before_at) (take_at ys _ n e)

  pub length-splice : length (splice at n ys s) ≡ length s
  unfolding splice
  length-splice =
      let p = before_at in
      let q = length-drop at s in
      let r = length-drop n (drop at s) in
      rw (length-append (take at s) (ys ++ drop n (drop at s)), length-append ys (drop n (drop at s))) (omega arith)

  -- a part that begins after it
  pub splice-above : (a m : ℕ) → at + n ≤ a → part a m (splice at n ys s) ≡ part a m s
  unfolding part splice
  splice-above a m l =
      let z : a ≡ at + n + (a - (at + n)) = omega arith in
      let rest = drop n (drop at s) in
      rw (
        z,
        ← drop-drop (a - (at + n)) (at + n) (take at s ++ (ys ++ rest)),
        ← drop-drop n at (take at s ++ (ys ++ rest)),
        drop_at (take at s) (ys ++ rest) at before_at,
        drop_at ys rest n e,
        drop-drop n at s,
        drop-drop (a - (at + n)) (at + n) s,
      )

  -- a part that ends before it
  pub splice-below : (a m : ℕ) → a + m ≤ at → part a m (splice at n ys s) ≡ part a m s
  unfolding part splice
  splice-below a m l =
      let p = before_at in
      let q = length-drop a (take at s) in
      let z : at ≡ a + (at - a) = omega arith in
      rw (
        drop-append-le a (take at s) (ys ++ drop n (drop at s)) (omega arith),
        take-append-le m (drop a (take at s)) (ys ++ drop n (drop at s)) (omega arith),
      )
      (rw (z, ← take-drop a (at - a) s) (take-take m (at - a) (drop a s) (omega arith)))
