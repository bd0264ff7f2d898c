-- Laws of accepted table bytes by the place of a chord: its entry, size, what it wants to be equal, and its part.
use mathlib.Core.Path.{◌≡◌, refl, sym}
use mathlib.Core.List.{List}
use Prim.Native.Nat.{ℕ, ◌<◌, ◌≤◌, ◌+◌, ◌*◌, zero, suc}
use borrow.Author.Tests.{lt-ltb}
use lib.ListN.{length, get_or, take, drop}
use lib.Seq.{drop-drop}
use native.Mathlib.Nat.{not-suc-le-zero, le_of_suc-le-suc}
use native.Mathlib.Omega.{arith}
use Rattle.model.specs.Tables.{chord_at, size, no_chord}
use Rattle.model.specs.Layout.{table_refusal, table_of, count_t, count_r, chords_start, chord_bytes, members_sum}
use Rattle.model.specs.Layout.{chord_entry, part_start, part_size, chord_refusal, chord_part, chords_from, member_bytes}
use Rattle.model.specs.Layout.{equality_of}
use Rattle.model.proofs.Accepted.{accepted}
use Rattle.model.proofs.AcceptedChords.{ChordSays, says_at, sum-up-to, size_of, length-chords}
use Rattle.model.proofs.Survive.{tables-survive}

equal-from : (n : ℕ) (s ms : List ℕ) (q : ℕ) → q < n
    → (get_or (chords_from n s ms) q no_chord).equal ≡ equality_of (get_or (drop (4 * q) s) 3 0)
equal-from zero s ms q h = absurd (not-suc-le-zero h)
equal-from (suc n) s ms zero h = refl
equal-from (suc n) s ms (suc q) h =
    let e : 4 + 4 * q ≡ 4 * suc q = omega arith in
    let d : drop (4 * q) (drop 4 s) ≡ drop (4 * suc q) s = rw (drop-drop, e) in
    rw (← d) (equal-from n (drop 4 s) (drop (get_or s 2 0) ms) q (le_of_suc-le-suc h))

module _ (s : List ℕ) (q : ℕ) (e : table_refusal s ≡ 0) (h : q < length (table_of s).chords) where
  pub below-count : q < count_r s
  below-count = omega (arith, length-chords s (accepted s e))

  entry-is : drop (4 * q) (chord_bytes s) ≡ chord_entry s q
  entry-is = drop-drop (4 * q) (chords_start (count_t s)) s

  pub entry-says : ChordSays (members_sum q (chord_bytes s)) (chord_entry s q)
  entry-says = rw entry-is at (says_at s (accepted s e) q below-count)

  pub size_is : size (table_of s) q ≡ part_size s q
  size_is = rw (← entry-is) (size_of s (accepted s e) q below-count)

  pub size_few : size (table_of s) q ≤ 8
  size_few = rw size_is entry-says.few

  pub equal_is : (chord_at (table_of s) q).equal ≡ equality_of (get_or (chord_entry s q) 3 0)
  unfolding table_of
  equal_is = rw (← entry-is) (equal-from (count_r s) (chord_bytes s) (member_bytes s) q below-count)

  pub part_in : part_start s q + part_size s q ≤ length s
  part_in =
      let a = accepted s e in
      let u = rw entry-is at (sum-up-to (count_r s) (chord_bytes s) q below-count) in
      let f = entry-says.first in
      omega arith

  pub part-is : (chord_at (table_of s) q).channels ≡ take (part_size s q) (drop (part_start s q) s)
  unfolding chord_part chord_refusal
  part-is =
      let p : chord_part s q ≡ (chord_at (table_of s) q).channels = tables-survive.part s q e below-count in
      sym (rw (e, lt-ltb q (count_r s) below-count) at p)
