-- A table survives being written and read: accepted bytes are what is written for the table read from them, what is
-- written for a table reads as it, and a chord's channels are the part of the bytes that holds them.
use mathlib.Core.Path.{◌≡◌, refl}
use mathlib.Core.Bool.{true}
use mathlib.Core.List.{List, [], ◌∷◌, ◌++◌}
use Prim.Native.Nat.{ℕ, ◌<◌, ◌*◌, zero, suc, ◌+◌, ◌%◌, ◌/◌, ◌≤◌}
use borrow.Author.Tests.{lt-ltb, ltb-true}
use lib.Dec.{T, ltb}
use lib.ListN.{drop, get_or, take, length, length-drop, take-append-drop}
use lib.Seq.{drop-drop, drop-cons, take-add, length-take-le, get_or-drop, take-length}
use native.Mathlib.Numerals.{add-one}
use native.Mathlib.Omega.{arith}
use Rattle.model.specs.Tables.{chord_at}
use Rattle.model.specs.Layout.{table_refusal, count_r, chord_part, table_of, chord_refusal, chords_start, count_t}
use Rattle.model.specs.Layout.{members_start, all_bytes, two, word, written_header, count_m, written_members}
use Rattle.model.specs.Layout.{chords_from, members_sum, chords_ok, written_chords, chord_ok, member_bytes}
use Rattle.model.specs.Layout.{chord_bytes, table_bytes, TablesSurvive}
use Rattle.model.proofs.Tests.{both}
use Rattle.model.proofs.Accepted.{accepted, Accepted}
use Rattle.model.proofs.AcceptedChords.{says_at, channels-of, chord-says, length-members, length-kinds}
use Rattle.model.proofs.AcceptedChords.{length-chords}
use Rattle.model.proofs.Written.{equality-back, table-there}

-- a chord's channels as a part of the bytes
chord-part : (s : List ℕ) (r : ℕ) → table_refusal s ≡ 0 → r < count_r s
    → chord_part s r ≡ (chord_at (table_of s) r).channels
unfolding chord_part chord_refusal
chord-part s r e h =
    let a = accepted s e in
    let c = (says_at s a r h).first in
    let d = drop-drop (4 * r) (chords_start (count_t s)) s in
    rw (e, lt-ltb r (count_r s) h, ← d, c, ← drop-drop _ (members_start (count_t s) (count_r s)) s, channels-of s a r h)

-- past the end there is 0, so this needs no bound
abbrev Bytes : List ℕ → Type 0
Bytes s = (j : ℕ) → get_or s j 0 < 256

bytes : (s : List ℕ) → all_bytes s ≡ true → Bytes s
bytes [] e j = omega arith
bytes (x ∷ xs) e zero = ltb-true x 256 (both {t = ltb x 256} e).0
bytes (x ∷ xs) e (suc j) = bytes xs (both {t = ltb x 256} e).1 j

two_bytes : (a b : ℕ) (xs : List ℕ) → a < 256 → two (a + 256 * b) ++ xs ≡ a ∷ (b ∷ xs)
two_bytes a b xs h =
    let p : (a + 256 * b) % 256 ≡ a = omega arith in
    let q : (a + 256 * b) / 256 ≡ b = omega arith in
    rw (p, q)

take-word : (s : List ℕ) → Bytes s → (i n : ℕ) → suc (2 * i) < length s
    → take (suc (suc n)) (drop (2 * i) s) ≡ two (word i s) ++ take n (drop (suc (suc (2 * i))) s)
unfolding word
take-word s b i n h =
    rw (add-one, two_bytes _ _ _ (b (2 * i)), drop-cons s (2 * i) 0 (omega arith), drop-cons s (suc (2 * i)) 0)

take-header : (s : List ℕ) → Accepted s → Bytes s → written_header (count_t s) (count_r s) (count_m s) ≡ take 12 s
take-header s a b =
    rw (
      take-word s b 0 10 (omega arith),
      take-word s b 1 8 (omega arith),
      take-word s b 2 6 (omega arith),
      take-word s b 3 4 (omega arith),
      take-word s b 4 2 (omega arith),
      take-word s b 5 0 (omega arith),
      a.kinds_from,
      a.chords-from,
      a.members_from,
    )

members-back : (n : ℕ) (s ms : List ℕ) → written_members (chords_from n s ms) ≡ take (members_sum n s) ms
members-back zero s ms = refl
members-back (suc n) s ms =
    rw (members-back n (drop 4 s) (drop (get_or s 2 0) ms), ← take-add (get_or s 2 0) (members_sum n (drop 4 s)) ms)

chords-back : (n next : ℕ) (s ms : List ℕ) → Bytes s → 4 * n ≤ length s → members_sum n s ≤ length ms
    → chords_ok n next s ≡ true → written_chords next (chords_from n s ms) ≡ take (4 * n) s
chords-back zero next s ms b l m e = refl
chords-back (suc n) next s ms b l m e =
    let p = both {t = chord_ok next s} e in
    let c = chord-says next s p.0 in
    let z : 4 * suc n ≡ suc (suc (suc (suc (4 * n)))) = omega arith in
    rw (
      z,
      take-word s b 0 (suc (suc (4 * n))) (omega arith),
      drop-cons s 2 0 (omega arith),
      drop-cons s 3 0 (omega arith),
      c.first,
      length-take-le (get_or s 2 0) ms (omega arith),
      equality-back (get_or s 3 0) c.one_of,
      chords-back n (next + get_or s 2 0) (drop 4 s) (drop (get_or s 2 0) ms) (λ j. rw get_or-drop (b (4 + j)))
          (rw length-drop (omega arith)) (rw length-drop (omega arith)) p.1,
    )

-- the four parts of table bytes are all of them
parts : (s : List ℕ) (T R : ℕ)
    → take 12 s ++ (take T (drop 12 s) ++ (take (4 * R) (drop (chords_start T) s) ++ drop (members_start T R) s)) ≡ s
parts s T R =
    let z : 12 + (T + 4 * R) ≡ 12 + T + 4 * R = omega arith in
    rw (z, ← drop-drop (4 * R) (12 + T) s, take-append-drop, ← drop-drop T 12 s, take-append-drop, take-append-drop)

module _ (s : List ℕ) (a : Accepted s) where
  members-are : written_members (table_of s).chords ≡ member_bytes s
  unfolding table_of
  members-are =
      let k : members_sum (count_r s) (chord_bytes s) ≡ length (member_bytes s) = omega (arith, length-members s a) in
      rw (members-back (count_r s) (chord_bytes s) (member_bytes s), k, take-length)

  chords-are : Bytes s → written_chords 0 (table_of s).chords ≡ take (4 * count_r s) (chord_bytes s)
  unfolding table_of
  chords-are b =
      chords-back (count_r s) 0 (chord_bytes s) (member_bytes s) (λ j. rw get_or-drop (b _)) (rw length-drop (omega arith))
      (omega (arith, length-members s a)) a.chords-ok

bytes_back : (s : List ℕ) → all_bytes s ≡ true → table_refusal s ≡ 0 → table_bytes (table_of s) ≡ s
unfolding table_bytes table_of
bytes_back s h e =
    let a = accepted s e in
    let b = bytes s h in
    rw (length-kinds s a, length-chords s a, members-are s a, length-members s a, chords-are s a b)
    (rw (← take-header s a b) at (parts s (count_t s) (count_r s)))

pub tables-survive : TablesSurvive
tables-survive = record { back = bytes_back; there = table-there; part = chord-part }
