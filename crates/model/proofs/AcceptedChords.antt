-- The table read from accepted bytes: its counts, and each chord's size, first index and channels by its place. The
-- laws are over any bytes from which n chords are read, then over the table.
use mathlib.Core.Path.{◌≡◌, refl, ap}
use mathlib.Core.Bool.{true}
use mathlib.Core.List.{List}
use Prim.Native.Nat.{◌≤◌, ℕ, ◌<◌, ◌*◌, suc, ◌+◌, zero}
use borrow.Author.Tests.{leb-true, eqb-true, ltb-true}
use lib.Dec.{eqb, leb, ltb}
use lib.ListN.{length, get_or, drop, take, length-take, length-drop}
use lib.Seq.{drop-drop, get_or-take, get_or-drop}
use native.Mathlib.Nat.{not-suc-le-zero, add-zero, le_of_suc-le-suc}
use native.Mathlib.Omega.{arith}
use Rattle.model.specs.Tables.{Table, size, channel_at, no_chord, chord_at}
use Rattle.model.specs.Layout.{word, chord_ok, chords_ok, members_sum, chords_from, table_of, count_t, count_r}
use Rattle.model.specs.Layout.{chord_bytes, member_bytes, count_m, members_ok, table_refusal}
use Rattle.model.proofs.Tests.{all-four, both}
use Rattle.model.proofs.Lists.{every-nth}
use Rattle.model.proofs.Parts.{drop-next}
use Rattle.model.proofs.Accepted.{Accepted, accepted}

pub record TableOk (t : Table) : Type 0 where
  pub kinds_some : 1 ≤ length t.kinds
  pub kinds_few : length t.kinds ≤ 16
  pub chords_few : length t.chords ≤ 32
  pub chord_some : (q : ℕ) → q < length t.chords → 1 ≤ size t q
  pub chord_few : (q : ℕ) → q < length t.chords → size t q ≤ 8
  pub channel-in : (q j : ℕ) → q < length t.chords → j < size t q → channel_at t q j < length t.kinds

-- what a chord's four bytes say, if the chord before it ended at `next`
pub record ChordSays (next : ℕ) (s : List ℕ) : Type 0 where
  pub first : word 0 s ≡ next
  pub some : 1 ≤ get_or s 2 0
  pub few : get_or s 2 0 ≤ 8
  pub one_of : get_or s 3 0 ≤ 2

pub chord-says : (next : ℕ) (s : List ℕ) → chord_ok next s ≡ true → ChordSays next s
unfolding chord_ok
chord-says next s e =
    let c = all-four (eqb (word 0 s) next) (leb 1 (get_or s 2 0)) (leb (get_or s 2 0) 8) (leb (get_or s 3 0) 2) e in
    search (leb-true, eqb-true)

-- chord q begins at the sum of the sizes before it
pub chords-say : (n next : ℕ) (s : List ℕ) (q : ℕ) → chords_ok n next s ≡ true → q < n
    → ChordSays (next + members_sum q s) (drop (4 * q) s)
chords-say zero next s q e h = absurd (not-suc-le-zero h)
chords-say (suc n) next s zero e h = rw add-zero (chord-says next s (both {t = chord_ok next s} e).0)
chords-say (suc n) next s (suc q) e h =
    let z : next + members_sum (suc q) s ≡ next + get_or s 2 0 + members_sum q (drop 4 s) = omega arith in
    rw (z, ← drop-next 4 q s)
    (chords-say n (next + get_or s 2 0) (drop 4 s) q (both {t = chord_ok next s} e).1 (le_of_suc-le-suc h))

pub sum-up-to : (n : ℕ) (s : List ℕ) (q : ℕ) → q < n
    → members_sum q s + get_or (drop (4 * q) s) 2 0 ≤ members_sum n s
sum-up-to zero s q h = absurd (not-suc-le-zero h)
sum-up-to (suc n) s zero h = omega arith
sum-up-to (suc n) s (suc q) h = rw (← drop-next 4 q s) (omega (arith, sum-up-to n (drop 4 s) q (le_of_suc-le-suc h)))

pub length_from : (n : ℕ) (s ms : List ℕ) → length (chords_from n s ms) ≡ n
length_from zero s ms = refl
length_from (suc n) s ms = ap suc (length_from n (drop 4 s) (drop (get_or s 2 0) ms))

pub channels-from : (n : ℕ) (s ms : List ℕ) (q : ℕ) → q < n
    → (get_or (chords_from n s ms) q no_chord).channels ≡ take (get_or (drop (4 * q) s) 2 0) (drop (members_sum q s) ms)
channels-from zero s ms q h = absurd (not-suc-le-zero h)
channels-from (suc n) s ms zero h = refl
channels-from (suc n) s ms (suc q) h =
    rw (← drop-next 4 q s, ← drop-drop (members_sum q (drop 4 s)) (get_or s 2 0) ms)
    (channels-from n (drop 4 s) (drop (get_or s 2 0) ms) q (le_of_suc-le-suc h))

module _ (s : List ℕ) (a : Accepted s) where
  pub length-kinds : length (table_of s).kinds ≡ count_t s
  unfolding table_of
  length-kinds = simp (length-take, length-drop) (omega arith)

  pub length-chords : length (table_of s).chords ≡ count_r s
  unfolding table_of
  length-chords = length_from (count_r s) (chord_bytes s) (member_bytes s)

  pub length-members : length (member_bytes s) ≡ count_m s
  length-members = rw length-drop (omega arith)

  module _ (q : ℕ) (h : q < count_r s) where
    pub says_at : ChordSays (members_sum q (chord_bytes s)) (drop (4 * q) (chord_bytes s))
    says_at =
        let z : 0 + members_sum q (chord_bytes s) ≡ members_sum q (chord_bytes s) = omega arith in
        rw z at (chords-say (count_r s) 0 (chord_bytes s) q a.chords-ok h)

    pub channels-of : (chord_at (table_of s) q).channels
        ≡ take (get_or (drop (4 * q) (chord_bytes s)) 2 0) (drop (members_sum q (chord_bytes s)) (member_bytes s))
    unfolding table_of
    channels-of = channels-from (count_r s) (chord_bytes s) (member_bytes s) q h

    pub size_of : size (table_of s) q ≡ get_or (drop (4 * q) (chord_bytes s)) 2 0
    size_of =
        rw channels-of
        (simp (length-take, length-drop) (omega (arith, length-members, sum-up-to (count_r s) (chord_bytes s) q h)))

    pub channel-below : (j : ℕ) → j < size (table_of s) q → channel_at (table_of s) q j < count_t s
    unfolding members_ok
    channel-below j l =
        let u = sum-up-to (count_r s) (chord_bytes s) q h in
        let i : j < get_or (drop (4 * q) (chord_bytes s)) 2 0 = omega (arith, size_of) in
        let k : members_sum q (chord_bytes s) + j < length (member_bytes s) = omega (arith, length-members) in
        rw (channels-of, get_or-take, get_or-drop)
        (ltb-true _ _ (every-nth (λ m. ltb m (count_t s)) (member_bytes s) 0 a.members-ok _ k))

pub table-ok : (s : List ℕ) → table_refusal s ≡ 0 → TableOk (table_of s)
table-ok s e =
    let a = accepted s e in
    let k = length-kinds s a in
    let c = length-chords s a in
    record {
      kinds_some = omega arith;
      kinds_few = omega arith;
      chords_few = omega arith;
      chord_some = λ q h. rw (size_of s a q (omega arith)) (says_at s a q (omega arith)).some;
      chord_few = λ q h. rw (size_of s a q (omega arith)) (says_at s a q (omega arith)).few;
      channel-in = λ q j h l. rw k (channel-below s a q (omega arith) j l);
    }
