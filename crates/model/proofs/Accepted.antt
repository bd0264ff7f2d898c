-- Table bytes without a refusal: the reader's tests as plain facts, and the facts as a table that is not refused.
use mathlib.Core.Path.{◌≡◌}
use mathlib.Core.Bool.{true}
use mathlib.Core.List.{List}
use Prim.Native.Nat.{ℕ, ◌≤◌, ◌+◌}
use borrow.Author.Tests.{leb-true, eqb-true, le-leb, eq-eqb}
use lib.Dec.{leb, eqb}
use lib.ListN.{length}
use Rattle.model.specs.Layout.{count_t, count_r, count_m, word, chords_start, members_start, kinds_ok, kind_bytes}
use Rattle.model.specs.Layout.{chords_ok, chord_bytes, members_sum, members_ok, member_bytes, table_refusal, counts_ok}
use Rattle.model.specs.Layout.{offsets_ok}
use Rattle.model.proofs.Tests.{unless-none, all-four}

pub record Accepted (s : List ℕ) : Type 0 where
  pub long : 12 ≤ length s
  pub kinds_some : 1 ≤ count_t s
  pub kinds_few : count_t s ≤ 16
  pub chords_few : count_r s ≤ 32
  pub members_few : count_m s ≤ 256
  pub kinds_from : word 3 s ≡ 12
  pub chords-from : word 4 s ≡ chords_start (count_t s)
  pub members_from : word 5 s ≡ members_start (count_t s) (count_r s)
  pub whole : length s ≡ members_start (count_t s) (count_r s) + count_m s
  pub kinds-ok : kinds_ok (kind_bytes s) ≡ true
  pub chords-ok : chords_ok (count_r s) 0 (chord_bytes s) ≡ true
  pub sum_ok : members_sum (count_r s) (chord_bytes s) ≡ count_m s
  pub members-ok : members_ok (count_t s) (member_bytes s) ≡ true

pub accepted : (s : List ℕ) → table_refusal s ≡ 0 → Accepted s
unfolding table_refusal counts_ok offsets_ok
accepted s e =
    let p1 = unless-none (leb 12 (length s)) 0 _ e in
    let p2 = unless-none (counts_ok s) 1 _ p1.1 in
    let p3 = unless-none (offsets_ok s) 2 _ p2.1 in
    let p4 = unless-none (kinds_ok (kind_bytes s)) 3 _ p3.1 in
    let p5 = unless-none (chords_ok (count_r s) 0 (chord_bytes s)) 4 _ p4.1 in
    let p6 = unless-none (eqb (members_sum (count_r s) (chord_bytes s)) (count_m s)) 5 _ p5.1 in
    let p7 = unless-none (members_ok (count_t s) (member_bytes s)) 6 _ p6.1 in
    let c = all-four (leb 1 (count_t s)) (leb (count_t s) 16) (leb (count_r s) 32) (leb (count_m s) 256) p2.0 in
    let o = all-four (eqb (word 3 s) 12) (eqb (word 4 s) _) (eqb (word 5 s) _) (eqb (length s) _) p3.0 in
    search (leb-true, eqb-true)

pub accepts : (s : List ℕ) → Accepted s → table_refusal s ≡ 0
unfolding table_refusal counts_ok offsets_ok
accepts s a = search (le-leb, eq-eqb, a.kinds-ok, a.chords-ok, a.members-ok)
