-- Bytes written for a table: read, they are the table again, and they are accepted if the table keeps the layout's
-- rules.
use mathlib.Core.Path.{◌≡◌, refl, sym}
use mathlib.Core.Bool.{true}
use mathlib.Core.List.{List, [], ◌∷◌, ◌++◌}
use Prim.Native.Nat.{ℕ, zero, suc, ◌*◌, ◌+◌, ◌≤◌}
use borrow.Author.Tests.{eq-eqb, leb-true}
use lib.Dec.{T, leb, ltb}
use lib.ListN.{length, length-append, take, drop}
use lib.Seq.{take-append_seam, drop-append_seam, drop-drop}
use native.Mathlib.Nat.{mod-add-div}
use native.Mathlib.Omega.{arith}
use Rattle.model.specs.Basics.{every}
use Rattle.model.specs.Tables.{Equality, any, same_property, same_unit, Chord, Table}
use Rattle.model.specs.Layout.{count_t, count_r, count_m, word, chords_start, members_start, chord_keeps, members_ok}
use Rattle.model.specs.Layout.{equality_of, equality_byte, written_chords, members_sum, written_members, chords_from}
use Rattle.model.specs.Layout.{chords_ok, chord_ok, table_bytes, keeps_layout, kinds_ok, table_of, table_refusal}
use Rattle.model.proofs.Tests.{both, all-four}
use Rattle.model.proofs.Lists.{every_append}
use Rattle.model.proofs.Accepted.{Accepted, accepts}

-- the six words of a header
pub record Header (T R M : ℕ) (s : List ℕ) : Type 0 where
  pub count-t : count_t s ≡ T
  pub count-r : count_r s ≡ R
  pub count-m : count_m s ≡ M
  pub kinds_from : word 3 s ≡ 12
  pub chords-from : word 4 s ≡ chords_start T
  pub members_from : word 5 s ≡ members_start T R

chord-kept : (T : ℕ) (c : Chord) → chord_keeps T c ≡ true
    → (leb 1 (length c.channels) ≡ true) × (leb (length c.channels) 8 ≡ true) × (members_ok T c.channels ≡ true)
unfolding chord_keeps
chord-kept T c e =
    let p = both {t = leb 1 (length c.channels)} e in
    let q = both {t = leb (length c.channels) 8} p.1 in
    (p.0, q.0, q.1)

-- what a chord wants, as a byte
pub equality-small : (e : Equality) → leb (equality_byte e) 2 ≡ true
equality-small any = refl
equality-small same_property = refl
equality-small same_unit = refl

pub equality-read : (e : Equality) → equality_of (equality_byte e) ≡ e
equality-read any = refl
equality-read same_property = refl
equality-read same_unit = refl

pub equality-back : (k : ℕ) → k ≤ 2 → equality_byte (equality_of k) ≡ k
equality-back zero h = refl
equality-back (suc zero) h = refl
equality-back (suc (suc zero)) h = refl
equality-back (suc (suc (suc k))) h = absurd (omega arith)

pub length-entries : (next : ℕ) (cs : List Chord) → length (written_chords next cs) ≡ 4 * length cs
length-entries next [] = refl
length-entries next (c ∷ cs) = omega (arith, length-entries (next + length c.channels) cs)

module _ (rest : List ℕ) where
  pub sum-written : (next : ℕ) (cs : List Chord)
      → members_sum (length cs) (written_chords next cs ++ rest) ≡ length (written_members cs)
  sum-written next [] = refl
  sum-written next (c ∷ cs) =
      rw (length-append c.channels (written_members cs), sum-written (next + length c.channels) cs)

  read-written : (next : ℕ) (cs : List Chord)
      → chords_from (length cs) (written_chords next cs ++ rest) (written_members cs) ≡ cs
  read-written next [] = refl
  read-written next (c ∷ cs) =
      rw (take-append_seam, drop-append_seam, equality-read, read-written (next + length c.channels) cs)

  ok-written : (T next : ℕ) (cs : List Chord) → every (chord_keeps T) cs ≡ true
      → chords_ok (length cs) next (written_chords next cs ++ rest) ≡ true
  unfolding chord_ok word
  ok-written T next [] e = refl
  ok-written T next (c ∷ cs) e =
      let p = both {t = chord_keeps T c} e in
      let k = chord-kept T c p.0 in
      rw (eq-eqb _ _ (mod-add-div next 256), k.0, k.1, equality-small c.equal)
      (ok-written T (next + length c.channels) cs p.1)

members-keep : (T : ℕ) (cs : List Chord) → every (chord_keeps T) cs ≡ true → members_ok T (written_members cs) ≡ true
unfolding members_ok
members-keep T [] e = refl
members-keep T (c ∷ cs) e =
    let p = both {t = chord_keeps T c} e in
    let k = chord-kept T c p.0 in
    every_append (λ m. ltb m T) c.channels (written_members cs) k.2 (members-keep T cs p.1)

module _ (ks : List ℕ) (cs : List Chord) where
  abbrev pub t : Table
  t = record { kinds = ks; chords = cs }

  abbrev pub ms : List ℕ
  ms = written_members cs

  pub header : Header (length ks) (length cs) (length ms) (table_bytes t)
  unfolding word table_bytes
  header = omega arith

  after-header : (n : ℕ) → drop (12 + n) (table_bytes t) ≡ drop n (ks ++ (written_chords 0 cs ++ ms))
  unfolding table_bytes
  after-header n = sym (drop-drop n 12 (table_bytes t))

  pub kinds-written : take (length ks) (drop 12 (table_bytes t)) ≡ ks
  kinds-written = rw (after-header 0, take-append_seam)

  pub chords-written : drop (chords_start (length ks)) (table_bytes t) ≡ written_chords 0 cs ++ ms
  chords-written = rw (after-header, drop-append_seam)

  pub members-written : drop (members_start (length ks) (length cs)) (table_bytes t) ≡ ms
  members-written =
      let e = length-entries 0 cs in
      rw (after-header, ← drop-drop (4 * length cs) (length ks) _, drop-append_seam, ← e, drop-append_seam)

  pub whole-written : length (table_bytes t) ≡ 12 + (length ks + (4 * length cs + length ms))
  unfolding table_bytes
  whole-written = simp (length-append, length-entries) (omega arith)

  accepted-written : keeps_layout t ≡ true → Accepted (table_bytes t)
  unfolding keeps_layout
  accepted-written e =
      let k = all-four (leb 1 (length ks)) (leb (length ks) 16) (leb (length cs) 32) _ e in
      let l = both {t = leb (length ms) 256} k.3 in
      let o = both {t = kinds_ok ks} l.1 in
      let c = ok-written ms (length ks) 0 cs o.1 in
      let m = members-keep (length ks) cs o.1 in
      let n = sum-written ms 0 cs in
      let w = whole-written in
      let h = header in
      search (leb-true, h.count-t, h.count-r, h.count-m, kinds-written, chords-written, members-written, arith)

  pub reads-written : table_of (table_bytes t) ≡ t
  unfolding table_of
  reads-written =
      rw (header.count-t, header.count-r, kinds-written, chords-written, members-written, read-written)

pub table-there : (t : Table) → keeps_layout t ≡ true → (table_refusal (table_bytes t) ≡ 0) × (table_of (table_bytes t) ≡ t)
table-there t e =
    let a = accepted-written t.kinds t.chords e in
    (accepts (table_bytes t) a, reads-written t.kinds t.chords)
