-- Which number a written table is refused with: the layout's own rules always hold of it,
-- so only its counts, its kinds, its chords' sizes and its members decide.
use mathlib.Core.Path.{◌≡◌, refl, ◌∙◌}
use mathlib.Core.Bool.{Bool, true, false, ◌&&◌, and-true}
use mathlib.Core.List.{List, [], ◌∷◌, ◌++◌}
use Prim.Native.Nat.{ℕ, ◌+◌, ◌<◌, ◌≤◌}
use native.Mathlib.Nat.{mod-add-div}
use native.Mathlib.Omega.{arith}
use borrow.Author.Tests.{eq-eqb, ne_eqb, le-leb, lt-leb, leb-true}
use lib.Dec.{leb, ltb}
use lib.ListN.{length, length-map}
use Rattle.std.specs.List.{All}
use Rattle.model.specs.Basics.{every, unless}
use Rattle.model.specs.Tables.{Chord, Table}
use Rattle.model.specs.Layout.{word, chord_ok, chords_ok, members_ok, kinds_ok, written_chords, written_members}
use Rattle.model.specs.Layout.{table_bytes, table_refusal, counts_ok, offsets_ok, count_t, count_r, count_m}
use Rattle.model.specs.Layout.{chords_start, members_start}
use Rattle.model.specs.Layout.{write_refusal, written}
use Rattle.model.proofs.Tests.{and, both, unless-none, refused-first}
use Rattle.model.proofs.Lists.{every-each, every-nth}
use Rattle.model.proofs.Written.{header, whole-written, kinds-written, chords-written, members-written}
use Rattle.model.proofs.Written.{sum-written, equality-small}
use Rattle.codec.specs.declared.Chord as DC
use Rattle.codec.specs.declared.Table as DT
use Rattle.codec.specs.Views.{table_in}
use Rattle.writer.specs.Writes.{counts_in, sized, members_written, stored}
use Rattle.writer.specs.Writes.{table_with, members_len, len_ok, channels_below, Counted}
use Rattle.writer.proofs.Chords.{length-kinds-in, length-chords-in, length-members, sized-each, members-below}

entries-sized : (rest : List ℕ) (next : ℕ) (cs : List Chord)
    → chords_ok (length cs) next (written_chords next cs ++ rest) ≡ every sized cs
unfolding chord_ok word sized
entries-sized rest next [] = refl
entries-sized rest next (c ∷ cs) =
    rw (
      eq-eqb _ _ (mod-add-div next 256),
      equality-small c.equal,
      and-true (leb (length c.channels) 8),
      entries-sized rest (next + length c.channels) cs,
    )

members-each : (T : ℕ) (cs : List Chord)
    → members_ok T (written_members cs) ≡ every (λ c. members_ok T c.channels) cs
unfolding members_ok
members-each T [] = refl
members-each T (c ∷ cs) = rw (every-each (λ m. ltb m T) c.channels (written_members cs), members-each T cs)

module _ (t : Table) where
  abbrev s : List ℕ
  s = table_bytes t

  counts-written : counts_ok s ≡ counts_in t
  unfolding counts_ok counts_in
  counts-written =
      let h = header t.kinds t.chords in
      rw (h.count-t, h.count-r, h.count-m)

  offsets-written : offsets_ok s ≡ true
  unfolding offsets_ok
  offsets-written =
      let h = header t.kinds t.chords in
      let w = whole-written t.kinds t.chords in
      and (eq-eqb (word 3 s) 12 (omega arith))
      (and (eq-eqb (word 4 s) (chords_start (count_t s)) (omega arith))
      (and (eq-eqb (word 5 s) (members_start (count_t s) (count_r s)) (omega arith))
      (eq-eqb (length s) (members_start (count_t s) (count_r s) + count_m s) (omega arith))))

  pub refusal-written : table_refusal s
      ≡ unless (counts_in t) 2
      (unless (kinds_ok t.kinds) 4 (unless (every sized t.chords) 5 (unless (members_written t) 7 0)))
  unfolding table_refusal members_written
  refusal-written =
      let h = header t.kinds t.chords in
      let w = whole-written t.kinds t.chords in
      rw (
        le-leb 12 (length s) (omega arith),
        counts-written,
        offsets-written,
        h.count-t,
        h.count-r,
        h.count-m,
        kinds-written t.kinds t.chords,
        chords-written t.kinds t.chords,
        members-written t.kinds t.chords,
        entries-sized (written_members t.chords) 0 t.chords,
        sum-written (written_members t.chords) 0 t.chords,
        eq-eqb (length (written_members t.chords)) _ refl,
        members-each (length t.kinds) t.chords,
      )

-- counts out of range, as the code tests them
pub counts-out : (t : DT.Table) → (leb 1 t.kinds_len && (leb t.kinds_len 16 && leb t.chords_len 32)) ≡ false
    → table_refusal (table_bytes (table_in t)) ≡ 2
unfolding counts_in
counts-out t e =
    let m = leb (length (written_members (table_in t).chords)) 256 in
    rw (
      refusal-written (table_in t),
      length-kinds-in t,
      length-chords-in t,
      and-more (leb 1 t.kinds_len) (leb t.kinds_len 16) (leb t.chords_len 32) m e,
    )
  where
    and-more : (a b c d : Bool) → (a && (b && c)) ≡ false → (a && (b && (c && d))) ≡ false
    and-more true true c d e = rw e
    and-more true false c d e = refl
    and-more false b c d e = refl

-- the refusals of kinds and chords whose counts are in range, as the code tests them
pub refusal_tested : (ks : List ℕ) (cs : List DC.Chord) → Counted ks cs
    → table_refusal (table_bytes (table_with ks cs))
    ≡ unless (leb (members_len cs) 256) 2
    (unless (every (λ k. leb k 1) ks) 4
    (unless (every len_ok cs) 5 (unless (every (channels_below (length ks)) cs) 7 0)))
unfolding counts_in kinds_ok members_written
refusal_tested ks cs h =
    rw (
      refusal-written (table_with ks cs),
      le-leb 1 (length ks) h.kinds_some,
      le-leb (length ks) 16 h.kinds_few,
      length-map,
      le-leb (length cs) 32 h.chords_few,
      length-members cs,
      sized-each cs,
      members-below (length ks) cs h.kinds_some,
    )

pub channels-few : (ks : List ℕ) (cs : List DC.Chord) → Counted ks cs
    → table_refusal (table_bytes (table_with ks cs)) ≡ 0 → All (λ (c : DC.Chord). c.len ≤ 8) cs
channels-few ks cs h e =
    let p = unless-none (leb (members_len cs) 256) 1 _ (rw (refusal_tested ks cs h) at e) in
    let q = unless-none (every (λ k. leb k 1) ks) 3 _ p.1 in
    let r = unless-none (every len_ok cs) 4 _ q.1 in
    λ k d l. leb-true _ 8 (both {t = leb 1 _} (every-nth len_ok cs d r.0 k l)).1

-- the number and the buffer of a write
module _ (v : Table) (out : List ℕ) where
  pub as-found : (n : ℕ) → n ≡ write_refusal v out → (n ≡ 0 → ⊥) → out ≡ written v out
  unfolding written
  as-found n e r = rw (ne_eqb (write_refusal v out) 0 (λ z. r (e ∙ z)))

  pub value-refused : (n : ℕ) → n ≡ table_refusal (table_bytes v) → (n ≡ 0 → ⊥) → n ≡ write_refusal v out
  unfolding write_refusal
  value-refused n e r = rw (← e) (refused-first n _ r)

  pub buffer-short : table_refusal (table_bytes v) ≡ 0 → length out < length (table_bytes v) → 31 ≡ write_refusal v out
  unfolding write_refusal
  buffer-short e h = rw (e, lt-leb (length (table_bytes v)) (length out) h)

  pub none_refused : table_refusal (table_bytes v) ≡ 0 → length (table_bytes v) ≤ length out → 0 ≡ write_refusal v out
  unfolding write_refusal
  none_refused e h = rw (e, le-leb (length (table_bytes v)) (length out) h)

  pub all-written : 0 ≡ write_refusal v out → stored (table_bytes v) out ≡ written v out
  unfolding written
  all-written e = rw (← e)
