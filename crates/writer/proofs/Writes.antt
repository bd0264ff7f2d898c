-- Laws of a table's bytes stored chord by chord: the entries and the members left, stored from here on,
-- give what storing all of them gave.
use mathlib.Core.Path.{◌≡◌, refl, sym, ◌∙◌}
use mathlib.Core.List.{List, ◌++◌, map}
use Prim.Native.Nat.{ℕ, suc, ◌+◌, ◌*◌, ◌<◌, ◌≤◌}
use native.Mathlib.Omega.{arith}
use lib.ListN.{length, get_or, drop, length-map}
use lib.Seq.{drop-cons, sets, sets-eq}
use native.Mathlib.Numerals.{add-one}
use Rattle.model.specs.Tables.{Chord}
use Rattle.model.specs.Layout.{table_bytes, written_header, written_chords, written_members}
use Rattle.model.proofs.Written.{whole-written, length-entries}
use Rattle.model.proofs.Parts.{sets-append}
use Rattle.codec.specs.declared.Chord as DC
use Rattle.table.specs.Equalities.{equality_in}
use Rattle.codec.specs.Views.{chord_in}
use Rattle.writer.specs.Writes.{entry_bytes, stored, table_with, members_len}
use Rattle.writer.proofs.Chords.{length-channels-in, length-members}

equal-in : (c : DC.Chord) → (chord_in c).equal ≡ equality_in c.equal
unfolding chord_in
equal-in c = refl

-- the chords left from i on
module _ (cs : List DC.Chord) (i : ℕ) (z : DC.Chord) (h : i < length cs) where
  abbrev x : DC.Chord
  x = get_or cs i z

  abbrev rest : List Chord
  rest = map chord_in (drop (i + 1) cs)

  module _ (out : List ℕ) (at : ℕ) where
    pub entries_next : (next : ℕ) → sets out at (written_chords next (map chord_in (drop i cs)))
        ≡ sets (sets out at (entry_bytes next x.len (equality_in x.equal))) (at + 4)
        (written_chords (next + x.len) rest)
    entries_next next =
        let e : at + 4 ≡ suc (suc (suc (suc at))) = omega arith in
        rw (drop-cons cs i z h, length-channels-in x, equal-in x, e, add-one)

    pub members-next : sets out at (written_members (map chord_in (drop i cs)))
        ≡ sets (sets out at (chord_in x).channels) (at + x.len) (written_members rest)
    members-next = rw (drop-cons cs i z h, sets-append, length-channels-in x, add-one)

-- the four sections stored in turn are the table's bytes, and what is past them is kept
pub length-written : (ks : List ℕ) (cs : List DC.Chord)
    → length (table_bytes (table_with ks cs)) ≡ 12 + length ks + 4 * length cs + members_len cs
length-written ks cs =
    let r = length-map cs chord_in in
    omega (arith, whole-written ks (map chord_in cs), length-members cs)

in-turn : (out h k e m : List ℕ) (a b c : ℕ) → length h ≡ a → a + length k ≡ b → b + length e ≡ c →
    let w = h ++ (k ++ (e ++ m)) in
    length w ≤ length out → sets (sets (sets (sets out 0 h) a k) b e) c m ≡ stored w out
in-turn out h k e m a b c p q r l =
    let w = h ++ (k ++ (e ++ m)) in
    let y : 0 + length h ≡ a = omega arith in
    let z : 0 + length w ≡ length w = omega arith in
    let s : sets out 0 w ≡ stored w out = rw z at (sets-eq w out 0 (omega arith)) in
    let f = sets-append out 0 h (k ++ (e ++ m)) in
    let g = sets-append (sets out 0 h) a k (e ++ m) in
    let n = sets-append (sets (sets out 0 h) a k) b e m in
    sym (rw y at f ∙ (rw q at g ∙ rw r at n)) ∙ s

pub table-stored : (ks : List ℕ) (cs : List DC.Chord) (out : List ℕ)
    → 12 + length ks + 4 * length cs + members_len cs ≤ length out
    → sets (sets (sets (sets out 0 (written_header (length ks) (length cs) (members_len cs))) 12 ks)
    (12 + length ks) (written_chords 0 (map chord_in cs))) (12 + length ks + 4 * length cs)
    (written_members (map chord_in cs))
    ≡ stored (table_bytes (table_with ks cs)) out
unfolding table_bytes
table-stored ks cs out h =
    let r = length-map cs chord_in in
    let m = length-members cs in
    let e = length-entries 0 (map chord_in cs) in
    let w = length-written ks cs in
    rw (← r, ← m)
    (in-turn out (written_header (length ks) (length (map chord_in cs)) (length (written_members (map chord_in cs)))) ks
    (written_chords 0 (map chord_in cs)) (written_members (map chord_in cs)) 12 _ _ refl refl
    (omega arith) (omega arith))
