-- The value that stands for a table, seen as a table, is the table.
use mathlib.Core.Path.{◌≡◌, refl, ap}
use mathlib.Core.List.{List, [], ◌∷◌, ◌++◌, map}
use Prim.Native.Nat.{ℕ, zero, suc, ◌<◌, ◌≤◌}
use native.Mathlib.Omega.{arith}
use lib.ListN.{length, get_or, replicate, length-map, length-replicate, take}
use lib.Seq.{sets, sets-eq}
use Rattle.model.specs.Tables.{Chord, Table, no_chord}
use Rattle.model.specs.Layout.{table_refusal, table_of}
use Rattle.model.proofs.AcceptedChords.{TableOk, table-ok}
use Rattle.model.proofs.Parts.{map-sets}
use Rattle.table.proofs.Equalities.{equality-in}
use Rattle.codec.specs.Views.{firsts, chord_in, table_in, chord_for, table_for, empty_chord, table_read}

pub firsts-front : {A : Type 0} (d : A) (xs ys : List A) → firsts d (length xs) (xs ++ ys) ≡ xs
firsts-front d [] ys = refl
firsts-front d (x ∷ xs) ys = ap (λ l. x ∷ l) (firsts-front d xs ys)

firsts-stored : {A : Type 0} (d : A) (xs ys : List A) → length xs ≤ length ys → firsts d (length xs) (sets ys 0 xs) ≡ xs
firsts-stored d xs ys h = rw (sets-eq xs ys 0 (omega arith), firsts-front)

chord-seen : (c : Chord) → length c.channels ≤ 8 → chord_in (chord_for c) ≡ c
unfolding chord_in chord_for
chord-seen c h = rw (firsts-stored 0 c.channels (replicate 8 0) (rw (length-replicate) h), equality-in c.equal)

pub firsts-take : {A : Type 0} (d : A) (n : ℕ) (xs : List A) → n ≤ length xs → firsts d n xs ≡ take n xs
firsts-take d zero xs h = refl
firsts-take d (suc n) [] h = absurd (omega arith)
firsts-take d (suc n) (x ∷ xs) h = ap (λ l. x ∷ l) (firsts-take d n xs (omega arith))

pub chords-seen : (cs : List Chord) → ((q : ℕ) → q < length cs → length (get_or cs q no_chord).channels ≤ 8)
    → map chord_in (map chord_for cs) ≡ cs
chords-seen [] h = refl
chords-seen (c ∷ cs) h = rw (chord-seen c (h 0 (omega arith)), chords-seen cs (λ q l. h (suc q) (omega arith)))

pub table-seen : (t : Table) → TableOk t → table_in (table_for t) ≡ t
unfolding table_in table_for
table-seen t o =
    let cs = t.chords in
    let m = chords-seen cs o.chord_few in
    let k = firsts-stored 0 t.kinds (replicate 16 0) (rw (length-replicate) o.kinds_few) in
    let ys = map chord_in (replicate 32 empty_chord) in
    let l : length cs ≤ length ys = rw (length-map, length-replicate) o.chords_few in
    rw (k, map-sets chord_in, m, firsts-stored no_chord cs ys l)

-- what is read from accepted bytes is their table
pub read-seen : (s : List ℕ) → table_refusal s ≡ 0 → table_in (table_read s).table ≡ table_of s
unfolding table_read
read-seen s e = rw e (table-seen (table_of s) (table-ok s e))
