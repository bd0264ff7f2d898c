-- A value's lists as the model's: their lengths, and what its chords are, one by one.
use mathlib.Core.Path.{◌≡◌, refl, ap}
use mathlib.Core.List.{List, [], ◌∷◌, map}
use Prim.Native.Nat.{ℕ, zero, suc, ◌<◌, ◌≤◌}
use borrow.Author.Tests.{lt-ltb}
use lib.Dec.{ltb}
use lib.ListN.{length, take, length-map}
use lib.Seq.{take-nil}
use Rattle.std.proofs.lemmas.List.{take-map, length-append}
use Rattle.std.proofs.lemmas.List.Folds.{list_all-map}
use Rattle.std.proofs.lemmas.List.Sums.{sum_by-cons}
use Rattle.model.specs.Basics.{every}
use Rattle.model.specs.Tables.{no_chord}
use Rattle.model.specs.Layout.{members_ok, written_members}
use Rattle.table.specs.declared.Equality.TheVariants as E
use Rattle.codec.specs.declared.Chord as DC
use Rattle.codec.specs.declared.Table as DT
use Rattle.codec.specs.Views.{firsts, chord_in, table_in}
use Rattle.codec.proofs.Views.{firsts-take}
use Rattle.writer.specs.Writes.{sized, table_with, members_len, len_ok, channels_below}

-- the first n of an array
length-firsts : {A : Type 0} (d : A) (n : ℕ) (xs : List A) → length (firsts d n xs) ≡ n
length-firsts d zero xs = refl
length-firsts d (suc n) [] = ap suc (length-firsts d n [])
length-firsts d (suc n) (x ∷ xs) = ap suc (length-firsts d n xs)

-- the fronts of a value's arrays hold its kinds and chords
pub fronts : (t : DT.Table) → t.kinds_len ≤ length t.kinds → t.chords_len ≤ length t.chords
    → table_with (take t.kinds_len t.kinds) (take t.chords_len t.chords) ≡ table_in t
unfolding table_in
fronts t h k =
    let g : t.chords_len ≤ length (map chord_in t.chords) = simp length-map k in
    rw (
      firsts-take 0 t.kinds_len t.kinds h,
      firsts-take no_chord t.chords_len (map chord_in t.chords) g,
      take-map,
    )

pub channels-part : (c : DC.Chord) → c.len ≤ length c.channels → take c.len c.channels ≡ (chord_in c).channels
unfolding chord_in
channels-part c h = rw (firsts-take 0 c.len c.channels h)

pub length-kinds-in : (t : DT.Table) → length (table_in t).kinds ≡ t.kinds_len
unfolding table_in
length-kinds-in t = length-firsts 0 t.kinds_len t.kinds

pub length-chords-in : (t : DT.Table) → length (table_in t).chords ≡ t.chords_len
unfolding table_in
length-chords-in t = length-firsts no_chord t.chords_len (map chord_in t.chords)

pub length-channels-in : (c : DC.Chord) → length (chord_in c).channels ≡ c.len
unfolding chord_in
length-channels-in c = length-firsts 0 c.len c.channels

-- the chord that an element read past the array's end would be
abbrev pub zero_chord : DC.Chord
zero_chord = record { channels = []; len = 0; equal = E.Any }

pub length-members : (cs : List DC.Chord) → length (written_members (map chord_in cs)) ≡ members_len cs
length-members [] = refl
length-members (c ∷ cs) =
    rw (length-append, length-channels-in, length-members cs, sum_by-cons (λ (c : DC.Chord). c.len))

-- the tests of each chord, as the code makes them
pub sized-each : (cs : List DC.Chord) → every sized (map chord_in cs) ≡ every len_ok cs
unfolding sized
sized-each cs = simp (list_all-map, length-channels-in)

below-front : (n k : ℕ) (xs : List ℕ) → 0 < n
    → every (λ x. ltb x n) (firsts 0 k xs) ≡ every (λ x. ltb x n) (take k xs)
below-front n zero xs h = refl
below-front n (suc k) [] h = rw (lt-ltb 0 n h, below-front n k [] h, take-nil)
below-front n (suc k) (x ∷ xs) h = rw (below-front n k xs h)

pub members-below : (n : ℕ) (cs : List DC.Chord) → 0 < n
    → every (λ c. members_ok n c.channels) (map chord_in cs) ≡ every (channels_below n) cs
unfolding members_ok chord_in
members-below n [] h = refl
members-below n (c ∷ cs) h = rw (below-front n c.len c.channels h, members-below n cs h)
