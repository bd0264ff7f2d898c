-- The merged value, seen as a table, is the merged table.
use mathlib.Core.Path.{◌≡◌, refl, ap}
use mathlib.Core.List.{List, [], ◌∷◌, ◌++◌, map, map_congr_left}
use Prim.Native.Nat.{ℕ, suc, ◌+◌, ◌≤◌}
use native.Mathlib.Omega.{arith}
use lib.ListN.{length, get_or, take, drop, replicate, length-map, length-append}
use lib.Seq.{sets, sets-eq, length-take-le}
use Rattle.model.specs.Tables.{Chord, no_chord}
use Rattle.model.specs.Basics.{flag}
use Rattle.model.specs.Layout.{table_refusal, table_of}
use Rattle.model.proofs.Parts.{map-sets, stored-reads}
use Rattle.model.proofs.AcceptedChords.{table-ok}
use Rattle.codec.specs.declared.Table as DT
use Rattle.codec.specs.Views.{firsts, chord_in, table_in}
use Rattle.codec.proofs.Views.{firsts-front, chords-seen, firsts-take}
use Rattle.writer.proofs.Chords.{length-kinds-in}
use Rattle.merging.specs.Merges.{is_new, targets, new_kinds, merged_chord, merged_table}
use Rattle.merging.proofs.WriteLaws.{merged-few}
use Rattle.merger.specs.Asks.{count_new, chords_for}
use Rattle.merger.proofs.Walks.{new-count}

pub length-targets : (n : ℕ) (ms : List ℕ) → length (targets n ms) ≡ length ms
length-targets n [] = refl
length-targets n (m ∷ ms) = ap suc (length-targets (n + flag (is_new m)) ms)

merged-stored : (ts : List ℕ) (cs : List Chord) → length ts ≤ 16
    → map (merged_chord (sets (replicate 16 0) 0 ts)) cs ≡ map (merged_chord ts) cs
merged-stored ts cs h =
    map_congr_left {f = merged_chord (sets (replicate 16 0) 0 ts)} {g = merged_chord ts} {l = cs} (λ c m.
    rw (map_congr_left {f = λ x. get_or (sets (replicate 16 0) 0 ts) x 0} {g = λ x. get_or ts x 0} {l = c.channels}
    (λ x k. stored-reads ts 16 x 0 h)))

-- the front of an array, with a list stored after it
firsts-sets : {A : Type 0} (d : A) (n : ℕ) (ys xs : List A) → n + length xs ≤ length ys
    → firsts d (n + length xs) (sets ys n xs) ≡ firsts d n ys ++ xs
firsts-sets d n ys xs h =
    let f = firsts-take d n ys (omega arith) in
    let l = length-take-le n ys (omega arith) in
    let z : n + length xs ≡ length (take n ys ++ xs) = omega (arith, length-append (take n ys) xs) in
    rw (sets-eq xs ys n h, f, z) (firsts-front d (take n ys ++ xs) (drop (length (take n ys ++ xs)) ys))

module _ (f : DT.Table) (s ms : List ℕ) (e : table_refusal s ≡ 0) (w : length ms ≡ length (table_of s).kinds) where
  abbrev n : ℕ
  n = f.kinds_len

  abbrev at : ℕ
  at = f.chords_len

  abbrev stored : List ℕ
  stored = sets (replicate 16 0) 0 (targets n ms)

  kinds-seen : n + count_new ms ≤ length f.kinds
      → firsts 0 (n + count_new ms) (sets f.kinds n (new_kinds ms (table_of s).kinds))
      ≡ firsts 0 n f.kinds ++ new_kinds ms (table_of s).kinds
  kinds-seen h =
      let c = new-count ms (table_of s).kinds w in
      rw (← c) (firsts-sets 0 n f.kinds (new_kinds ms (table_of s).kinds) (omega arith))

  chords-now : at + length (table_of s).chords ≤ length f.chords
      → firsts no_chord (at + length (table_of s).chords) (map chord_in (sets f.chords at (chords_for stored s)))
      ≡ firsts no_chord at (map chord_in f.chords) ++ map (merged_chord (targets n ms)) (table_of s).chords
  chords-now h =
      let cs = (table_of s).chords in
      let ds = map (merged_chord (targets n ms)) cs in
      let p = merged-stored (targets n ms) cs
      (omega (arith, length-targets n ms, w, (table-ok s e).kinds_few)) in
      let v = chords-seen ds (merged-few (targets n ms) cs (table-ok s e).chord_few) in
      let l = length-map cs (merged_chord (targets n ms)) in
      let m = length-map f.chords chord_in in
      rw (map-sets chord_in f.chords at (chords_for stored s), p, v, ← l)
      (firsts-sets no_chord at (map chord_in f.chords) ds (omega arith))

  pub value-merged : n + count_new ms ≤ length f.kinds → at + length (table_of s).chords ≤ length f.chords
      → table_in (record {
        kinds = sets f.kinds n (new_kinds ms (table_of s).kinds);
        kinds_len = n + count_new ms;
        chords = sets f.chords at (chords_for stored s);
        chords_len = at + length (table_of s).chords;
      }) ≡ merged_table (table_in f) (table_of s) ms
  unfolding table_in merged_table
  value-merged h k = rw (kinds-seen h, chords-now k, length-kinds-in f)
