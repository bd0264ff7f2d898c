-- The merged table keeps the layout's rules, so its bytes are accepted and read as it.
use mathlib.Core.Path.{◌≡◌, refl, subst⁻¹}
use mathlib.Core.Bool.{Bool, true, false, ◌||◌}
use mathlib.Core.List.{List, [], ◌∷◌, map}
use Prim.Native.Nat.{ℕ, zero, suc, ◌<◌, ◌≤◌, ◌+◌}
use borrow.Author.Tests.{ltb-true, lt-ltb, le-leb, eqb-true}
use lib.Dec.{ltb, leb, eqb}
use lib.ListN.{length, get_or, length-append, length-map}
use native.Mathlib.Omega.{arith}
use native.Mathlib.Nat.{not-suc-le-zero}
use Rattle.model.specs.Basics.{every, pick, flag}
use Rattle.model.specs.Tables.{Chord, Table, no_chord, chord_at}
use Rattle.model.specs.Layout.{table_of, table_refusal, keeps_layout, kinds_ok, chord_keeps, members_ok}
use Rattle.model.proofs.Tests.{both, and, all-four, unless-none, first-none}
use Rattle.model.proofs.Lists.{nth-every, every_append, nth-map}
use Rattle.model.proofs.Accepted.{accepted}
use Rattle.model.proofs.AcceptedChords.{TableOk, table-ok}
use Rattle.model.proofs.Survive.{tables-survive}
use Rattle.merging.specs.Merges.{is_new, targets, new_kinds, merged_chord, merged_chords, merged_table, joined_once}
use Rattle.merging.specs.Merges.{kinds_agree, map_ok, counts_fit, merged_of, merged_bytes, merge_refusal}

-- new channels
new-passes : (f : ℕ → Bool) (ms us : List ℕ) → every f us ≡ true → every f (new_kinds ms us) ≡ true
new-passes f [] us e = refl
new-passes f (m ∷ ms) [] e = refl
new-passes f (m ∷ ms) (u ∷ us) e =
    let p = both {t = f u} e in go (is_new m) p.0 (new-passes f ms us p.1)
  where
    go : (x : Bool) → f u ≡ true → every f (new_kinds ms us) ≡ true
        → every f (pick x (u ∷ new_kinds ms us) (new_kinds ms us)) ≡ true
    go true p ih = and p ih
    go false p ih = ih

-- what a channel of the second becomes is a channel of the merged table, where the first's are below n
pub target-in : (ms us : List ℕ) (first n x : ℕ) → length ms ≡ length us
    → every (λ m. is_new m || ltb m first) ms ≡ true → first ≤ n → x < length ms
    → get_or (targets n ms) x 0 < n + length (new_kinds ms us)
target-in [] us first n x w e l h = absurd (not-suc-le-zero h)
target-in (m ∷ ms) [] first n x w e l h = absurd (omega arith)
target-in (m ∷ ms) (u ∷ us) first n zero w e l h =
    go (is_new m) (both {t = is_new m || ltb m first} e).0
  where
    go : (v : Bool) → (v || ltb m first) ≡ true
        → pick v n m < n + length (pick v (u ∷ new_kinds ms us) (new_kinds ms us))
    go true p = omega arith
    go false p = omega (arith, ltb-true m first p)
target-in (m ∷ ms) (u ∷ us) first n (suc x) w e l h =
    go (is_new m)
    (λ v. target-in ms us first (n + flag v) x (omega arith) (both {t = is_new m || ltb m first} e).1 (omega arith)
    (omega arith))
  where
    go : (v : Bool)
        → ((v : Bool) → get_or (targets (n + flag v) ms) x 0 < n + flag v + length (new_kinds ms us))
        → get_or (targets (n + flag v) ms) x 0 < n + length (pick v (u ∷ new_kinds ms us) (new_kinds ms us))
    go true ih = omega (arith, ih true)
    go false ih = omega (arith, ih false)

keeps : (n : ℕ) (c : Chord) → 1 ≤ length c.channels → length c.channels ≤ 8
    → ((j : ℕ) → j < length c.channels → get_or c.channels j 0 < n) → chord_keeps n c ≡ true
unfolding chord_keeps members_ok
keeps n c s f i =
    and (le-leb 1 (length c.channels) s)
    (and (le-leb (length c.channels) 8 f) (nth-every (λ m. ltb m n) c.channels 0 (λ j l. lt-ltb _ _ (i j l))))

-- a map that may join has a byte for each channel of the second, and names channels of the first
pub map-says : (t u : Table) (ms : List ℕ) → map_ok t u ms ≡ true
    → (length ms ≡ length u.kinds) × (every (λ m. is_new m || ltb m (length t.kinds)) ms ≡ true)
unfolding map_ok
map-says t u ms m =
    let a = all-four (eqb (length ms) (length u.kinds)) (every (λ m. is_new m || ltb m (length t.kinds)) ms)
    (joined_once ms) (kinds_agree t.kinds ms u.kinds) m in
    (eqb-true _ _ a.0, a.1)

module _ (t u : Table) (ms : List ℕ) (tok : TableOk t) (uok : TableOk u) (m : map_ok t u ms ≡ true) where
  abbrev n : ℕ
  n = length t.kinds + length (new_kinds ms u.kinds)

  first-keep : every (chord_keeps n) t.chords ≡ true
  first-keep =
      nth-every (chord_keeps n) t.chords no_chord (λ q l.
      keeps n (chord_at t q) (tok.chord_some q l) (tok.chord_few q l) (λ j k. omega (arith, tok.channel-in q j l k)))

  abbrev merged : Chord → Chord
  merged c = merged_chord (targets (length t.kinds) ms) c

  merged_keeps : (c : Chord) → 1 ≤ length c.channels → length c.channels ≤ 8
      → ((j : ℕ) → j < length c.channels → get_or c.channels j 0 < length u.kinds)
      → chord_keeps n (merged c) ≡ true
  merged_keeps c s f i =
      let says = map-says t u ms m in
      let becomes : ℕ → ℕ = λ x. get_or (targets (length t.kinds) ms) x 0 in
      let z = length-map c.channels becomes in
      keeps n (merged c) (omega arith) (omega arith) (λ j l.
      rw (nth-map becomes c.channels j 0 0 (omega arith))
      (target-in ms u.kinds (length t.kinds) (length t.kinds) (get_or c.channels j 0) says.0 says.1
      (omega arith) (omega (arith, i j (omega arith), says.0))))

  second-keep : (cs : List Chord) → ((q : ℕ) → q < length cs → chord_keeps n (merged (get_or cs q no_chord)) ≡ true)
      → every (chord_keeps n) (map merged cs) ≡ true
  second-keep [] f = refl
  second-keep (c ∷ cs) f = and (f 0 (omega arith)) (second-keep cs (λ q l. f (suc q) (omega arith)))

  merged-layout : kinds_ok t.kinds ≡ true → kinds_ok u.kinds ≡ true → counts_fit (merged_table t u ms) ≡ true
      → keeps_layout (merged_table t u ms) ≡ true
  unfolding keeps_layout counts_fit kinds_ok merged_table
  merged-layout k l c =
      let z = length-append t.kinds (new_kinds ms u.kinds) in
      let p = both {t = leb (length (merged_table t u ms).kinds) 16} c in
      let q = both {t = leb (length (merged_table t u ms).chords) 32} p.1 in
      and (le-leb 1 (length (merged_table t u ms).kinds) (omega (arith, z, tok.kinds_some)))
      (and p.0 (and q.0 (and q.1 (and (every_append (λ x. leb x 1) t.kinds (new_kinds ms u.kinds) k
      (new-passes (λ x. leb x 1) ms u.kinds l))
      (subst⁻¹ (λ (x : ℕ). every (chord_keeps x) (merged_table t u ms).chords ≡ true) z
      (every_append (chord_keeps n) t.chords (merged_chords t u ms) first-keep
      (second-keep u.chords (λ q l.
      merged_keeps (chord_at u q) (uok.chord_some q l) (uok.chord_few q l) (λ j k. uok.channel-in q j l k)))))))))

-- what an accepted merge rests on
pub record Mergeable (s z ms : List ℕ) : Type 0 where
  pub first : table_refusal s ≡ 0
  pub second : table_refusal z ≡ 0
  pub map-ok : map_ok (table_of s) (table_of z) ms ≡ true
  pub fits : counts_fit (merged_of s z ms) ≡ true

pub mergeable : (s z ms : List ℕ) → merge_refusal s z ms ≡ 0 → Mergeable s z ms
unfolding merge_refusal
mergeable s z ms e =
    let a = first-none (table_refusal s) _ e in
    let b = first-none (table_refusal z) _ a.1 in
    let c = unless-none (map_ok (table_of s) (table_of z) ms) 16 _ b.1 in
    let d = unless-none (counts_fit (merged_of s z ms)) 17 0 c.1 in
    record { first = a.0; second = b.0; map-ok = c.0; fits = d.0 }

kinds-of : (s : List ℕ) → table_refusal s ≡ 0 → kinds_ok (table_of s).kinds ≡ true
unfolding table_of
kinds-of s e = (accepted s e).kinds-ok

pub merge-accepted : (s z ms : List ℕ) → merge_refusal s z ms ≡ 0
    → (table_refusal (merged_bytes s z ms) ≡ 0) × (table_of (merged_bytes s z ms) ≡ merged_of s z ms)
merge-accepted s z ms e =
    let a = mergeable s z ms e in
    tables-survive.there (merged_of s z ms)
    (merged-layout (table_of s) (table_of z) ms (table-ok s a.first) (table-ok z a.second) a.map-ok
    (kinds-of s a.first) (kinds-of z a.second) a.fits)
