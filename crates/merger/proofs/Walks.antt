-- Laws of a map: its tests, and what is left of it from i on.
use mathlib.Core.Path.{◌≡◌, refl, sym, ap, ◌∙◌}
use mathlib.Core.Bool.{Bool, true, false, cond, ◌&&◌, ◌||◌}
use mathlib.Core.List.{List, [], ◌∷◌}
use Prim.Native.Nat.{ℕ, zero, suc, ◌+◌, ◌<◌}
use native.Mathlib.Omega.{arith}
use borrow.Author.Tests.{ltb-true, eqb-true, eq-eqb, ne_eqb}
use lib.Dec.{eqb, ltb, leb}
use lib.ListN.{length, get_or, drop}
use lib.Seq.{drop-cons}
use native.Mathlib.Numerals.{add-one}
use Rattle.std.proofs.Common.{not, ⊎_elim, set, get_or-set_same, get_or-set_other}
use Rattle.std.specs.List.{zip, slice_get}
use Rattle.std.specs.Option.{option_eq}
use Rattle.std.specs.Prelude.{Some}
use Rattle.std.proofs.lemmas.List.Sums.{sum_by-cons}
use Rattle.model.specs.Basics.{is_in, every, pick, flag}
use Rattle.model.specs.Tables.{Table}
use Rattle.model.proofs.Tests.{never, both, same?, or-not}
use Rattle.merging.specs.Merges.{is_new, new_kinds, joined_once, kinds_agree, map_ok, counts_fit, merged_of}
use Rattle.merging.proofs.WriteLaws.{fits-by-two}
use Rattle.model.specs.Layout.{table_of}
use Rattle.model.proofs.AcceptedChords.{table-ok}
use Rattle.merger.specs.Asks.{joins, count_new, BothAsked}

-- the tests of a map, as the code makes them
own-kind : (ks : List ℕ) (m u : ℕ) → m < length ks → option_eq eqb (slice_get ks m) (Some u) ≡ eqb (get_or ks m 0) u
own-kind [] m u h = absurd (omega arith)
own-kind (k ∷ ks) zero u h = refl
own-kind (k ∷ ks) (suc m) u h = own-kind ks m u (omega arith)

joins-one : (ks : List ℕ) (m u : ℕ) → (is_new m || ltb m (length ks)) ≡ true
    → joins ks m u ≡ (is_new m || eqb (get_or ks m 0) u)
joins-one ks m u e = go (is_new m) e
  where
    go : (b : Bool) → (b || ltb m (length ks)) ≡ true
        → (b || option_eq eqb (slice_get ks m) (Some u)) ≡ (b || eqb (get_or ks m 0) u)
    go true e = refl
    go false e = own-kind ks m u (ltb-true m (length ks) e)

joins-all : (ks ms us : List ℕ) → length ms ≡ length us → every (λ m. is_new m || ltb m (length ks)) ms ≡ true
    → every (λ (p : ℕ × ℕ). joins ks p.0 p.1) (zip ms us) ≡ kinds_agree ks ms us
joins-all ks [] us e h = refl
joins-all ks (m ∷ ms) [] e h = absurd (omega arith)
joins-all ks (m ∷ ms) (u ∷ us) e h =
    let p = both {t = is_new m || ltb m (length ks)} h in
    rw (joins-one ks m u p.0, joins-all ks ms us (omega arith) p.1)

pub map_tested : (t u : Table) (ms : List ℕ) → map_ok t u ms
    ≡ (eqb (length ms) (length u.kinds) && (every (λ m. is_new m || ltb m (length t.kinds)) ms &&
    (joined_once ms && every (λ (p : ℕ × ℕ). joins t.kinds p.0 p.1) (zip ms u.kinds))))
unfolding map_ok
map_tested t u ms = go (eqb (length ms) (length u.kinds)) (every (λ m. is_new m || ltb m (length t.kinds)) ms) refl refl
  where
    go : (a b : Bool) → eqb (length ms) (length u.kinds) ≡ a → every (λ m. is_new m || ltb m (length t.kinds)) ms ≡ b
        → (a && (b && (joined_once ms && kinds_agree t.kinds ms u.kinds)))
        ≡ (a && (b && (joined_once ms && every (λ (p : ℕ × ℕ). joins t.kinds p.0 p.1) (zip ms u.kinds))))
    go false b e h = refl
    go true false e h = refl
    go true true e h = rw (joins-all t.kinds ms u.kinds (eqb-true _ _ e) h)

-- channels named twice, from the last byte to the first
twice-after : (ms : List ℕ) (i : ℕ) → joined_once ms ≡ true → joined_once (drop i ms) ≡ true
twice-after ms zero e = e
twice-after [] (suc i) e = refl
twice-after (m ∷ ms) (suc i) e = twice-after ms i (both {t = is_new m || not (is_in m ms)} e).1

module _ (ms : List ℕ) (i : ℕ) (h : i < length ms) where
  abbrev again : Bool
  again = not (is_new (get_or ms i 0)) && is_in (get_or ms i 0) (drop (i + 1) ms)

  twice-at : joined_once (drop i ms) ≡ (not again && joined_once (drop (i + 1) ms))
  twice-at = rw (drop-cons ms i 0 h, add-one i, or-not)

  pub twice-here : again ≡ true → joined_once ms ≡ false
  twice-here e = go (joined_once ms) refl
    where
      go : (u : Bool) → joined_once ms ≡ u → u ≡ false
      go false p = refl
      go true p = never (sym (twice-at ∙ rw e) ∙ twice-after ms i p)

  pub twice-later : again ≡ false → joined_once (drop (i + 1) ms) ≡ true → joined_once (drop i ms) ≡ true
  twice-later e p = twice-at ∙ rw (e, p)

-- the channels among the bytes from i on are marked
abbrev pub Seen : List Bool → List ℕ → Type 0
Seen seen ms = (x : ℕ) → x < 256 → get_or seen x false ≡ is_in x ms

pub seen_more : (seen : List Bool) (ms : List ℕ) (i : ℕ) → i < length ms → length seen ≡ 256 → get_or ms i 0 < 256
    → Seen seen (drop (i + 1) ms) → Seen (set seen (get_or ms i 0) true) (drop i ms)
seen_more seen ms i h l b f x k =
    rw (drop-cons ms i 0 h)
    (⊎_elim
    (λ e. rw (e, get_or-set_same seen (get_or ms i 0) true false (omega arith), eq-eqb (get_or ms i 0) (get_or ms i 0) refl))
    (λ e. rw (get_or-set_other seen (get_or ms i 0) x true false e, ne_eqb x (get_or ms i 0) e) (rw (add-one i) at (f x k)))
    (same? x (get_or ms i 0)))

-- new channels
count-cons : (m : ℕ) (ms : List ℕ) → count_new (m ∷ ms) ≡ flag (is_new m) + count_new ms
count-cons m ms = sum_by-cons (λ x. cond (is_new x) 1 0) m ms ∙ ap (λ n. n + count_new ms) (go (is_new m))
  where
    go : (b : Bool) → cond b 1 0 ≡ flag b
    go true = refl
    go false = refl

pub new-count : (ms us : List ℕ) → length ms ≡ length us → length (new_kinds ms us) ≡ count_new ms
new-count [] us e = refl
new-count (m ∷ ms) [] e = absurd (omega arith)
new-count (m ∷ ms) (u ∷ us) e = go (is_new m) (new-count ms us (omega arith)) ∙ sym (count-cons m ms)
  where
    go : (x : Bool) → length (new_kinds ms us) ≡ count_new ms
        → length (pick x (u ∷ new_kinds ms us) (new_kinds ms us)) ≡ flag x + count_new ms
    go true ih = omega (arith, ih)
    go false ih = omega (arith, ih)

-- of the bytes left from i on, the first stands for a new channel or not
module _ (ms us : List ℕ) (i : ℕ) (h : i < length ms) where
  pub count-left : count_new (drop i ms) ≡ flag (is_new (get_or ms i 0)) + count_new (drop (i + 1) ms)
  count-left = rw (drop-cons ms i 0 h, add-one) (count-cons (get_or ms i 0) (drop (suc i) ms))

  pub kinds-left : i < length us → new_kinds (drop i ms) (drop i us)
      ≡ pick (is_new (get_or ms i 0)) (get_or us i 0 ∷ new_kinds (drop (i + 1) ms) (drop (i + 1) us))
      (new_kinds (drop (i + 1) ms) (drop (i + 1) us))
  kinds-left g = rw (drop-cons ms i 0 h, drop-cons us i 0 g, add-one)

pub ruleset bytes_left = (count-left, kinds-left)

-- the test of the counts, as the code makes it
pub fits_tested : (s z ms : List ℕ) → BothAsked s z ms → counts_fit (merged_of s z ms)
    ≡ (leb (length (table_of s).kinds + count_new ms) 16
    && leb (length (table_of s).chords + length (table_of z).chords) 32)
fits_tested s z ms h =
    rw (← new-count ms (table_of z).kinds h.whole)
    (fits-by-two (table_of s) (table_of z) ms (table-ok s h.first_ok) (table-ok z h.second_ok))

pub ruleset accepted_tables = (table-ok, fits_tested)
