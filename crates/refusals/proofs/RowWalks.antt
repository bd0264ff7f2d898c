-- Laws of the senders' numbers walked from the front.
use mathlib.Core.Path.{◌≡◌, refl, sym, ◌∙◌}
use mathlib.Core.Bool.{Bool, true, false, ◌&&◌}
use mathlib.Core.List.{List, [], ◌∷◌, map}
use Prim.Native.Nat.{ℕ, zero, suc, ◌+◌, ◌*◌, ◌<◌}
use lib.ListN.{get_or, drop, length}
use lib.Seq.{drop-drop}
use native.Mathlib.Omega.{arith}
use Rattle.std.specs.List.{list_all, range_with_len}
use Rattle.std.proofs.Common.{Fits, w16}
use Rattle.std.proofs.Math.ListN.{get_or-eq_default}
use Rattle.std.proofs.lemmas.List.{get_or-take, get_or-drop, length-take}
use Rattle.std.proofs.lemmas.List.FromFn.{get_or-range_with_len}
use Rattle.model.specs.Basics.{every}
use Rattle.model.specs.Tables.{Table}
use Rattle.model.specs.Boards.{Board}
use Rattle.model.specs.Sound.{sender_ok}
use Rattle.model.proofs.Lists.{every-nth}
use Rattle.model.proofs.Tests.{same_test, both, and, never, by-range}
use Rattle.state.specs.declared.Sender as DD
use Rattle.state.specs.Views.{sender_in}
use Rattle.rows.specs.Numbers.{encodes_senders}
use Rattle.rows.proofs.DecodeLaws.{sender-from}
use Rattle.rows.specs.Decoded.{board_from, sender_from, senders_from}
use Rattle.senders.specs.Seen.{Seen}
use Rattle.refusals.specs.Rows.{row, within, all_within, limits, row_ok, rows_ok, senders_in}
use Rattle.refusals.proofs.Parts.{parts}
use Rattle.refusals.proofs.RowLaws.{row_within}

-- The senders of the numbers

pub senders-count : (n : ℕ) (s : List ℕ) → length (senders_from n s) ≡ n
unfolding senders_from
senders-count zero s = refl
senders-count (suc n) s = rw (senders-count n (drop 21 s))

pub nth-sender : (s : List ℕ) (i : ℕ) (z : DD.Sender) → i < 32
    → get_or (senders_in s) i z ≡ sender_from (row s (2 + 21 * i))
unfolding board_from
nth-sender s i z h = sender-from s i z h

-- Their tests

-- each row is within the limits where all are
pub within_at : (most s : List ℕ) → all_within most s ≡ true → (i : ℕ) → i < 32
    → within most (row s (2 + 21 * i)) ≡ true
unfolding all_within
within_at most s e i h =
    let z : get_or (range_with_len 0 32) i 0 ≡ i = get_or-range_with_len 0 32 i 0 h ∙ omega arith in
    rw z at (every-nth (λ j. within most (row s (2 + 21 * j))) (range_with_len 0 32) 0 e i h)

-- the numbers of a row are as small as the board's
row-small : (s : List ℕ) (at : ℕ) → ((i : ℕ) → Fits w16 (get_or s i 0)) → (i : ℕ) → Fits w16 (get_or (row s at) i 0)
row-small s at small i =
    by-range i 21 (λ h. rw (get_or-take 21 (drop at s) i 0 h, get_or-drop at s i 0) (small (at + i)))
    (λ h. rw (get_or-eq_default (row s at) 0 {n = i} (omega (arith, length-take 21 (drop at s)))) (omega arith))

implied : (p q : ℕ → Bool) → ((i : ℕ) → q i ≡ true → p i ≡ true) → (xs : List ℕ) → every q xs ≡ true
    → every p xs ≡ true
implied p q f [] e = refl
implied p q f (x ∷ xs) e = let h = both {t = q x} e in and (f x h.0) (implied p q f xs h.1)

module _ (t : Table) (b : Board) where
  pub rows_are : (n : ℕ) (s : List ℕ) → rows_ok t b n s
      ≡ (encodes_senders n s && every (sender_ok t b) (map (sender_in t) (senders_from n s)))
  unfolding rows_ok row_ok encodes_senders senders_from
  rows_are zero s = refl
  rows_are (suc n) s =
      rw (rows_are n (drop 21 s))
      (same_test (λ e. search (parts, and) depth 20) (λ e. search (parts, and) depth 20))

  -- the rows from place i on
  pub rows_all : (s : List ℕ) (n i : ℕ)
      → list_all (λ j. row_ok t b (row s (2 + 21 * j))) (range_with_len i n) ≡ rows_ok t b n (drop (2 + 21 * i) s)
  unfolding rows_ok
  rows_all s zero i = refl
  rows_all s (suc n) i =
      let z : 2 + 21 * i + 21 ≡ 2 + 21 * (i + 1) = omega arith in
      rw (drop-drop 21 (2 + 21 * i) s, z, rows_all s n (i + 1))

  -- rows that are not all within the limits are not all sound
  pub rows-within : (n k : ℕ) (channels s : List ℕ) → Seen b n k channels → ((i : ℕ) → Fits w16 (get_or s i 0))
      → all_within (limits n k) s ≡ false → rows_ok t b 32 (drop 2 s) ≡ false
  unfolding all_within
  rows-within n k channels s sees small e =
      sym (rows_all s 32 0)
      ∙ same_test (λ h. sym e ∙ implied _ _ (λ j. row_within t b (row s (2 + 21 * j)) n k channels sees
      (row-small s (2 + 21 * j) small)) (range_with_len 0 32) h) never
