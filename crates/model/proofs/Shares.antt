-- Laws of the tallies: one more of a sender that has room stays within the shares, and the shares bound all.
use mathlib.Core.Path.{◌≡◌, refl, ◌∙◌}
use mathlib.Core.Logic.{◌⊎◌, inl, inr, ⊎_elim}
use mathlib.Core.Bool.{Bool, true, false}
use mathlib.Core.List.{List, [], ◌∷◌}
use Prim.Native.Nat.{ℕ, zero, suc, ◌+◌, ◌-◌, ◌*◌, ◌<◌, ◌≤◌}
use borrow.Author.Tests.{ltb-true, ltb-false, lt-ltb, le-ltb, eqb-true, eq-eqb, leb-true, le-leb}
use lib.Dec.{ltb}
use lib.ListN.{length, length-set, set, replicate, get_or-replicate, get_or-eq_default, length-replicate}
use native.Mathlib.Omega.{arith}
use Rattle.model.specs.Shares.{tally, added_total, common_used, has_room, shares_ok, one_more}
use Rattle.model.proofs.Tests.{and, both, either, or_right}

-- sums over the tallies
one-common : (ks : List ℕ) (i : ℕ) → tally ks i - 16 ≤ common_used ks
one-common [] i = omega arith
one-common (k ∷ ks) zero = omega arith
one-common (k ∷ ks) (suc i) = omega (arith, one-common ks i)

few-in-all : (ks : List ℕ) → added_total ks ≤ 16 * length ks + common_used ks
few-in-all [] = omega arith
few-in-all (k ∷ ks) = omega (arith, few-in-all ks)

total-more : (ks : List ℕ) (i n : ℕ) → i < length ks → added_total (set ks i n) + tally ks i ≡ added_total ks + n
total-more [] i n l = absurd (omega arith)
total-more (k ∷ ks) zero n l = omega arith
total-more (k ∷ ks) (suc i) n l = omega (arith, total-more ks i n (omega arith))

common-more : (ks : List ℕ) (i n : ℕ) → i < length ks
    → common_used (set ks i n) + (tally ks i - 16) ≡ common_used ks + (n - 16)
common-more [] i n l = absurd (omega arith)
common-more (k ∷ ks) zero n l = omega arith
common-more (k ∷ ks) (suc i) n l = omega (arith, common-more ks i n (omega arith))

-- the tests, as what they say
pub record Shares (ks : List ℕ) (n : ℕ) : Type 0 where
  pub all : length ks ≡ 32
  pub total : added_total ks ≡ n
  pub common : common_used ks ≤ 512

pub shares-facts : (ks : List ℕ) (n : ℕ) → shares_ok ks n ≡ true → Shares ks n
unfolding shares_ok
shares-facts ks n e =
    let a = both e in
    let c = both a.1 in
    record { all = eqb-true _ _ a.0; total = eqb-true _ _ c.0; common = leb-true _ _ c.1 }

pub facts-shares : {ks : List ℕ} {n : ℕ} → Shares ks n → shares_ok ks n ≡ true
unfolding shares_ok
facts-shares s = and (eq-eqb _ _ s.all) (and (eq-eqb _ _ s.total) (le-leb _ _ s.common))

-- no sender has added a message
pub no-tally : (i : ℕ) → tally (replicate 32 0) i ≡ 0
no-tally i = go (ltb i 32) refl
  where
    go : (u : Bool) → ltb i 32 ≡ u → tally (replicate 32 0) i ≡ 0
    go true e = get_or-replicate 32 i 0 0 (ltb-true i 32 e)
    go false e =
        get_or-eq_default (replicate 32 0) 0 {n = i} (omega (arith, ltb-false i 32 e, length-replicate {A = ℕ} 32 0))

pub none-added : Shares (replicate 32 0) 0
none-added = record { all = refl; total = refl; common = omega arith }

pub room-is : (ks : List ℕ) (i : ℕ) → has_room ks i ≡ true → (tally ks i < 16) ⊎ (common_used ks < 512)
unfolding has_room
room-is ks i e = ⊎_elim (λ h. inl (ltb-true _ _ h)) (λ h. inr (ltb-true _ _ h)) (either e)

pub is-room : (ks : List ℕ) (i : ℕ) → (tally ks i < 16) ⊎ (common_used ks < 512) → has_room ks i ≡ true
unfolding has_room
is-room ks i (inl h) = rw (lt-ltb (tally ks i) 16 h)
is-room ks i (inr h) = or_right (ltb (tally ks i) 16) (lt-ltb (common_used ks) 512 h)

pub no_room : (ks : List ℕ) (i : ℕ) → 16 ≤ tally ks i → 512 ≤ common_used ks → has_room ks i ≡ false
unfolding has_room
no_room ks i h l = rw (le-ltb (tally ks i) 16 h, le-ltb (common_used ks) 512 l)

-- what they bound
module _ {ks : List ℕ} {n : ℕ} (s : Shares ks n) where
  pub shares-fit : n ≤ 1024
  shares-fit = omega (arith, few-in-all ks, s.all, s.total, s.common)

  pub share-most : (i : ℕ) → tally ks i ≤ 528
  share-most i = omega (arith, one-common ks i, s.common)

  pub shares-added : (i : ℕ) → i < 32 → has_room ks i ≡ true → Shares (one_more ks i) (suc n)
  shares-added i l e = record {
    all = length-set ks i _ ∙ s.all;
    total = omega (arith, total-more ks i (suc (tally ks i)) (omega (arith, s.all)), s.total);
    common = ⊎_elim (λ h. omega (arith, more, s.common)) (λ h. omega (arith, more)) (room-is ks i e);
  }
    where
      more : common_used (one_more ks i) + (tally ks i - 16) ≡ common_used ks + (suc (tally ks i) - 16)
      more = common-more ks i (suc (tally ks i)) (omega (arith, s.all))

-- 1,024 follow from the tallies
pub room-left : {ks : List ℕ} {n : ℕ} → Shares ks n → (i : ℕ) → i < 32 → has_room ks i ≡ true → n < 1024
room-left s i l e = shares-fit (shares-added s i l e)
