-- Laws of bytes that tell of each message whether it fits.
use mathlib.Core.Path.{◌≡◌, ap, ◌∙◌}
use mathlib.Core.Bool.{Bool, ◌&&◌, and-true}
use mathlib.Core.List.{List}
use Prim.Native.Nat.{ℕ, ◌+◌, ◌<◌}
use native.Mathlib.Omega.{arith}
use lib.ListN.{set, replicate, length-replicate, length-set}
use Rattle.model.proofs.Walks.{set_more}
use Rattle.table.specs.declared.Equality.TheVariants as E
use Rattle.columns.specs.declared.Want as DW
use Rattle.columns.specs.Firsts.{of_kind, of_property, of_both, is_like, fitting}
use Rattle.columns.specs.Words.{bit, Told}

module _ {p : ℕ → Bool} {at : ℕ} where
  pub told_none : Told p at 0 (replicate 64 0)
  told_none = record { all = length-replicate {A = ℕ} 64 0; below = λ k h. absurd (omega arith) }

  -- one byte more
  pub told_more : {i : ℕ} {y : List ℕ} {x : ℕ} → i < 64 → x ≡ bit (p (at + i)) → Told p at i y
      → Told p at (i + 1) (set y i x)
  told_more {i} {y} {x} h e t = record {
    all = length-set y i x ∙ t.all;
    below = set_more (λ k. bit (p (at + k))) y i x 0 (omega (arith, t.all)) e t.below;
  }

-- a test that agrees
pub told-as : {p q : ℕ → Bool} {at n : ℕ} {y : List ℕ} → ((k : ℕ) → p k ≡ q k) → Told p at n y → Told q at n y
told-as {at = at} e t = record { all = t.all; below = λ k l. t.below k l ∙ ap bit (e (at + k)) }

-- which fit, by what is wanted to be equal
module _ (channels keys units statuses : List ℕ) (want : DW.Want) where
  pub fitting-any : want.equal ≡ E.Any → (k : ℕ)
      → fitting channels keys units statuses want k ≡ of_kind channels statuses want.channel want.status k
  unfolding fitting is_like
  fitting-any e k = rw e (and-true (of_kind channels statuses want.channel want.status k))

  pub fitting-property : want.equal ≡ E.Property → (k : ℕ)
      → fitting channels keys units statuses want k
      ≡ (of_kind channels statuses want.channel want.status k && of_property keys want.property k)
  unfolding fitting is_like of_property
  fitting-property e k = rw e

  pub fitting-both : want.equal ≡ E.Unit → (k : ℕ)
      → fitting channels keys units statuses want k
      ≡ (of_kind channels statuses want.channel want.status k && of_both keys units want.property want.unit k)
  unfolding fitting is_like of_both
  fitting-both e k = rw e
