-- The sums over the tallies, as the library has them.
use Rattle.std.proofs.Common.{◌≡◌, ℕ, ◌-◌, List, refl, sum, sum_by}
use Rattle.std.proofs.lemmas.List.Recursion.{is_sum_by}
use Rattle.model.specs.Shares.{added_total, common_used}

pub total-is : (ks : List ℕ) → added_total ks ≡ sum ks
total-is = is_sum_by added_total (λ k. k) refl (λ _ _. refl)

pub common-is : (ks : List ℕ) → common_used ks ≡ sum_by (λ k. k - 16) ks
common-is = is_sum_by common_used (λ k. k - 16) refl (λ _ _. refl)

pub ruleset sums_are = (total-is, common-is)
