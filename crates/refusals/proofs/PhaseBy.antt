-- A phase's three numbers tested by the largest place and the largest second number of each phase.
use Rattle.std.proofs.Common.{◌≡◌, true, false, ◌&&◌, ◌||◌, List, [], ◌∷◌, ℕ, zero, suc, ◌≤◌, eqb, leb, get_or, arith}
use Rattle.std.proofs.lemmas.Bool.Decides.{nat_tests}
use Rattle.rows.specs.Numbers.{encodes_phase}

abbrev pub places : List ℕ
places = 255 ∷ 255 ∷ 255 ∷ 255 ∷ 255 ∷ 0 ∷ 255 ∷ 0 ∷ 0 ∷ 255 ∷ []

abbrev pub seconds : List ℕ
seconds = 0 ∷ 0 ∷ 255 ∷ 65535 ∷ 0 ∷ 0 ∷ 0 ∷ 0 ∷ 0 ∷ 0 ∷ []

module _ (k s : ℕ) where
  placed : (leb k 255 && leb s 0) ≡ (leb k 255 && (eqb s 0 || false))
  placed = grind (arith, nat_tests)

  unplaced : (leb k 0 && leb s 0) ≡ (leb k 255 && (eqb k 0 && (eqb s 0 || false)))
  unplaced = grind (arith, nat_tests)

  revert : (leb k 255 && leb s 255) ≡ (leb k 255 && (eqb s 0 || leb s 255))
  revert = grind (arith, nat_tests)

  consume : s ≤ 65535 → (leb k 255 && leb s 65535) ≡ (leb k 255 && true)
  consume h = grind (arith, nat_tests)

pub phase_by : (n k s : ℕ) → n ≤ 9 → s ≤ 65535
    → (leb k (get_or places n 0) && leb s (get_or seconds n 0)) ≡ encodes_phase n k s
unfolding encodes_phase
phase_by zero k s h l = placed k s
phase_by (suc zero) k s h l = placed k s
phase_by (suc (suc zero)) k s h l = revert k s
phase_by (suc (suc (suc zero))) k s h l = consume k s l
phase_by (suc (suc (suc (suc zero)))) k s h l = placed k s
phase_by (suc (suc (suc (suc (suc zero))))) k s h l = unplaced k s
phase_by (suc (suc (suc (suc (suc (suc zero)))))) k s h l = placed k s
phase_by (suc (suc (suc (suc (suc (suc (suc zero))))))) k s h l = unplaced k s
phase_by (suc (suc (suc (suc (suc (suc (suc (suc zero)))))))) k s h l = unplaced k s
phase_by (suc (suc (suc (suc (suc (suc (suc (suc (suc zero))))))))) k s h l = placed k s
phase_by (suc (suc (suc (suc (suc (suc (suc (suc (suc (suc n)))))))))) k s h l = absurd (omega arith)
