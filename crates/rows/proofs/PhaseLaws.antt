-- Laws of a phase's three numbers.
use Rattle.std.proofs.Common.{◌≡◌, ◌≢◌, true, List, [], ◌∷◌, ◌++◌, ℕ, zero, suc, ◌+◌, ◌≤◌, refl, arith, rules, tests}
use Rattle.state.specs.declared.Phase as DP
use Rattle.state.specs.declared.Phase.TheVariants as P
use Rattle.rows.specs.Decoded.{phase_from}
use Rattle.rows.specs.Numbers.{phase_numbers, kind, place, second, encodes_phase}
use Rattle.rows.specs.Fits.{PhaseFits}

module _ (n k s : ℕ) (e : encodes_phase n k s ≡ true) where
  pub kind_fits : n ≤ 9
  unfolding encodes_phase
  kind_fits = search (rules, tests)

  pub place-fits : k ≤ 255
  unfolding encodes_phase
  place-fits = search (rules, tests)

-- no kind but the last is left
pub last-kind : (n : ℕ) → n ≤ 9 → n ≢ 0 → n ≢ 1 → n ≢ 2 → n ≢ 3 → n ≢ 4 → n ≢ 5 → n ≢ 6 → n ≢ 7 → n ≢ 8 → 9 ≡ n
last-kind n h e0 e1 e2 e3 e4 e5 e6 e7 e8 =
    let a : 3 ≤ n = past n 2 (past n 1 (past n 0 (zero≤ n) e0) e1) e2 in
    let b : 6 ≤ n = past n 5 (past n 4 (past n 3 a e3) e4) e5 in
    ends n h (past n 8 (past n 7 (past n 6 b e6) e7) e8)
  where
    past : (n i : ℕ) → i ≤ n → n ≢ i → i + 1 ≤ n
    past n i h e = omega arith

    zero≤ : (n : ℕ) → 0 ≤ n
    zero≤ n = omega arith

    ends : (n : ℕ) → n ≤ 9 → 9 ≤ n → 9 ≡ n
    ends n p q = omega arith

-- numbers that pass are those of their phase, which fits its types
pub phase-from : (n k s : ℕ) → encodes_phase n k s ≡ true
    → (phase_numbers (phase_from n k s) ≡ n ∷ k ∷ s ∷ []) × PhaseFits (phase_from n k s)
unfolding encodes_phase
phase-from zero k s e = search (rules, tests)
phase-from (suc zero) k s e = search (rules, tests)
phase-from (suc (suc zero)) k s e = search (rules, tests)
phase-from (suc (suc (suc zero))) k s e = search (rules, tests)
phase-from (suc (suc (suc (suc zero)))) k s e = search (rules, tests)
phase-from (suc (suc (suc (suc (suc zero))))) k s e = search (rules, tests)
phase-from (suc (suc (suc (suc (suc (suc zero)))))) k s e = search (rules, tests)
phase-from (suc (suc (suc (suc (suc (suc (suc zero))))))) k s e = search (rules, tests)
phase-from (suc (suc (suc (suc (suc (suc (suc (suc zero)))))))) k s e = search (rules, tests)
phase-from (suc (suc (suc (suc (suc (suc (suc (suc (suc zero))))))))) k s e = search (rules, tests)
phase-from (suc (suc (suc (suc (suc (suc (suc (suc (suc (suc n)))))))))) k s e =
    absurd (omega (arith, kind_fits _ k s e))

module _ (p : DP.Phase) where
  -- a phase is the one that its numbers decode to; they are three, and pass where it fits its types
  pub record Numbered : Type 0 where
    pub back : phase_from (kind p) (place p) (second p) ≡ p
    pub spelled : (xs : List ℕ) → kind p ∷ place p ∷ second p ∷ xs ≡ phase_numbers p ++ xs
    pub passes : PhaseFits p → encodes_phase (kind p) (place p) (second p) ≡ true

pub numbered : (p : DP.Phase) → Numbered p
unfolding encodes_phase
numbered (P.Look k) = record { back = refl; spelled = λ xs. refl; passes = search (rules, tests) }
numbered (P.Claim k) = record { back = refl; spelled = λ xs. refl; passes = search (rules, tests) }
numbered (P.Revert k claims) = record { back = refl; spelled = λ xs. refl; passes = search (rules, tests) }
numbered (P.Consume k match) = record { back = refl; spelled = λ xs. refl; passes = search (rules, tests) }
numbered (P.Tell k) = record { back = refl; spelled = λ xs. refl; passes = search (rules, tests) }
numbered P.Wake = record { back = refl; spelled = λ xs. refl; passes = search (rules, tests) }
numbered (P.Free k) = record { back = refl; spelled = λ xs. refl; passes = search (rules, tests) }
numbered P.Signal = record { back = refl; spelled = λ xs. refl; passes = search (rules, tests) }
numbered P.PassEnd = record { back = refl; spelled = λ xs. refl; passes = search (rules, tests) }
numbered (P.Backoff k) = record { back = refl; spelled = λ xs. refl; passes = search (rules, tests) }
