-- The test of a backoff table by the library's words, and what one that passes holds.
use Rattle.std.proofs.Common.{◌≡◌, ℕ, ◌-◌, Bool, true, false, ◌&&◌, leb, List, [], ◌∷◌, length, refl, take, drop, fold}
use Rattle.std.proofs.Common.{◌∙◌}
use Rattle.std.specs.List.{zip}
use Rattle.model.specs.Basics.{every}
use Rattle.model.specs.Boards.{backoffs_pass, never_falls}
use Rattle.model.proofs.Backoffs.{few-rests}
use Rattle.model.proofs.OwnRests.{own-rests}
use Rattle.model.proofs.Parts.{to_end}

module _ {A : Type 0} (p : A → Bool) where
  folded : (ok : Bool) (xs : List A) → fold (λ ok x. ok && p x) ok xs ≡ (ok && every p xs)
  folded true [] = refl
  folded false [] = refl
  folded true (x ∷ xs) = folded (p x) xs
  folded false (x ∷ xs) = folded false xs

pub few-is : (xs : List ℕ) → fold (λ ok k. ok && leb k 64) true xs ≡ every (λ k. leb k 64) xs
few-is xs = folded (λ k. leb k 64) true xs

abbrev in_order : ℕ × ℕ → Bool
in_order p = leb p.0 p.1

pub falls-is : (xs : List ℕ)
    → fold (λ ok p. ok && leb p.0 p.1) true (zip xs (take (length xs - 1) (drop 1 xs))) ≡ never_falls xs
falls-is xs = rw (to_end xs 1) (folded in_order true (zip xs (drop 1 xs)) ∙ pairs xs)
  where
    pairs : (xs : List ℕ) → every in_order (zip xs (drop 1 xs)) ≡ never_falls xs
    pairs [] = refl
    pairs (x ∷ []) = refl
    pairs (x ∷ y ∷ ys) = rw (pairs (y ∷ ys))

pub ruleset tests = (few-is, falls-is)

pub sixteen : (rests : List ℕ) → backoffs_pass rests ≡ true → length rests ≡ 16
sixteen rests e = (own-rests.there rests e).sixteen

pub ruleset passing = (few-rests, sixteen)
