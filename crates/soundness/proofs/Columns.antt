-- Columns tested whole, as the code does, are tested at each place.
use Rattle.std.proofs.Common.{◌≡◌, ℕ, ◌≤◌, Bool, true, ◌&&◌, ◌||◌, not, List, ℤ, pos, length, take, eqb, leb, ltb}
use Rattle.std.proofs.Common.{◌∙◌, refl, arith, Some}
use Rattle.std.specs.List.{fold, zip}
use Rattle.std.specs.Ordering.{partial_lt, nat_cmp}
use Rattle.std.proofs.lemmas.Bool.Decides.{nat_tests}
use Rattle.model.specs.Basics.{every}
use Rattle.model.specs.Adds.{cents_ok}
use Rattle.soundness.specs.Tests.{each_below, below, in_range, link_ok}
use Rattle.soundness.proofs.Each.{each_of, each-pair, folded}

lt-is : (x m : ℕ) → partial_lt (λ x y. Some (nat_cmp x y)) x m ≡ ltb x m
lt-is x m = grind (arith, nat_tests)

-- r is what the code answers of the first k
module _ {r : Bool} {k n : ℕ} where
  pub below-are : {m l : ℕ} (s : List ℕ)
      → r ≡ fold (λ ok x. ok && partial_lt (λ x y. Some (nat_cmp x y)) x m) true (take k s) → m ≡ l → k ≡ n
      → r ≡ every (λ x. ltb x l) (take n s)
  below-are {m = m} s e f g =
      e ∙ rw (← f, ← g) (folded (λ x. partial_lt (λ x y. Some (nat_cmp x y)) x m) (λ x. ltb x m) (λ x. lt-is x m)
      true (take k s))

  pub below-at : {m l : ℕ} (s : List ℕ)
      → r ≡ fold (λ ok x. ok && partial_lt (λ x y. Some (nat_cmp x y)) x m) true (take k s) → m ≡ l → k ≡ n
      → n ≤ length s → r ≡ each_below n (below l s)
  below-at {l = l} s e f g h = below-are s e f g ∙ each_of (λ x. ltb x l) s 0 n h

  pub cents-at : (cents : List ℤ) → r ≡ every cents_ok (take k cents) → k ≡ n
      → n ≤ length cents → r ≡ each_below n (in_range cents)
  cents-at cents e g h = e ∙ rw g (each_of cents_ok cents (pos 0) n h)

  pub links-at : (links statuses : List ℕ) (most asks : ℕ)
      → r ≡ fold (λ ok p. ok && (leb p.0 most && (not (eqb p.1 asks) || leb 1 p.0))) true
      (zip (take k links) (take k statuses))
      → k ≡ n → n ≤ length links → n ≤ length statuses → r ≡ each_below n (link_ok links statuses most asks)
  links-at links statuses most asks e g h l =
      e ∙ rw g (folded test test (λ _. refl) true _ ∙ each-pair test links statuses n h l)
    where
      test : ℕ × ℕ → Bool
      test p = leb p.0 most && (not (eqb p.1 asks) || leb 1 p.0)
