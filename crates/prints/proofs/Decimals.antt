-- Laws of a number's decimal digits: the last one and those before it, and how many there are.
use mathlib.Core.Path.{◌≡◌}
use mathlib.Core.List.{[], ◌∷◌, ◌++◌}
use Prim.Native.Nat.{ℕ, zero, suc, ◌+◌, ◌/◌, ◌%◌, ◌^◌, ◌<◌, ◌≤◌}
use native.Mathlib.Omega.{arith}
use borrow.Author.Tests.{lt-ltb, le-ltb}
use lib.ListN.{length, length-append}
use Rattle.model.specs.Printing.{digit, digits_by, decimal}
use Rattle.model.proofs.Tests.{by-range}

module _ (f n : ℕ) where
  digits-small : n < 10 → digits_by (suc f) n ≡ digit n ∷ []
  unfolding digits_by
  digits-small h = rw (lt-ltb n 10 h)

  digits_more : 10 ≤ n → digits_by (suc f) n ≡ digits_by f (n / 10) ++ (digit (n % 10) ∷ [])
  unfolding digits_by
  digits_more h = rw (le-ltb n 10 h)

-- more places than a number has digits change nothing
digits_same : (f g n : ℕ) → n < f → n < g → digits_by f n ≡ digits_by g n
digits_same zero g n h k = absurd (omega arith)
digits_same (suc f) zero n h k = absurd (omega arith)
digits_same (suc f) (suc g) n h k =
    by-range n 10
    (λ l. rw (digits-small f n l, digits-small g n l))
    (λ l. rw (digits_more f n l, digits_more g n l, digits_same f g (n / 10) (omega arith) (omega arith)))

module _ (n : ℕ) where
  pub decimal_small : n < 10 → decimal n ≡ digit n ∷ []
  unfolding decimal
  decimal_small h = digits-small n n h

  pub decimal_more : 10 ≤ n → decimal n ≡ decimal (n / 10) ++ (digit (n % 10) ∷ [])
  unfolding decimal
  decimal_more h = rw (digits_more n n h, digits_same n (suc (n / 10)) (n / 10) (omega arith) (omega arith))

  pub length_small : n < 10 → length (decimal n) ≡ 1
  length_small h = rw (decimal_small h)

  pub length_more : 10 ≤ n → length (decimal n) ≡ length (decimal (n / 10)) + 1
  length_more h = rw (decimal_more h) (length-append (decimal (n / 10)) (digit (n % 10) ∷ []))

-- a number below the power has at most so many digits
few-digits : (k n : ℕ) → n < 10 ^ suc k → length (decimal n) ≤ suc k
few-digits zero n h = omega (arith, length_small n (omega arith))
few-digits (suc k) n h =
    by-range n 10
    (λ l. omega (arith, length_small n l))
    (λ l. omega (arith, length_more n l, few-digits k (n / 10) (omega arith)))

-- of the widths that are printed
pub digits_16 : (n : ℕ) → n < 2 ^ 16 → length (decimal n) ≤ 5
digits_16 n h = few-digits 4 n (omega arith)

pub digits_63 : (n : ℕ) → n ≤ 2 ^ 63 → length (decimal n) ≤ 19
digits_63 n h = few-digits 18 n (omega arith)
