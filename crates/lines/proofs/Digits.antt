-- Laws of digits: a number read from the front, and its bound by the number of its digits.
use Rattle.std.proofs.Common.{◌≡◌, ℕ, ◌+◌, ◌-◌, ◌*◌, ◌^◌, ◌<◌, ◌≤◌, Bool, true, false, ◌&&◌, List, [], ◌∷◌, Option}
use Rattle.std.proofs.Common.{Some, None, cond, ltb, leb, length, get_or, drop, pos, neg_ℤ, refl, add-one, arith}
use Rattle.std.specs.Bool.{then_some}
use Rattle.std.proofs.Math.Nat.{mul_assoc, mul_comm, mul-le-mul_right, pow-le-pow_right}
use Rattle.std.proofs.lemmas.Grind.{common_steps, pow_more}
use Rattle.std.proofs.lemmas.Int.{ints}
use mathlib.Core.Bool.{and-false}
use borrow.Author.Tests.{leb-true, leb-false, le-leb, lt-leb, lt-ltb, ne_eqb}
use Rattle.model.specs.Basics.{every}
use Rattle.model.proofs.Tests.{both}
use Rattle.model.specs.Lines.{is_digit, is_decimal, is_number, is_magnitude, is_cents, cents_from, digits_of}
use Rattle.model.specs.Lines.{value_from, digits_value}

value_grows : (n : ℕ) (s : List ℕ) → n ≤ value_from n s
value_grows n [] = omega arith
value_grows n (x ∷ xs) = omega (arith, value_grows (10 * n + (x - 48)) xs)

-- what is read of the bytes left after those that make n
abbrev pub read_from : ℕ → ℕ → List ℕ → Option ℕ
read_from most n [] = Some n
read_from most n (x ∷ xs) =
    let m = 10 * n + (x - 48) in
    cond (is_digit x && leb m most) (read_from most m xs) None

abbrev Reads : ℕ → ℕ → List ℕ → Type 0
Reads most n s = read_from most n s ≡ then_some (every is_digit s && leb (value_from n s) most) (value_from n s)

reads : (most n : ℕ) (s : List ℕ) → n ≤ most → Reads most n s
reads most n [] h = rw (le-leb n most h)
reads most n (x ∷ xs) h = go (is_digit x) (leb m most) refl refl (reads most m xs)
  where
    m : ℕ
    m = 10 * n + (x - 48)

    go : (t u : Bool) → is_digit x ≡ t → leb m most ≡ u → (m ≤ most → Reads most m xs) → Reads most n (x ∷ xs)
    go true true e f ih = rw (e, f) (ih (leb-true m most f))
    go true false e f ih =
        let over : most < value_from m xs = omega (arith, leb-false m most f, value_grows m xs) in
        rw (e, f, lt-leb (value_from m xs) most over, and-false (every is_digit xs))
    go false u e f ih = rw e

-- as many digits make less than as many tens
value_below : (n : ℕ) (s : List ℕ) → every is_digit s ≡ true → value_from n s < (n + 1) * 10 ^ length s
value_below n [] e = omega arith
value_below n (x ∷ xs) e =
    let p = both {t = is_digit x} e in
    let d : x ≤ 57 = leb-true x 57 (both {t = leb 48 x} p.0).1 in
    let v = value_below (10 * n + (x - 48)) xs p.1 in
    let q : 10 * n + (x - 48) + 1 ≤ (n + 1) * 10 = omega arith in
    let m = mul-le-mul_right (10 ^ length xs) q in
    rw (← add-one (length xs), pow_more, mul_comm (10 ^ length xs) 10, ← mul_assoc (n + 1) 10 (10 ^ length xs))
    (omega (arith, v, m))

module _ (most : ℕ) (s : List ℕ) where
  pub number_none : length s ≡ 0 → then_some (is_number most s) (digits_value s) ≡ None
  unfolding is_number is_decimal
  number_none h = rw h

  pub number_is : 0 < length s → then_some (is_number most s) (digits_value s) ≡ read_from most 0 s
  unfolding is_number is_decimal
  number_is h = rw (lt-ltb 0 (length s) h, reads most 0 s (omega arith))

-- 18 digits are no number over the most
module _ (s : List ℕ) where
  pub magnitude_none : 18 < length s → is_magnitude s ≡ false
  magnitude_none h = rw (lt-leb (length s) 18 h, and-false (is_decimal s))

  pub magnitude_is : length s ≤ 18 → is_number 999999999999999999 s ≡ is_magnitude s
  unfolding is_number is_decimal
  magnitude_is h = go (every is_digit s) refl
    where
      go : (t : Bool) → every is_digit s ≡ t
          → ((ltb 0 (length s) && every is_digit s) && leb (digits_value s) 999999999999999999)
          ≡ ((ltb 0 (length s) && every is_digit s) && leb (length s) 18)
      go true e =
          let v = value_below 0 s e in
          let m : 10 ^ length s ≤ 10 ^ 18 = pow-le-pow_right (omega arith) h in
          rw (le-leb (length s) 18 h, le-leb (digits_value s) 999999999999999999 (omega arith))
      go false e = rw (e, and-false (ltb 0 (length s)))

-- the sign of cents
module _ (s : List ℕ) where
  pub cents_minus : get_or s 0 0 ≡ 45
      → then_some (is_cents s) (cents_from s)
      ≡ then_some (is_magnitude (drop 1 s)) (neg_ℤ (pos (digits_value (drop 1 s))))
  unfolding is_cents digits_of cents_from
  cents_minus e = rw e

  pub cents_plain : (get_or s 0 0 ≡ 45 → ⊥)
      → then_some (is_cents s) (cents_from s) ≡ then_some (is_magnitude s) (pos (digits_value s))
  unfolding is_cents digits_of cents_from
  cents_plain n = rw (ne_eqb (get_or s 0 0) 45 n)

pub ruleset cents = (common_steps, ints, cents_minus, cents_plain)
