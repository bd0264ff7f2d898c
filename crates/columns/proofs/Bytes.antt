-- Laws of bytes that are each a yes or no at its place among eight, and of their word by eights.
use mathlib.Core.Path.{◌≡◌, refl, sym, ◌∙◌}
use mathlib.Core.Bool.{Bool, true, false, not}
use mathlib.Core.List.{List}
use Prim.Native.Nat.{ℕ, ◌+◌, ◌*◌, ◌%◌, ◌^◌, ◌<◌, ◌≤◌}
use native.Mathlib.Nat.{pow-zero, two-pow-succ, lt_of_lt_of_le}
use native.Mathlib.Omega.{arith}
use lib.Pow.{pow_pos, pow_mono, shl_exact}
use lib.Dec.{eqb}
use lib.ListN.{get_or}
use borrow.Author.Tests.{ne_eqb}
use Rattle.columns.specs.Words.{bit, word_from, placed, is_yes, Marks, word_of}
use Rattle.columns.proofs.Words.{bit_le, word_below, word-parts}

-- a yes or no shifted to its place among eight: nothing is shifted out
pub placed-is : (b : Bool) (k : ℕ) → (bit b * 2 ^ (k % 8)) % 2 ^ 8 ≡ placed b k
unfolding placed
placed-is b k = shl_exact 1 (k % 8) 8 (let h = bit_le b in omega (arith, two-pow-succ 0, pow-zero 2)) (omega arith)

placed-yes : (b : Bool) (k : ℕ) → not (eqb (placed b k) 0) ≡ b
unfolding placed bit
placed-yes true k = let h = pow_pos (k % 8) in rw (ne_eqb (1 * 2 ^ (k % 8)) 0 (λ e. omega arith))
placed-yes false k = let z : 0 * 2 ^ (k % 8) ≡ 0 = omega arith in rw z

module _ (y : List ℕ) where
  -- bytes that are the placed answers of a test
  module _ (p : ℕ → Bool) (h : (k : ℕ) → k < 64 → get_or y k 0 ≡ placed (p k) k) where
    pub yes-is : (k : ℕ) → k < 64 → is_yes y k ≡ p k
    unfolding is_yes
    yes-is k l = rw (h k l) (placed-yes (p k) k)

    pub marks-are : Marks y
    marks-are k l = rw (yes-is k l) (h k l)

  pub word_fits : (i n m : ℕ) → n ≤ m → word_of y i n < 2 ^ m
  word_fits i n m h = lt_of_lt_of_le (word_below _ (λ k. bit_le (is_yes y k)) i n) (pow_mono h)

  -- byte k, the i-th of its eight, added to those before it
  pub byte_more : (p i k : ℕ) → p + i ≡ k → k % 8 ≡ i → get_or y k 0 ≡ placed (is_yes y k) k
      → word_of y p i + get_or y k 0 ≡ word_of y p (i + 1)
  unfolding placed word_from
  byte_more p i k e m h =
      let z : bit (is_yes y k) + 2 * 0 ≡ bit (is_yes y k) = omega arith in
      rw (h, m) (sym (word-parts _ p i 1 (i + 1) k refl e ∙ rw z))

  -- eight bits, shifted above p bits: nothing is shifted out
  pub eight-more : (p x : ℕ) → p + 8 ≤ 64 → x ≡ word_of y p 8
      → word_of y 0 p + (x * 2 ^ p) % 2 ^ 64 ≡ word_of y 0 (p + 8)
  eight-more p x h e =
      rw (e, shl_exact {a = word_of y p 8} 8 p 64 (word_fits p 8 8 (omega arith)) (omega arith))
      (sym (word-parts _ 0 p 8 (p + 8) p refl (omega arith)))
