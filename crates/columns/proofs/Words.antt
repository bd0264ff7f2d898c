-- Laws of words of bits: their size, their parts, and their lowest bit.
use mathlib.Core.Path.{◌≡◌, refl, ◌∙◌}
use mathlib.Core.Logic.{◌≢◌, ⊎_elim}
use mathlib.Core.Bool.{Bool, true, false}
use Prim.Native.Nat.{ℕ, zero, suc, ◌+◌, ◌-◌, ◌*◌, ◌/◌, ◌%◌, ◌^◌, ◌<◌, ◌≤◌}
use native.Mathlib.Nat.{pow-zero, two-pow-succ, one-mul, mul-add, add-mul-mod_self_right, mod-eq_of_lt}
use native.Mathlib.Omega.{arith}
use lib.Pow.{pow_pos, shl_exact}
use lib.Bits.{bit_and, and_step, and_self}
use lib.Count.{count_trailing_zeros, under}
use lib.Dec.{eqb}
use Rattle.model.proofs.Tests.{same?}
use Rattle.columns.specs.Ranks.{rank_of, better, least_from}
use Rattle.columns.specs.Words.{bit, word_from, least_bit}
use Rattle.columns.proofs.Ranks.{rank-above, better-later}

pub bit_le : (b : Bool) → bit b ≤ 1
unfolding bit
bit_le true = omega arith
bit_le false = omega arith

pub bit_is : (b : Bool) → eqb (bit b) 1 ≡ b
unfolding bit
bit_is true = refl
bit_is false = refl

low_bit : (b : Bool) (n : ℕ) → (bit b + 2 * n) % 2 ≡ bit b
unfolding bit
low_bit true n = omega arith
low_bit false n = omega arith

high_bits : (b : Bool) (n : ℕ) → (bit b + 2 * n) / 2 ≡ n
unfolding bit
high_bits true n = omega arith
high_bits false n = omega arith

module _ (f : ℕ → ℕ) where
  pub word_below : ((k : ℕ) → f k ≤ 1) → (i n : ℕ) → word_from f i n < 2 ^ n
  unfolding word_from
  word_below h i zero = omega (arith, pow-zero 2)
  word_below h i (suc n) = omega (arith, h i, word_below h (suc i) n, two-pow-succ n)

  -- n bits, and m above them from number j on
  pub word-parts : (i n m l j : ℕ) → n + m ≡ l → i + n ≡ j → word_from f i l ≡ word_from f i n + word_from f j m * 2 ^ n
  unfolding word_from
  word-parts i zero m l j e g =
      let x : l ≡ m = omega arith in
      let z : i ≡ j = omega arith in
      rw (x, z, pow-zero 2) (omega arith)
  word-parts i (suc n) m zero j e g = absurd (omega arith)
  word-parts i (suc n) m (suc l) j e g =
      let a = word-parts (suc i) n m l j (omega arith) (omega arith) in
      rw (a, two-pow-succ n, mul-add (word_from f j m) (2 ^ n) (2 ^ n)) (omega arith)

  -- the lowest n of l bits
  word_low : ((k : ℕ) → f k ≤ 1) → (i n l : ℕ) → n ≤ l → word_from f i l % 2 ^ n ≡ word_from f i n
  word_low h i n l m =
      rw (word-parts i n (l - n) l (i + n) (omega arith) refl)
      (add-mul-mod_self_right (word_from f i n) (word_from f (i + n) (l - n)) (2 ^ n) ∙ mod-eq_of_lt (word_below h i n))

  -- the same bits, `at` numbers on
  pub word_same : (g : ℕ → ℕ) (at i j n : ℕ) → ((k : ℕ) → k < i + n → f k ≡ g (at + k)) → at + i ≡ j
      → word_from f i n ≡ word_from g j n
  unfolding word_from
  word_same g at i j zero h e = refl
  word_same g at i j (suc n) h e =
      rw (h i (omega arith), e, word_same g at (suc i) (suc j) n (λ k l. h k (omega arith)) (omega arith))

bit-zero : (b : Bool) → bit b ≡ 0 → b ≡ false
unfolding bit
bit-zero true e = absurd (omega arith)
bit-zero false e = refl

-- a word that is 0 has no number that passes
pub zero-none : (p : ℕ → Bool) (i n : ℕ) → word_from (λ k. bit (p k)) i n ≡ 0 → (k : ℕ) → i ≤ k → k < i + n
    → p k ≡ false
unfolding word_from
zero-none p i zero e k h l = absurd (omega arith)
zero-none p i (suc n) e k h l =
    ⊎_elim (λ x. rw (← x) (bit-zero (p i) (omega arith)))
    (λ x. zero-none p (suc i) n (omega arith) k (omega arith) (omega arith)) (same? i k)

-- no number passes
pub word_none : (p : ℕ → Bool) (i n : ℕ) → ((k : ℕ) → i ≤ k → k < i + n → p k ≡ false)
    → word_from (λ k. bit (p k)) i n ≡ 0
unfolding word_from bit
word_none p i zero h = refl
word_none p i (suc n) h =
    rw (h i (omega arith) (omega arith), word_none p (suc i) n (λ k l m. h k (omega arith) (omega arith)))

-- the lowest bit by the last digit d, t the place of the lowest bit of the others
low-under : (n w t d : ℕ) → w ≢ 0 → w % 2 ≡ d → (d ≡ 0 → (t < n) × (2 ^ t ≤ w / 2))
    → (under d t < suc n) × (2 ^ under d t ≤ w)
low-under n w t zero h e f = let z = f refl in (omega arith, omega (arith, two-pow-succ t))
low-under n w t (suc d) h e f = let z : 1 ≤ w = omega arith in (omega arith, rw (pow-zero 2) z)

-- the lowest bit is in the word
trailing-low : (n w : ℕ) → w ≢ 0 → w < 2 ^ n → (count_trailing_zeros n w < n) × (2 ^ count_trailing_zeros n w ≤ w)
unfolding count_trailing_zeros
trailing-low zero w h l = absurd (h (omega (arith, pow-zero 2)))
trailing-low (suc n) w h l =
    low-under n w (count_trailing_zeros n (w / 2)) (w % 2) h refl
    (λ e. trailing-low n (w / 2) (λ x. h (omega arith)) (omega (arith, two-pow-succ n)))

-- 1 shifted to a place in a word: nothing is shifted out
pub one_shifted : (t : ℕ) → t < 64 → (1 * 2 ^ t) % 2 ^ 64 ≡ 2 ^ t
one_shifted t h =
    let two : 1 < 2 ^ 1 = omega (arith, two-pow-succ 0, pow-zero 2) in
    shl_exact 1 t 64 two (omega arith) ∙ one-mul (2 ^ t)

-- `and-lowest` below by the last digit d, t the place of the lowest bit of the others
and-under : (w t d : ℕ) → w ≢ 0 → w % 2 ≡ d → (d ≡ 0 → 2 ^ t ≤ w / 2)
    → (d ≡ 0 → bit_and (w / 2) (w / 2 - 1) ≡ w / 2 - 2 ^ t) → bit_and w (w - 1) ≡ w - 2 ^ under d t
and-under w t zero h e l f =
    let m = l refl in
    let a : (w - 1) / 2 ≡ w / 2 - 1 = omega arith in
    let o : (w - 1) % 2 ≡ 1 = omega arith in
    and_step w (w - 1) ∙ rw (a, e, o, f refl) (omega (arith, two-pow-succ t))
and-under w t (suc d) h e l f =
    let x : w % 2 ≡ 1 = omega arith in
    let a : (w - 1) / 2 ≡ w / 2 = omega arith in
    let o : (w - 1) % 2 ≡ 0 = omega arith in
    and_step w (w - 1) ∙ rw (a, x, o, and_self (w / 2), pow-zero 2) (omega arith)

-- the bits that a word shares with one less are all but its lowest
and-lowest : (n w : ℕ) → w ≢ 0 → w < 2 ^ n → bit_and w (w - 1) ≡ w - 2 ^ count_trailing_zeros n w
unfolding count_trailing_zeros
and-lowest zero w h l = absurd (h (omega (arith, pow-zero 2)))
and-lowest (suc n) w h l =
    let less : w / 2 < 2 ^ n = omega (arith, two-pow-succ n) in
    and-under w (count_trailing_zeros n (w / 2)) (w % 2) h refl
    (λ e. (trailing-low n (w / 2) (λ x. h (omega arith)) less).1)
    (λ e. and-lowest n (w / 2) (λ x. h (omega arith)) less)

-- the lowest bit of a word of 64, and the word without it
pub lowest-bit : (w : ℕ) → w ≢ 0 → w < 2 ^ 64 → let t = count_trailing_zeros 64 w in
    (t < 64) × (0 < 2 ^ t) × (2 ^ t ≤ w) × (bit_and w (w - 1) ≡ w - 2 ^ t)
lowest-bit w h l =
    let z = trailing-low 64 w h l in
    (z.0, pow_pos (count_trailing_zeros 64 w), z.1, and-lowest 64 w h l)

module _ (day : ℕ → ℕ) where
  bit-clear : (w b i n : ℕ) → w % 2 ≡ 0 → least_bit day w b i (suc n) ≡ least_bit day (w / 2) b (suc i) n
  unfolding least_bit better
  bit-clear w b i n e = rw e

  bit-set : (w b i n : ℕ) → w % 2 ≡ 1
      → least_bit day w b i (suc n) ≡ least_bit day (w / 2) (better true (rank_of day i) b) (suc i) n
  unfolding least_bit
  bit-set w b i n e = rw e

  -- no bit is set
  pub bit-none : (b i n : ℕ) → least_bit day 0 b i n ≡ b
  unfolding least_bit better
  bit-none b i zero = refl
  bit-none b i (suc n) = bit-none b (suc i) n

  -- a best that is at most the next number stays
  bit-stays : (w b i n : ℕ) → b ≤ i → least_bit day w b i n ≡ b
  unfolding least_bit
  bit-stays w b i zero h = refl
  bit-stays w b i (suc n) h =
      let l = rank-above day i in
      rw (better-later (eqb (w % 2) 1) (rank_of day i) b (omega arith)) (bit-stays (w / 2) b (suc i) n (omega arith))

  -- the lowest bit, at place t, is number k's: the least is that of the other bits, x the best with number k weighed;
  -- where x is at most number k plus 1, it is x
  abbrev pub Turn : ℕ → ℕ → ℕ → ℕ → ℕ → ℕ → ℕ → Type 0
  Turn k b x n w i t =
      (least_bit day w b i n ≡ least_bit day (w - 2 ^ t) x i n)
      × (x ≤ k + 1 → least_bit day (w - 2 ^ t) x i n ≡ x)

  -- `bit-turn` below by the last digit d, t the place of the lowest bit of the others
  turn-under : (n w i k b x t d : ℕ) → better true (rank_of day k) b ≡ x → w % 2 ≡ d → w ≢ 0
      → (d ≡ 0 → 2 ^ t ≤ w / 2) → (d ≡ 0 → suc i + t ≡ k → Turn k b x n (w / 2) (suc i) t) → i + under d t ≡ k
      → Turn k b x (suc n) w i (under d t)
  turn-under n w i k b x t zero q e h l f y =
      let m = l refl in
      let c : (w - 2 ^ suc t) % 2 ≡ 0 = omega (arith, two-pow-succ t) in
      let z : (w - 2 ^ suc t) / 2 ≡ w / 2 - 2 ^ t = omega (arith, two-pow-succ t) in
      let r = f refl (omega arith) in (
        bit-clear w b i n e ∙ r.0 ∙ rw (bit-clear (w - 2 ^ suc t) x i n c, z),
        λ a. rw (bit-clear (w - 2 ^ suc t) x i n c, z) (r.1 a),
      )
  turn-under n w i k b x t (suc d) q e h l f y =
      let o : w % 2 ≡ 1 = omega arith in
      let c : (w - 1) % 2 ≡ 0 = omega arith in
      let z : (w - 1) / 2 ≡ w / 2 = omega arith in
      let s : i ≡ k = omega arith in
      let u : better true (rank_of day i) b ≡ x = rw s q in (
        bit-set w b i n o ∙ rw (u, pow-zero 2, bit-clear (w - 1) x i n c, z),
        λ a. rw (pow-zero 2, bit-clear (w - 1) x i n c) (bit-stays ((w - 1) / 2) x (suc i) n (omega arith)),
      )

  pub bit-turn : (n w i k b x : ℕ) → better true (rank_of day k) b ≡ x → w ≢ 0 → w < 2 ^ n
      → i + count_trailing_zeros n w ≡ k → Turn k b x n w i (count_trailing_zeros n w)
  unfolding count_trailing_zeros
  bit-turn zero w i k b x q h l e = absurd (h (omega (arith, pow-zero 2)))
  bit-turn (suc n) w i k b x q h l e =
      let less : w / 2 < 2 ^ n = omega (arith, two-pow-succ n) in
      turn-under n w i k b x (count_trailing_zeros n (w / 2)) (w % 2) q refl h
      (λ y. (trailing-low n (w / 2) (λ z. h (omega arith)) less).1)
      (λ y. bit-turn n (w / 2) (suc i) k b x q (λ z. h (omega arith)) less) e

  -- the least of the numbers of a word of m, by n bits
  bit-least : (p r : ℕ → Bool) → ((k : ℕ) → p k ≡ r k) → (b i m n : ℕ) → m ≤ n
      → least_bit day (word_from (λ k. bit (p k)) i m) b i n ≡ least_from day r b i m
  unfolding least_bit word_from least_from
  bit-least p r h b i zero n l = bit-none b i n
  bit-least p r h b i (suc m) zero l = absurd (omega arith)
  bit-least p r h b i (suc m) (suc n) l =
      rw (low_bit (p i), high_bits (p i), bit_is (p i), h i)
      (bit-least p r h (better (r i) (rank_of day i) b) (suc i) m n (omega arith))

  -- the same of the lowest m bits of a word of 64
  pub low-least : (p r : ℕ → Bool) → ((k : ℕ) → p k ≡ r k) → (b i m w : ℕ) → m ≤ 64
      → w ≡ word_from (λ k. bit (p k)) i 64 → least_bit day (w % 2 ^ m) b i 64 ≡ least_from day r b i m
  low-least p r h b i m w l e =
      rw (e, word_low (λ k. bit (p k)) (λ k. bit_le (p k)) i m 64 l) (bit-least p r h b i m 64 l)

pub word_fits : (p : ℕ → Bool) (i w : ℕ) → w ≡ word_from (λ k. bit (p k)) i 64 → w < 2 ^ 64
word_fits p i w e = rw e (word_below (λ k. bit (p k)) (λ k. bit_le (p k)) i 64)
