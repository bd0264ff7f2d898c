-- Laws of words of bits: the word without one number, and without those of a list.
use mathlib.Core.Path.{◌≡◌, refl, sym, ◌∙◌}
use mathlib.Core.Logic.{◌≢◌}
use mathlib.Core.Bool.{Bool, true, false, ◌&&◌, ◌||◌, not, and-true, and-false, and_assoc}
use mathlib.Core.List.{List, []}
use Prim.Native.Nat.{ℕ, zero, suc, ◌+◌, ◌-◌, ◌*◌, ◌/◌, ◌%◌, ◌^◌, ◌<◌, ◌≤◌}
use native.Mathlib.Nat.{add_comm, add-mul, one-mul, le-div_iff_mul-le}
use native.Mathlib.Numerals.{add-one}
use native.Mathlib.Omega.{arith}
use borrow.Author.Tests.{eq-eqb, ne_eqb}
use lib.Dec.{eqb}
use lib.ListN.{length, get_or, take}
use lib.Pow.{pow_pos, high}
use lib.Seq.{take-suc}
use Rattle.model.specs.Basics.{is_in}
use Rattle.model.proofs.PoolLaws.{in-snoc}
use Rattle.columns.specs.Firsts.{unchosen}
use Rattle.columns.specs.Words.{bit, word_from}
use Rattle.columns.proofs.Words.{bit_le, word_below, word-parts}

abbrev word : (ℕ → Bool) → ℕ → ℕ → ℕ
word p = word_from (λ k. bit (p k))

-- tests that agree from number i on
word-as : (p q : ℕ → Bool) (i n : ℕ) → ((j : ℕ) → i ≤ j → j < i + n → p j ≡ q j) → word p i n ≡ word q i n
unfolding word_from
word-as p q i zero h = refl
word-as p q i (suc n) h =
    rw (h i (omega arith) (omega arith), word-as p q (suc i) n (λ j l m. h j (omega arith) (omega arith)))

-- passes, and is not number k
abbrev pub but : (ℕ → Bool) → ℕ → ℕ → Bool
but p k j = p j && not (eqb j k)

but-other : (p : ℕ → Bool) (k j : ℕ) → j ≢ k → but p k j ≡ p j
but-other p k j h = rw (ne_eqb j k h) (and-true (p j))

but-own : (p : ℕ → Bool) (k : ℕ) → but p k k ≡ false
but-own p k = rw (eq-eqb k k refl) (and-false (p k))

-- a number less the digit d above t others
digit-off : (w l x h t d : ℕ) → x ≤ 1 → l < 2 ^ t → w ≡ l + (x + 2 * h) * 2 ^ t → (w / 2 ^ t) % 2 ≡ d
    → w - d * 2 ^ t ≡ l + (0 + 2 * h) * 2 ^ t
digit-off w l x h t d f g e q =
    let y : w / 2 ^ t ≡ x + 2 * h = rw (e, add_comm l) (high (x + 2 * h) t g) in
    let o : d ≡ x = omega arith in
    let z : 0 + 2 * h ≡ 2 * h = omega arith in
    rw (o, e, z, add-mul x (2 * h) (2 ^ t)) (omega arith)

-- number k is not among n numbers from i on
pub but-none : (p : ℕ → Bool) (k i n : ℕ) → ((j : ℕ) → i ≤ j → j < i + n → j ≢ k) → word (but p k) i n ≡ word p i n
but-none p k i n h = word-as (but p k) p i n (λ j l m. but-other p k j (h j l m))

-- it is, at place t: t bits below its own, the others above
word_at : (p : ℕ → Bool) (k i n t : ℕ) → t < n → i + t ≡ k
    → word p i n ≡ word p i t + (bit (p k) + 2 * word p (suc k) (n - suc t)) * 2 ^ t
unfolding word_from
word_at p k i n t h e = word-parts (λ j. bit (p j)) i t (suc (n - suc t)) n k (omega arith) e

-- its digit is taken from the word
pub but-one : (p : ℕ → Bool) (k i n t w d : ℕ) → t < n → i + t ≡ k → w ≡ word p i n → (w / 2 ^ t) % 2 ≡ d
    → w - d * 2 ^ t ≡ word (but p k) i n
unfolding bit
but-one p k i n t w d h e f q =
    let m = n - suc t in
    let low = but-none p k i t (λ j l g. omega arith) in
    let up = but-none p k (suc k) m (λ j l g. omega arith) in
    digit-off w (word p i t) (bit (p k)) (word p (suc k) m) t d (bit_le (p k))
    (word_below (λ j. bit (p j)) (λ j. bit_le (p j)) i t) (f ∙ word_at p k i n t h e) q
    ∙ sym (word_at (but p k) k i n t h e ∙ rw (low, up, but-own p k))

-- a digit that is not 0
pub digit-in : (w t : ℕ) → (w / 2 ^ t) % 2 ≢ 0 → 2 ^ t ≤ w
digit-in w t h =
    let l : 1 ≤ w / 2 ^ t = omega arith in
    rw (one-mul (2 ^ t)) at ((le-div_iff_mul-le (pow_pos t)).0 l)

neither-nor : (t u : Bool) → not (t || u) ≡ (not t && not u)
neither-nor true u = refl
neither-nor false u = refl

-- without the first i of a list, none of it and one more
pub chosen_none : (p : ℕ → Bool) (i n : ℕ) → word p i n ≡ word (λ j. p j && unchosen [] j) i n
unfolding unchosen
chosen_none p i n = word-as _ _ i n (λ j l m. sym (and-true (p j)))

pub chosen_more : (p : ℕ → Bool) (s : List ℕ) (i at n : ℕ) → i < length s
    → word (but (λ j. p j && unchosen (take i s) j) (get_or s i 0)) at n
    ≡ word (λ j. p j && unchosen (take (i + 1) s) j) at n
unfolding unchosen
chosen_more p s i at n h =
    word-as _ _ at n
    (λ j l m. and_assoc (p j) _ _
    ∙ rw (add-one i, take-suc s i 0 h, in-snoc j (get_or s i 0) (take i s), neither-nor (is_in j (take i s))))
