-- Laws of the least rank of those that pass: a turn, the end, two parts that meet, and what stays the best.
use mathlib.Core.Path.{◌≡◌, refl, ◌∙◌}
use mathlib.Core.Bool.{Bool, true, false, ◌&&◌, and-false}
use mathlib.Core.List.{List}
use Prim.Native.Nat.{ℕ, zero, suc, ◌+◌, ◌-◌, ◌*◌, ◌<◌, ◌≤◌}
use native.Mathlib.Numerals.{add-one}
use native.Mathlib.Omega.{arith}
use lib.Dec.{ltb}
use lib.ListN.{get_or}
use borrow.Author.Tests.{le-ltb, lt-ltb}
use Rattle.model.specs.Basics.{pick}
use Rattle.model.proofs.Tests.{by-range}
use Rattle.columns.specs.Ranks.{day_in, rank_of, better, least_from}

-- the best so far stays where x does not pass, or is no better
pub better-unless : (t : Bool) (x b : ℕ) → t ≡ false → better t x b ≡ b
unfolding better
better-unless t x b e = rw e

pub better-later : (t : Bool) (x b : ℕ) → b ≤ x → better t x b ≡ b
unfolding better
better-later t x b h = rw (le-ltb x b h, and-false t)

pub better-taken : (t : Bool) (x b : ℕ) → t ≡ true → x < b → better t x b ≡ x
unfolding better
better-taken t x b e h = rw (e, lt-ltb x b h)

pub rank_is : (keys : List ℕ) (k r : ℕ) → r ≡ get_or keys (1024 + k) 0 * 65536 + (k + 1) → r ≡ rank_of (day_in keys) k
unfolding rank_of
rank_is keys k r e = e

module _ (day : ℕ → ℕ) where
  pub rank-above : (k : ℕ) → k < rank_of day k
  unfolding rank_of
  rank-above k = omega arith

  rank-low : (k : ℕ) → rank_of day k < 65536 → rank_of day k ≡ k + 1
  unfolding rank_of
  rank-low k h = omega arith

  -- a best that becomes one of day 0 is the number's
  pub better-low : (t : Bool) (k b x : ℕ) → x ≡ better t (rank_of day k) b → 65536 ≤ b → x < 65536
      → x ≡ k + 1
  unfolding better
  better-low t k b x z f e = z ∙ go (t && ltb (rank_of day k) b) (rw z at e)
    where
      go : (u : Bool) → pick u (rank_of day k) b < 65536 → pick u (rank_of day k) b ≡ k + 1
      go true h = rank-low k h
      go false h = absurd (omega arith)

  module _ (p : ℕ → Bool) where
    -- x is the best with number i weighed
    pub least_step : (b i n x : ℕ) → i < n → x ≡ better (p i) (rank_of day i) b
        → least_from day p b i (n - i) ≡ least_from day p x (i + 1) (n - (i + 1))
    unfolding least_from
    least_step b i n x h z =
        let e : n - i ≡ suc (n - (i + 1)) = omega arith in
        rw (e, add-one i, z)

    pub least-end : (b i n : ℕ) → n ≤ i → least_from day p b i (n - i) ≡ b
    unfolding least_from
    least-end b i n h =
        let e : n - i ≡ 0 = omega arith in
        rw e

    least-parts : (b i m l n j : ℕ) → m + l ≡ n → i + m ≡ j
        → least_from day p b i n ≡ least_from day p (least_from day p b i m) j l
    unfolding least_from
    least-parts b i zero l n j e f =
        let x : n ≡ l = omega arith in
        let y : i ≡ j = omega arith in
        rw (x, y)
    least-parts b i (suc m) l zero j e f = absurd (omega arith)
    least-parts b i (suc m) l (suc n) j e f =
        least-parts (better (p i) (rank_of day i) b) (suc i) m l n j (omega arith) (omega arith)

    least-split : (b i j n : ℕ) → i ≤ j → j ≤ n
        → least_from day p b i (n - i) ≡ least_from day p (least_from day p b i (j - i)) j (n - j)
    least-split b i j n h l = least-parts b i (j - i) (n - j) (n - i) j (omega arith) (omega arith)

    -- a best that is at most the next number stays, since ranks are above their numbers
    least_stays : (b i n : ℕ) → b ≤ i → least_from day p b i n ≡ b
    unfolding least_from
    least_stays b i zero h = refl
    least_stays b i (suc n) h =
        let l = rank-above i in
        rw (better-later (p i) (rank_of day i) b (omega arith)) (least_stays b (suc i) n (omega arith))

    -- it was found at number i
    pub least_first : (b i n x : ℕ) → i < n → x ≡ better (p i) (rank_of day i) b → 65536 ≤ b
        → x < 65536 → least_from day p b i (n - i) ≡ x
    least_first b i n x h z f e =
        let l = better-low (p i) i b x z f e in
        least_step b i n x h z ∙ least_stays x (i + 1) _ (omega arith)

    -- it was found among n numbers
    least-low : (b i n : ℕ) → 65536 ≤ b → least_from day p b i n < 65536
        → least_from day p b i n ≤ i + n
    unfolding least_from
    least-low b i zero f e = absurd (omega arith)
    least-low b i (suc n) f e =
        let r = better (p i) (rank_of day i) b in
        by-range r 65536
        (λ g.
        let z = better-low (p i) i b r refl f g in
        let s = least_stays r (suc i) n (omega arith) in
        omega arith)
        (λ g. let h = least-low r (suc i) n g e in omega arith)

    -- it was found in the part up to j
    pub least-here : (b i j n r : ℕ) → i ≤ j → j ≤ n → r ≡ least_from day p b i (j - i) → 65536 ≤ b
        → r < 65536 → least_from day p b i (n - i) ≡ r
    least-here b i j n r h l e f g =
        let m = least-low b i (j - i) f (rw e at g) in
        least-split b i j n h l ∙ rw (← e) (least_stays r j (n - j) (omega arith))

    -- r is the best with the part up to j
    pub least-later : (b i j n r : ℕ) → i ≤ j → j ≤ n → r ≡ least_from day p b i (j - i)
        → least_from day p b i (n - i) ≡ least_from day p r j (n - j)
    least-later b i j n r h l e = least-split b i j n h l ∙ rw (← e)

    -- the best stays where each of n numbers leaves it
    pub least-left : (b i n : ℕ) → ((k : ℕ) → i ≤ k → k < i + n → better (p k) (rank_of day k) b ≡ b)
        → least_from day p b i n ≡ b
    unfolding least_from
    least-left b i zero h = refl
    least-left b i (suc n) h =
        rw (h i (omega arith) (omega arith)) (least-left b (suc i) n (λ k l m. h k (omega arith) (omega arith)))

    -- none of those up to j passes
    pub least_skip : (b i j n : ℕ) → i ≤ j → j ≤ n → ((k : ℕ) → i ≤ k → k < j → p k ≡ false)
        → least_from day p b i (n - i) ≡ least_from day p b j (n - j)
    least_skip b i j n h l e =
        least-split b i j n h l
        ∙ rw (least-left b i (j - i) (λ k m o. better-unless (p k) (rank_of day k) b (e k m (omega arith))))
