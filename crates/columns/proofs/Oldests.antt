-- The least rank is the rank of the oldest in the list, and there is one just if there is one in the list.
use mathlib.Core.Path.{◌≡◌, refl, ap, ◌∙◌}
use mathlib.Core.Logic.{inl, inr, ⊎_elim}
use mathlib.Core.Bool.{Bool, true, false, ◌||◌, not}
use Prim.Native.Nat.{ℕ, zero, suc, ◌+◌, ◌%◌, ◌^◌, ◌<◌, ◌≤◌}
use native.Mathlib.Omega.{arith}
use lib.Dec.{eqb, ltb}
use borrow.Author.Tests.{ne_eqb, ltb-true, ltb-false}
use Rattle.model.specs.Basics.{pick}
use Rattle.model.specs.Boards.{Message}
use Rattle.model.specs.Looks.{is_before, earlier, oldest, some_message}
use Rattle.model.proofs.Tests.{tests, tested, same?}
use Rattle.model.proofs.Oldest.{Before, before-means, means-before}
use Rattle.columns.specs.Columns.{list_from}
use Rattle.columns.specs.Firsts.{found}
use Rattle.columns.specs.Ranks.{rank_of, no_rank, better, least_from}
use Rattle.columns.proofs.Ranks.{better-unless, better-taken}

-- the oldest of n numbers from i on that pass, plus 1; 0 for none
unfoldable oldest_of : (ℕ → ℕ) → (ℕ → Bool) → ℕ → ℕ → ℕ
oldest_of day p i zero = 0
oldest_of day p i (suc n) = pick (p i) (earlier day i (oldest_of day p (suc i) n)) (oldest_of day p (suc i) n)

-- the rank of what was found, a number plus 1
abbrev rank_by : (ℕ → ℕ) → ℕ → ℕ
rank_by day zero = no_rank
rank_by day (suc k) = rank_of day k

found-earlier : (day : ℕ → ℕ) (t : Bool) (i r : ℕ) → found (pick t (earlier day i r) r) ≡ (t || found r)
found-earlier day false i r = refl
found-earlier day true i zero = refl
found-earlier day true i (suc m) = go (is_before day m i)
  where
    go : (u : Bool) → found (pick u (suc m) (suc i)) ≡ true
    go true = refl
    go false = refl

earlier-most : (day : ℕ → ℕ) (t : Bool) (i r n : ℕ) → i < n → r ≤ n → pick t (earlier day i r) r ≤ n
earlier-most day false i r n h l = l
earlier-most day true i zero n h l = h
earlier-most day true i (suc m) n h l = go (is_before day m i)
  where
    go : (u : Bool) → pick u (suc m) (suc i) ≤ n
    go true = l
    go false = h

module _ (day : ℕ → ℕ) (p : ℕ → Bool) where
  of-below : (i n : ℕ) → oldest_of day p i n ≤ i + n
  unfolding oldest_of
  of-below i zero = omega arith
  of-below i (suc n) =
      let h = of-below (suc i) n in
      earlier-most day (p i) i (oldest_of day p (suc i) n) (i + suc n) (omega arith) (omega arith)

  of-list : (g : ℕ → Message) (f : ℕ → Message → Bool) → ((k : ℕ) → f k (g k) ≡ p k) → (i n : ℕ)
      → oldest_of day p i n ≡ oldest day f i (list_from g i n)
  unfolding oldest_of oldest
  of-list g f h i zero = refl
  of-list g f h i (suc n) = rw (h i, of-list g f h (suc i) n)

  of-found : (g : ℕ → Message) (f : Message → Bool) → ((k : ℕ) → f (g k) ≡ p k) → (i n : ℕ)
      → found (oldest_of day p i n) ≡ some_message f (list_from g i n)
  unfolding oldest_of
  of-found g f h i zero = refl
  of-found g f h i (suc n) =
      rw (found-earlier day (p i) i (oldest_of day p (suc i) n), h i, of-found g f h (suc i) n)

  -- the days of these numbers decide
  same_here : (other : ℕ → ℕ) (t : Bool) (i r n : ℕ) → ((k : ℕ) → k < n → day k ≡ other k) → i < n → r ≤ n
      → pick t (earlier day i r) r ≡ pick t (earlier other i r) r
  unfolding is_before
  same_here other false i r n e h l = refl
  same_here other true i zero n e h l = refl
  same_here other true i (suc m) n e h l = rw (e m l, e i h)

  same-days : (other : ℕ → ℕ) (i n top : ℕ) → ((k : ℕ) → k < top → day k ≡ other k) → i + n ≤ top
      → oldest_of day p i n ≡ oldest_of other p i n
  unfolding oldest_of
  same-days other i zero top e h = refl
  same-days other i (suc n) top e h =
      let l = of-below (suc i) n in
      rw (← same-days other (suc i) n top e (omega arith))
      (same_here other (p i) i (oldest_of day p (suc i) n) top e (omega arith) (omega arith))

-- a lesser rank is before
rank-before : (day : ℕ → ℕ) (m n : ℕ) → m < 65536 → n < 65536 → is_before day m n ≡ ltb (rank_of day m) (rank_of day n)
unfolding rank_of
rank-before day m n h l = go (ltb (rank_of day m) (rank_of day n)) refl
  where
    less : rank_of day m < rank_of day n → Before day m n
    less a = ⊎_elim (λ e. inr (e, omega arith)) (λ e. inl (omega arith)) (same? (day m) (day n))

    not-less : rank_of day n ≤ rank_of day m → Before day m n → ⊥
    not-less a (inl b) = omega (arith, b)
    not-less a (inr b) = omega (arith, b.0, b.1)

    go : (u : Bool) → ltb (rank_of day m) (rank_of day n) ≡ u → is_before day m n ≡ u
    go true e = means-before day m n (less (ltb-true _ _ e))
    go false e =
        ⊎_elim (λ b. absurd (not-less (ltb-false _ _ e) (before-means day m n b))) (λ b. b)
        (tested (is_before day m n))

-- of two ranks the lesser, and then the best so far
better-two : (x y b : ℕ) → better true y (better true x b) ≡ better true (pick (ltb y x) y x) b
unfolding better
better-two x y b = go (ltb x b) (ltb y x) (ltb y b) refl refl refl
  where
    go : (t u v : Bool) → ltb x b ≡ t → ltb y x ≡ u → ltb y b ≡ v
        → pick (ltb y (pick t x b)) y (pick t x b) ≡ pick (ltb (pick u y x) b) (pick u y x) b
    go true true true e f g = rw (f, g)
    go true true false e f g = absurd (omega tests)
    go true false v e f g = rw (e, f)
    go false true v e f g = rw g
    go false false true e f g = absurd (omega tests)
    go false false false e f g = rw (e, g)

module _ (day : ℕ → ℕ) (p : ℕ → Bool) where
  -- number i by its test t, what was found after it, and the best so far
  rank-here : (t : Bool) (i r b : ℕ) → i < 65536 → r ≤ 65536
      → better (found r) (rank_by day r) (better t (rank_of day i) b)
      ≡ better (found (pick t (earlier day i r) r)) (rank_by day (pick t (earlier day i r) r)) b
  rank-here false i r b h l = rw (better-unless false (rank_of day i) b refl)
  rank-here true i zero b h l = better-unless false no_rank _ refl
  rank-here true i (suc m) b h l =
      better-two (rank_of day i) (rank_of day m) b
      ∙ go (is_before day m i) (rank-before day m i (omega arith) h)
    where
      go : (u : Bool) → u ≡ ltb (rank_of day m) (rank_of day i)
          → better true (pick (ltb (rank_of day m) (rank_of day i)) (rank_of day m) (rank_of day i)) b
          ≡ better (found (pick u (suc m) (suc i))) (rank_by day (pick u (suc m) (suc i))) b
      go true e = rw (← e)
      go false e = rw (← e)

  least-from : (b i n : ℕ) → i + n ≤ 65536
      → least_from day p b i n ≡ better (found (oldest_of day p i n)) (rank_by day (oldest_of day p i n)) b
  unfolding least_from oldest_of better
  least-from b i zero h = refl
  least-from b i (suc n) h =
      let l = of-below day p (suc i) n in
      least-from (better (p i) (rank_of day i) b) (suc i) n (omega arith)
      ∙ rank-here (p i) i (oldest_of day p (suc i) n) b (omega arith) (omega arith)

  number_by : (r : ℕ) → r < 65536 → rank_by day r % 65536 ≡ r
  unfolding rank_of
  number_by zero h = refl
  number_by (suc k) h = omega arith

  module _ (n : ℕ) (few : n < 65536) (days : (k : ℕ) → day k < 2 ^ 32) where
    rank-some : (k : ℕ) → k < n → rank_of day k < no_rank
    unfolding rank_of
    rank-some k h = let d = days k in omega arith

    least-all : least_from day p no_rank 0 n ≡ rank_by day (oldest_of day p 0 n)
    least-all = least-from no_rank 0 n (omega arith) ∙ go (oldest_of day p 0 n) (of-below day p 0 n)
      where
        go : (r : ℕ) → r ≤ 0 + n → better (found r) (rank_by day r) no_rank ≡ rank_by day r
        go zero h = better-unless false no_rank no_rank refl
        go (suc k) h = better-taken true (rank_of day k) no_rank refl (rank-some k (omega arith))

    rank-found : (r : ℕ) → r ≤ 0 + n → not (eqb (rank_by day r) no_rank) ≡ found r
    rank-found zero h = refl
    rank-found (suc k) h =
        rw (ne_eqb (rank_of day k) no_rank (λ e. let a = rank-some k (omega arith) in omega arith))

    -- the number, plus 1, of the least rank: it is one of them
    pub least-number : least_from day p no_rank 0 n % 65536 ≤ n
    least-number =
        let l = of-below day p 0 n in
        rw (least-all, number_by (oldest_of day p 0 n) (omega arith)) (omega arith)

    -- and the oldest in the list
    pub least-oldest : (g : ℕ → Message) (f : ℕ → Message → Bool) → ((k : ℕ) → f k (g k) ≡ p k) → (other : ℕ → ℕ)
        → ((k : ℕ) → k < n → day k ≡ other k)
        → least_from day p no_rank 0 n % 65536 ≡ oldest other f 0 (list_from g 0 n)
    least-oldest g f h other e =
        let m = of-below day p 0 n in
        ap (λ x. x % 65536) least-all ∙ number_by (oldest_of day p 0 n) (omega arith)
        ∙ same-days day p other 0 n n e (omega arith) ∙ of-list other p g f h 0 n

    pub least-found : (g : ℕ → Message) (f : Message → Bool) → ((k : ℕ) → f (g k) ≡ p k)
        → not (eqb (least_from day p no_rank 0 n) no_rank) ≡ some_message f (list_from g 0 n)
    least-found g f h =
        ap (λ x. not (eqb x no_rank)) least-all ∙ rank-found (oldest_of day p 0 n) (of-below day p 0 n)
        ∙ of-found day p g f h 0 n
