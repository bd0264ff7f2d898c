-- Laws of lists walked from the front: what is left from i on decides, and what is written so far stands before i.
use mathlib.Core.Path.{◌≡◌, refl, sym, ap, ◌∙◌}
use mathlib.Core.Logic.{◌⊎◌, ◌≢◌, inl, inr}
use mathlib.Core.Bool.{Bool, true, false}
use mathlib.Core.List.{List, [], ◌∷◌, ◌++◌, map, append-nil}
use Prim.Native.Nat.{ℕ, zero, suc, ◌+◌, ◌-◌, ◌<◌, ◌≤◌}
use native.Mathlib.Numerals.{add-one}
use native.Mathlib.Omega.{arith}
use borrow.Author.Tests.{eq-eqb, ne_eqb}
use lib.ListN.{length, get_or, set, take, drop, drop_of_length-le}
use lib.Seq.{drop-cons, get_or-set_same, get_or-set_other, take_all, take_at, take-suc, take-suc-set, length-take-le}
use lib.Seq.{append_snoc, sets}
use Rattle.std.specs.List.{position_or_len}
use Rattle.model.specs.Basics.{is_in, every, first_by}
use Rattle.model.proofs.Tests.{same?}

-- whether x is among those left
module _ (s : List ℕ) (i x : ℕ) where
  pub in-here : i < length s → get_or s i 0 ≡ x → is_in x (drop i s) ≡ true
  in-here h e = rw (drop-cons s i 0 h, eq-eqb x (get_or s i 0) (sym e))

  pub in-next : i < length s → get_or s i 0 ≢ x → is_in x (drop i s) ≡ is_in x (drop (i + 1) s)
  in-next h e = rw (drop-cons s i 0 h, add-one i, ne_eqb x (get_or s i 0) (λ z. e (sym z)))

  pub in-none : length s ≤ i → is_in x (drop i s) ≡ false
  in-none h = rw (drop_of_length-le s h)

-- the first of those left that passes
module _ (f : ℕ → Bool) where
  first-cons : (x : ℕ) (xs : List ℕ) (b : Bool) → f x ≡ b
      → first_by f (x ∷ xs) ≡ elim b [ true ↦ 0 | false ↦ suc (first_by f xs) ]
  first-cons x xs true e = rw (e, first_by)
  first-cons x xs false e = rw (e, first_by)

  module _ (s : List ℕ) (i : ℕ) where
    pub first-here : i < length s → f (get_or s i 0) ≡ true → i + first_by f (drop i s) ≡ i
    first-here h e = rw (drop-cons s i 0 h, first-cons (get_or s i 0) (drop (suc i) s) true e) (omega arith)

    pub first_next : i < length s → f (get_or s i 0) ≡ false
        → i + first_by f (drop i s) ≡ (i + 1) + first_by f (drop (i + 1) s)
    first_next h e =
        rw (drop-cons s i 0 h, first-cons (get_or s i 0) (drop (suc i) s) false e, add-one i) (omega arith)

    pub first-end : length s ≤ i → i + first_by f (drop i s) ≡ i
    first-end h = rw (drop_of_length-le s h, first_by) (omega arith)

-- the same as the library has it
pub first-position : (f : ℕ → Bool) (xs : List ℕ) → position_or_len f xs ≡ first_by f xs
first-position f [] = refl
first-position f (x ∷ xs) = go (f x) refl (first-position f xs)
  where
    go : (b : Bool) → f x ≡ b → position_or_len f xs ≡ first_by f xs
        → position_or_len f (x ∷ xs) ≡ first_by f (x ∷ xs)
    go true e ih = rw (e, first_by)
    go false e ih = rw (e, first_by, ih) (omega arith)

-- whether all that are left pass
module _ {A : Type 0} (p : A → Bool) (s : List A) (i : ℕ) where
  pub all-no : (d : A) → i < length s → p (get_or s i d) ≡ false → every p (drop i s) ≡ false
  all-no d h e = rw (drop-cons s i d h, e)

  pub all_yes : (d : A) → i < length s → p (get_or s i d) ≡ true → every p (drop i s) ≡ every p (drop (i + 1) s)
  all_yes d h e = rw (drop-cons s i d h, add-one i, e)

  pub all_end : length s ≤ i → every p (drop i s) ≡ true
  all_end h = rw (drop_of_length-le s h)

-- of the first n, those left
module _ {A : Type 0} (s : List A) where
  pub left_step : (z : A) (i n : ℕ) → i < n → n ≤ length s
      → take (n - i) (drop i s) ≡ get_or s i z ∷ take (n - (i + 1)) (drop (i + 1) s)
  left_step z i n h l =
      let e : n - i ≡ suc (n - (i + 1)) = omega arith in
      rw (drop-cons s i z (omega arith), e, add-one i)

  pub left-none : (i n : ℕ) → n ≤ i → take (n - i) (drop i s) ≡ []
  left-none i n h =
      let e : n - i ≡ 0 = omega arith in
      rw e

  pub left-whole : (n : ℕ) → take (n - 0) (drop 0 s) ≡ take n s
  left-whole n =
      let e : n - 0 ≡ n = omega arith in
      rw e

  module _ (f : A → Bool) (z : A) (i n : ℕ) (h : i < n) (l : n ≤ length s) where
    pub every-no : f (get_or s i z) ≡ false → every f (take (n - i) (drop i s)) ≡ false
    every-no e = rw (left_step z i n h l, e)

    pub every-yes : f (get_or s i z) ≡ true
        → every f (take (n - i) (drop i s)) ≡ every f (take (n - (i + 1)) (drop (i + 1) s))
    every-yes e = rw (left_step z i n h l, e)

  pub every-end : (f : A → Bool) (i n : ℕ) → n ≤ i → every f (take (n - i) (drop i s)) ≡ true
  every-end f i n h = rw (left-none i n h)

-- a list stored element by element: what is left to store
module _ {A : Type 0} (l xs : List A) (at i : ℕ) where
  pub fill-next : (d : A) → i < length xs
      → sets l at (drop i xs) ≡ sets (set l at (get_or xs i d)) (at + 1) (drop (i + 1) xs)
  fill-next d h = rw (drop-cons xs i d h, add-one at, add-one i)

  pub fill_end : length xs ≤ i → sets l at (drop i xs) ≡ l
  fill_end h = rw (drop_of_length-le xs h)

-- the elements below i are written, and then element i
pub set_more : {A : Type 0} (f : ℕ → A) (s : List A) (i : ℕ) (x d : A) → i < length s → x ≡ f i
    → ((k : ℕ) → k < i → get_or s k d ≡ f k) → (k : ℕ) → k < i + 1 → get_or (set s i x) k d ≡ f k
set_more f s i x d h e l k m = go (same? k i)
  where
    go : (k ≡ i) ⊎ (k ≢ i) → get_or (set s i x) k d ≡ f k
    go (inl z) = rw z (get_or-set_same s i x d h ∙ e)
    go (inr z) = get_or-set_other s i k x d z ∙ l k (omega arith)

-- a list written anew place by place
module _ {A : Type 0} (l r : List A) (i : ℕ) (e : length r ≡ length l) (q : take i r ≡ take i l) where
  pub anew-step : (d : A) → i < length l → take (i + 1) (set r i (get_or l i d)) ≡ take (i + 1) l
  anew-step d h =
      rw (add-one i, take-suc-set r i (get_or l i d) (omega arith), q) (sym (take-suc l i d h))

  pub anew-end : length l ≤ i → r ≡ l
  anew-end h = sym (take_all i r (omega arith)) ∙ q ∙ take_all i l h

-- a list written place by place that is the map of another
mapped_next : {A B : Type 0} (f : A → B) (z : A) (l : List A) (r : List B) (i : ℕ) → i < length l → length r ≡ length l
    → take i r ≡ map f (take i l) → take (suc i) (set r i (f (get_or l i z))) ≡ map f (take (suc i) l)
mapped_next f z [] r i h e q = absurd (omega arith)
mapped_next f z (x ∷ xs) [] i h e q = absurd (omega arith)
mapped_next f z (x ∷ xs) (y ∷ ys) zero h e q = refl
mapped_next f z (x ∷ xs) (y ∷ ys) (suc i) h e q =
    cc (ap (λ s. get_or s 0 y) q, mapped_next f z xs ys i (omega arith) (omega arith) (ap (drop 1) q))

module _ {A B : Type 0} (f : A → B) (l : List A) (r : List B) (i : ℕ) (e : length r ≡ length l)
    (q : take i r ≡ map f (take i l)) where
  pub mapped-step : (z : A) → i < length l → take (i + 1) (set r i (f (get_or l i z))) ≡ map f (take (i + 1) l)
  mapped-step z h = rw (add-one i) (mapped_next f z l r i h e q)

  pub mapped_end : length l ≤ i → r ≡ map f l
  mapped_end h = sym (take_all i r (omega arith)) ∙ q ∙ ap (map f) (take_all i l h)

-- a list mapped in place
pub in-place-step : {A : Type 0} (f : A → A) (z : A) (l : List A) (i : ℕ) → i < length l
    → set (map f (take i l) ++ drop i l) i (f (get_or (map f (take i l) ++ drop i l) i z))
    ≡ map f (take (suc i) l) ++ drop (suc i) l
in-place-step f z [] i h = absurd (omega arith)
in-place-step f z (y ∷ ys) zero h = refl
in-place-step f z (y ∷ ys) (suc i) h = cc (in-place-step f z ys i (omega arith))

pub in-place-end : {A : Type 0} (f : A → A) (l : List A) (i : ℕ) → length l ≤ i
    → map f (take i l) ++ drop i l ≡ map f l
in-place-end f [] zero h = refl
in-place-end f [] (suc i) h = refl
in-place-end f (y ∷ ys) zero h = absurd (omega arith)
in-place-end f (y ∷ ys) (suc i) h = cc (in-place-end f ys i (omega arith))

-- the elements of s put one after another behind the first n of an array: one more, no room for more, no more
pub carry-next : {A : Type 0} (s xs : List A) (n i : ℕ) (d : A) → n < length xs → i < length s
    → take (n + 1) (set xs n (get_or s i d)) ++ drop (i + 1) s ≡ take n xs ++ drop i s
carry-next s xs n i d h l =
    rw (
      add-one n,
      add-one i,
      take-suc-set xs n (get_or s i d) h,
      append_snoc (take n xs) (get_or s i d) (drop (suc i) s),
      drop-cons s i d l,
    )

module _ {A : Type 0} (s xs : List A) (n i most : ℕ) (h : n ≤ length xs) where
  pub carry-full : n ≡ most → take most (take n xs ++ drop i s) ≡ take n xs
  carry-full e = take_at (take n xs) (drop i s) most (length-take-le n xs h ∙ e)

  pub carry-all : n ≤ most → length s ≤ i → take most (take n xs ++ drop i s) ≡ take n xs
  carry-all l e =
      let m : length (take n xs) ≡ n = length-take-le n xs h in
      rw (drop_of_length-le s e, append-nil (take n xs)) (take_all most (take n xs) (omega (arith, m, l)))
