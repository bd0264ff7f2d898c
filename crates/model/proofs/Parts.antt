-- Laws of parts of a list: by their places, cut from a front, mapped, stored and pasted.
use mathlib.Core.Path.{◌≡◌, refl, sym, ap, ◌∙◌}
use mathlib.Core.List.{List, [], ◌∷◌, ◌++◌, map, append-nil, append_assoc}
use Prim.Native.Nat.{ℕ, zero, suc, ◌+◌, ◌-◌, ◌*◌, ◌<◌, ◌≤◌}
use native.Mathlib.Nat.{suc-add, zero-add, add_comm, mul-suc}
use native.Mathlib.Omega.{arith}
use lib.ListN.{length, get_or, take, drop, set, replicate, length-drop, length-set, length-append, length-replicate}
use lib.Seq.{length-take-le, get_or-take, get_or-drop, take_all, take-nil, take-take, drop-drop, take-suc-set, take-length}
use lib.Seq.{take_at, drop_at, take-append-le, take-append-add, drop-append-add, get_or-append-add, sets, sets-eq}
use lib.Seq.{paste, take-paste, drop-paste}

-- n elements from place `at` on
module _ {A : Type 0} (s : List A) (at n : ℕ) where
  pub part-len : at + n ≤ length s → length (take n (drop at s)) ≡ n
  part-len h = length-take-le n (drop at s) (omega (arith, length-drop at s))

  pub part_at : (i : ℕ) (d : A) → i < n → get_or (take n (drop at s)) i d ≡ get_or s (at + i) d
  part_at i d h = get_or-take n (drop at s) i d h ∙ get_or-drop at s i d

  pub part-first : (d : A) → 0 < n → get_or (take n (drop at s)) 0 d ≡ get_or s at d
  part-first d h = let z : at + 0 ≡ at = omega arith in rw z at (part_at 0 d h)

-- a part is read off the front that holds it
pub take-drop : {A : Type 0} (a n : ℕ) (l : List A) → take n (drop a l) ≡ drop a (take (a + n) l)
take-drop zero n l = rw (zero-add n)
take-drop {A} (suc a) n [] = rw (take-nil {A = A} n, take-nil {A = A} (suc a + n))
take-drop (suc a) n (x ∷ xs) = rw (suc-add a n) (take-drop a n xs)

pub part_same : {A : Type 0} (a s n : ℕ) (l l' : List A) → a + s ≤ n → take n l ≡ take n l'
    → take s (drop a l) ≡ take s (drop a l')
part_same a s n l l' h e =
    take-drop a s l
    ∙ ap (drop a) (sym (take-take (a + s) n l h) ∙ ap (take (a + s)) e ∙ take-take (a + s) n l' h)
    ∙ sym (take-drop a s l')

-- the rest of a list, as a part
pub to_end : {A : Type 0} (s : List A) (a : ℕ) → take (length s - a) (drop a s) ≡ drop a s
to_end s a = take_all (length s - a) (drop a s) (simp length-drop (omega arith))

-- parts of k elements, one after another
pub drop-next : {A : Type 0} (k q : ℕ) (s : List A) → drop (k * q) (drop k s) ≡ drop (k * suc q) s
drop-next k q s =
    let e : k + k * q ≡ k * suc q = add_comm k (k * q) ∙ sym (mul-suc k q) in
    rw (drop-drop (k * q) k s, e)

-- more than there are is all
pub take_more : {A : Type 0} (s : List A) (k n : ℕ) → length s ≤ k → k ≤ n → take k s ≡ take n s
take_more s k n h l = take_all k s h ∙ sym (take_all n s (omega arith))

-- the front of an append, by the front of its first part
pub take_again : {A : Type 0} (n : ℕ) (p s : List A) → take n (p ++ s) ≡ take n (take n p ++ s)
take_again zero p s = refl
take_again (suc n) [] s = refl
take_again (suc n) (x ∷ p) s = cc (take_again n p s)

pub take_none : {A : Type 0} (n : ℕ) (p : List A) → take (suc n) p ≡ [] → p ≡ []
take_none n [] e = refl
take_none {A} n (x ∷ xs) e = let z = ap (length {A = A}) e in absurd (omega (arith, z))

-- how many there are, of a list that is the front of another
pub front-len : {A : Type 0} (ys xs : List A) (n : ℕ) → take n xs ≡ ys → n ≤ length xs → length ys ≡ n
front-len ys xs n e h = rw (← e) (length-take-le n xs h)

pub under-front : {A : Type 0} (ys xs : List A) (n k : ℕ) → k < length ys → take n xs ≡ ys → n ≤ length xs → k < n
under-front ys xs n k l e h = let q = front-len ys xs n e h in omega arith

-- an element of the second of two lists
pub nth-second : {A : Type 0} (vs ws : List A) (i n : ℕ) (d : A) → i ≡ length vs + n → get_or (vs ++ ws) i d ≡ get_or ws n d
nth-second vs ws i n d e = rw e (get_or-append-add vs ws n d)

-- an element set in a list that is mapped, and behind another list
pub map-set : {A B : Type 0} (f : A → B) (l : List A) (i : ℕ) (x : A) → map f (set l i x) ≡ set (map f l) i (f x)
map-set f [] i x = refl
map-set f (y ∷ ys) zero x = refl
map-set f (y ∷ ys) (suc i) x = ap (λ l. f y ∷ l) (map-set f ys i x)

pub set-behind : {A : Type 0} (p xs : List A) (at : ℕ) (x : A) → set (p ++ xs) (length p + at) x ≡ p ++ set xs at x
set-behind [] xs at x = let z : 0 + at ≡ at = omega arith in rw z
set-behind (y ∷ p) xs at x =
    let z : suc (length p) + at ≡ suc (length p + at) = omega arith in
    rw (z, set-behind p xs at x)

-- a list stored in another: mapped, after another one, and as the front ends with it
pub map-sets : {A B : Type 0} (f : A → B) (l : List A) (i : ℕ) (xs : List A)
    → map f (sets l i xs) ≡ sets (map f l) i (map f xs)
map-sets f l i [] = refl
map-sets f l i (x ∷ xs) = rw (map-sets f (set l i x) (suc i) xs, map-set)

pub sets-append : {A : Type 0} (l : List A) (i : ℕ) (xs ys : List A)
    → sets l i (xs ++ ys) ≡ sets (sets l i xs) (i + length xs) ys
sets-append l i [] ys = let z : i + 0 ≡ i = omega arith in rw z
sets-append l i (x ∷ xs) ys =
    let z : i + suc (length xs) ≡ suc i + length xs = omega arith in
    rw z (sets-append (set l i x) (suc i) xs ys)

pub take-sets : {A : Type 0} (l : List A) (i : ℕ) (xs : List A) → i + length xs ≤ length l
    → take (i + length xs) (sets l i xs) ≡ take i l ++ xs
take-sets l i [] h = let z : i + 0 ≡ i = omega arith in rw z (sym (append-nil (take i l)))
take-sets l i (x ∷ xs) h =
    let z : i + suc (length xs) ≡ suc i + length xs = omega arith in
    rw (z, take-sets (set l i x) (suc i) xs (omega (arith, length-set l i x)), take-suc-set l i x (omega arith))
    (append_assoc (take i l) (x ∷ []) xs)

-- an array that holds a list from its start, and its first content past it, reads as the list
same_at : {A : Type 0} (n j : ℕ) (a : A) → get_or (replicate n a) j a ≡ a
same_at zero j a = refl
same_at (suc n) zero a = refl
same_at (suc n) (suc j) a = same_at n j a

padded : {A : Type 0} (xs zs : List A) (a : A) → ((j : ℕ) → get_or zs j a ≡ a) → (x : ℕ)
    → get_or (xs ++ zs) x a ≡ get_or xs x a
padded [] zs a f x = f x
padded (y ∷ ys) zs a f zero = refl
padded (y ∷ ys) zs a f (suc x) = padded ys zs a f x

pub stored-reads : {A : Type 0} (xs : List A) (n x : ℕ) (a : A) → length xs ≤ n
    → get_or (sets (replicate n a) 0 xs) x a ≡ get_or xs x a
stored-reads xs n x a h =
    let l = length-replicate n a in
    let z : 0 + length xs ≡ length xs = omega arith in
    rw (sets-eq xs (replicate n a) 0 (omega arith), z)
    (padded xs (drop (length xs) (replicate n a)) a (λ j. rw (get_or-drop) (same_at n (length xs + j) a)) x)

-- a copy of n elements leaves what is before it, and has what was copied
module _ {A : Type 0} (d : List A) (at : ℕ) (s : List A) (n : ℕ) (h : at ≤ length d) where
  pub paste-front : take at (paste d at s n) ≡ take at d
  paste-front =
      rw (append_assoc (take at d) (take n s) (drop (at + n) d))
      (take_at (take at d) (take n s ++ drop (at + n) d) at (length-take-le at d h))

  pub paste-part : (k : ℕ) → n ≤ length s → k ≤ n → take k (drop at (paste d at s n)) ≡ take k s
  paste-part k l g =
      ap (λ (r : List A). take k (drop at r)) (append_assoc (take at d) (take n s) (drop (at + n) d))
      ∙ ap (take k) (drop_at (take at d) (take n s ++ drop (at + n) d) at (length-take-le at d h))
      ∙ take-append-le k (take n s) (drop (at + n) d) (omega (arith, length-take-le n s l))
      ∙ take-take k n s g

-- a whole list copied to the start
module _ {A : Type 0} (d s : List A) where
  pub paste-whole : take (length s) (paste d 0 s (length s)) ≡ s
  paste-whole =
      take_at (take (length s) s) (drop (0 + length s) d) (length s) (length-take-le (length s) s (omega arith))
      ∙ take-length s

  pub paste-rest : drop (length s) (paste d 0 s (length s)) ≡ drop (length s) d
  paste-rest =
      let z : 0 + length s ≡ length s = omega arith in
      drop_at (take (length s) s) (drop (0 + length s) d) (length s) (length-take-le (length s) s (omega arith))
      ∙ ap (λ (k : ℕ). drop k d) z

pub paste-behind : {A : Type 0} (p xs ys : List A) (at n : ℕ)
    → paste (p ++ xs) (length p + at) ys n ≡ p ++ paste xs at ys n
paste-behind {A} p xs ys at n =
    let z : length p + at + n ≡ length p + (at + n) = omega arith in
    rw (z, take-append-add p xs at, drop-append-add p xs (at + n))
    (ap (λ (x : List A). x ++ drop (at + n) xs) (append_assoc p (take at xs) (take n ys))
    ∙ append_assoc p (take at xs ++ take n ys) (drop (at + n) xs))

-- a list stored, and another copied right after it
pub sets-paste : {A : Type 0} (s xs ys : List A) (at n m : ℕ) → length xs ≡ n → length ys ≡ m → at + (n + m) ≤ length s
    → paste (sets s at xs) (at + n) ys m ≡ paste s at (xs ++ ys) (n + m)
sets-paste {A} s xs ys at n m l k h =
    let front : sets s at xs ≡ paste s at xs n =
    sets-eq xs s at (omega (arith, l)) ∙ rw (l, take_all n xs (omega (arith, l))) in
    let z : at + n + m ≡ at + (n + m) = omega arith in
    rw (
      front,
      take-paste s at xs n (omega arith) (omega (arith, l)),
      ← drop-drop m (at + n) (paste s at xs n),
      drop-paste s at xs n (omega arith) (omega (arith, l)),
      drop-drop m (at + n) s,
      take_all n xs (omega (arith, l)),
      take_all m ys (omega (arith, k)),
      take_all (n + m) (xs ++ ys) (omega (arith, l, k, length-append xs ys)),
      z,
    )
    (ap (λ (x : List A). x ++ drop (at + (n + m)) s) (append_assoc (take at s) xs ys))
