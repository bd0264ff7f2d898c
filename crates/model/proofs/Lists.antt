-- Laws of lists: members, all that pass, one element more, and the first that passes.
use mathlib.Core.Path.{◌≡◌, refl, sym, ◌∙◌, ap}
use mathlib.Core.Logic.{◌⊎◌, inl, inr, ◌≢◌}
use mathlib.Core.Bool.{true, false, Bool, ◌&&◌}
use mathlib.Core.List.{List, [], ◌∷◌, ◌++◌, map}
use Prim.Native.Nat.{ℕ, ◌<◌, suc, zero, ◌≤◌}
use borrow.Author.Tests.{eq-eqb, eqb-true}
use lib.Dec.{eqb}
use lib.ListN.{length, get_or, take, set, length-append, get_or-append}
use lib.Seq.{get_or-append_seam}
use native.Mathlib.Nat.{not-suc-le-zero, le_of_suc-le-suc}
use native.Mathlib.Omega.{arith}
use Rattle.model.specs.Basics.{is_in, every, first_by}
use Rattle.model.specs.Boards.{Message, no_message}
use Rattle.model.specs.Looks.{some_message}
use Rattle.model.proofs.Tests.{or_right, never, either, both, and, neither, same?}

-- members
pub nth-is_in : (xs : List ℕ) (j : ℕ) → j < length xs → is_in (get_or xs j 0) xs ≡ true
nth-is_in [] j h = absurd (not-suc-le-zero h)
nth-is_in (x ∷ xs) zero h = rw (eq-eqb x x refl)
nth-is_in (x ∷ xs) (suc j) h = or_right (eqb (get_or xs j 0) x) (nth-is_in xs j (le_of_suc-le-suc h))

pub is_in-nth : (x : ℕ) (xs : List ℕ) → is_in x xs ≡ true → (j : ℕ) × (j < length xs) × (get_or xs j 0 ≡ x)
is_in-nth x [] e = never e
is_in-nth x (y ∷ ys) e = go (either e) (is_in-nth x ys)
  where
    go : (eqb x y ≡ true) ⊎ (is_in x ys ≡ true) → (is_in x ys ≡ true → (j : ℕ) × (j < length ys) × (get_or ys j 0 ≡ x))
        → (j : ℕ) × (j < suc (length ys)) × (get_or (y ∷ ys) j 0 ≡ x)
    go (inl p) ih = (0, omega arith, sym (eqb-true x y p))
    go (inr p) ih = let r = ih p in (suc r.0, omega (arith, r.1), r.2)

pub not_in : (x : ℕ) (xs : List ℕ) → is_in x xs ≡ false → (j : ℕ) → j < length xs → get_or xs j 0 ≢ x
not_in x xs e j h q = never (sym e ∙ rw q at (nth-is_in xs j h))

-- all that pass
pub every-nth : {A : Type 0} (f : A → Bool) (xs : List A) (d : A) → every f xs ≡ true → (n : ℕ) → n < length xs
    → f (get_or xs n d) ≡ true
every-nth f [] d e n l = absurd (not-suc-le-zero l)
every-nth f (x ∷ xs) d e zero l = (both {t = f x} e).0
every-nth f (x ∷ xs) d e (suc n) l = every-nth f xs d (both {t = f x} e).1 n (le_of_suc-le-suc l)

pub nth-every : {A : Type 0} (f : A → Bool) (xs : List A) (d : A)
    → ((n : ℕ) → n < length xs → f (get_or xs n d) ≡ true) → every f xs ≡ true
nth-every f [] d g = refl
nth-every f (x ∷ xs) d g = and (g 0 (omega arith)) (nth-every f xs d (λ n l. g (suc n) (omega arith)))

pub every-each : {A : Type 0} (f : A → Bool) (xs ys : List A) → every f (xs ++ ys) ≡ (every f xs && every f ys)
every-each f [] ys = refl
every-each f (x ∷ xs) ys = go (f x) (every-each f xs ys)
  where
    go : (b : Bool) → every f (xs ++ ys) ≡ (every f xs && every f ys)
        → (b && every f (xs ++ ys)) ≡ ((b && every f xs) && every f ys)
    go true e = e
    go false e = refl

pub every_append : {A : Type 0} (f : A → Bool) (xs ys : List A) → every f xs ≡ true → every f ys ≡ true
    → every f (xs ++ ys) ≡ true
every_append f xs ys p q = every-each f xs ys ∙ and p q

-- of the first n, with one of them set, and with the next one set
pub every_set : {A : Type 0} (f : A → Bool) (n : ℕ) (s : List A) (k : ℕ) (x : A) → every f (take n s) ≡ true
    → f x ≡ true → every f (take n (set s k x)) ≡ true
every_set f zero s k x e g = refl
every_set f (suc n) [] k x e g = refl
every_set f (suc n) (y ∷ ys) zero x e g = and g (both {t = f y} e).1
every_set f (suc n) (y ∷ ys) (suc k) x e g =
    let p = both {t = f y} e in
    and p.0 (every_set f n ys k x p.1 g)

pub every-next : {A : Type 0} (f : A → Bool) (n : ℕ) (s : List A) (x : A) → every f (take n s) ≡ true
    → f x ≡ true → every f (take (suc n) (set s n x)) ≡ true
every-next f n [] x e g = refl
every-next f zero (y ∷ ys) x e g = and g refl
every-next f (suc n) (y ∷ ys) x e g =
    let p = both {t = f y} e in
    and p.0 (every-next f n ys x p.1 g)

-- what holds of each in a list holds in the list longer by one
pub snoc-all : {A : Type 0} (P : ℕ → A → Type 0) (xs : List A) (x d : A)
    → ((j : ℕ) → j < length xs → P j (get_or xs j d)) → P (length xs) x
    → (j : ℕ) → j < length (xs ++ (x ∷ [])) → P j (get_or (xs ++ (x ∷ [])) j d)
snoc-all P xs x d f p j h = go (same? j (length xs))
  where
    go : (j ≡ length xs) ⊎ (j ≢ length xs) → P j (get_or (xs ++ (x ∷ [])) j d)
    go (inl e) = rw (e, get_or-append_seam xs x [] d) p
    go (inr e) =
        let l : j < length xs = omega (arith, length-append xs (x ∷ [])) in
        rw (get_or-append xs (x ∷ []) d j l) (f j l)

-- one to one by place, and longer by one that is new
pub snoc-one : {A : Type 0} (xs : List A) (x d : A)
    → ((i j : ℕ) → i < length xs → j < length xs → get_or xs i d ≡ get_or xs j d → i ≡ j)
    → ((i : ℕ) → i < length xs → get_or xs i d ≢ x)
    → (i j : ℕ) → i < length (xs ++ (x ∷ [])) → j < length (xs ++ (x ∷ []))
    → get_or (xs ++ (x ∷ [])) i d ≡ get_or (xs ++ (x ∷ [])) j d → i ≡ j
snoc-one xs x d one fresh i j hi hj =
    snoc-all (λ i y. y ≡ get_or (xs ++ (x ∷ [])) j d → i ≡ j) xs x d
    (λ i l. snoc-all (λ j y. get_or xs i d ≡ y → i ≡ j) xs x d (λ j m. one i j l m) (λ e. absurd (fresh i l e)) j hj)
    (snoc-all (λ j y. x ≡ y → length xs ≡ j) xs x d (λ j m e. absurd (fresh j m (sym e))) (λ e. refl) j hj) i hi

-- a place of a list that was mapped
pub nth-map : {A B : Type 0} (f : A → B) (xs : List A) (k : ℕ) (x : A) (y : B) → k < length xs
    → get_or (map f xs) k y ≡ f (get_or xs k x)
nth-map f [] k x y l = absurd (not-suc-le-zero l)
nth-map f (z ∷ zs) zero x y l = refl
nth-map f (z ∷ zs) (suc k) x y l = nth-map f zs k x y (le_of_suc-le-suc l)

-- the first that passes
pub first-before : (f : ℕ → Bool) (ms : List ℕ) (j : ℕ) → j < first_by f ms → f (get_or ms j 0) ≡ false
first-before f [] j h = absurd (not-suc-le-zero h)
first-before f (m ∷ ms) j h = go (f m) refl (first-before f ms) j h
  where
    go : (t : Bool) → f m ≡ t → ((j : ℕ) → j < first_by f ms → f (get_or ms j 0) ≡ false) → (j : ℕ)
        → j < first_by f (m ∷ ms) → f (get_or (m ∷ ms) j 0) ≡ false
    go true e ih j h = absurd (not-suc-le-zero (rw (e, first_by) at h))
    go false e ih zero h = e
    go false e ih (suc j) h = ih j (le_of_suc-le-suc (rw (e, first_by) at h))

pub first_passes : (f : ℕ → Bool) (ms : List ℕ) → first_by f ms < length ms → f (get_or ms (first_by f ms) 0) ≡ true
first_passes f [] h = absurd (not-suc-le-zero h)
first_passes f (m ∷ ms) h = go (f m) refl (first_passes f ms) h
  where
    go : (t : Bool) → f m ≡ t → (first_by f ms < length ms → f (get_or ms (first_by f ms) 0) ≡ true)
        → first_by f (m ∷ ms) < suc (length ms) → f (get_or (m ∷ ms) (first_by f (m ∷ ms)) 0) ≡ true
    go true e ih h = rw (e, first_by) e
    go false e ih h = rw (e, first_by) (ih (le_of_suc-le-suc (rw (e, first_by) at h)))

pub first-in : (f : ℕ → Bool) (ms : List ℕ) (j : ℕ) → j < length ms → f (get_or ms j 0) ≡ true → first_by f ms ≤ j
first-in f [] j h e = absurd (not-suc-le-zero h)
first-in f (m ∷ ms) j h e = go (f m) refl j h e (first-in f ms)
  where
    go : (t : Bool) → f m ≡ t → (j : ℕ) → j < suc (length ms) → f (get_or (m ∷ ms) j 0) ≡ true
        → ((j : ℕ) → j < length ms → f (get_or ms j 0) ≡ true → first_by f ms ≤ j) → first_by f (m ∷ ms) ≤ j
    go true q j h e ih = rw (q, first_by) (omega arith)
    go false q zero h e ih = never (sym q ∙ e)
    go false q (suc j) h e ih = rw (q, first_by) (omega (arith, ih j (le_of_suc-le-suc h) e))

pub first-same : (f g : ℕ → Bool) (ms : List ℕ) → ((j : ℕ) → j < length ms → f (get_or ms j 0) ≡ g (get_or ms j 0))
    → first_by f ms ≡ first_by g ms
first-same f g [] e = refl
first-same f g (m ∷ ms) e = go (g m) refl (e 0 (omega arith)) (first-same f g ms (λ j l. e (suc j) (omega arith)))
  where
    go : (u : Bool) → g m ≡ u → f m ≡ g m → first_by f ms ≡ first_by g ms → first_by f (m ∷ ms) ≡ first_by g (m ∷ ms)
    go true p q ih = rw (q, p, first_by)
    go false p q ih = rw (q, p, first_by) (ap suc ih)

-- none that passes
pub none_of : (f : Message → Bool) (is : List Message) → some_message f is ≡ false → (j : ℕ) → j < length is
    → f (get_or is j no_message) ≡ false
none_of f [] e j h = absurd (not-suc-le-zero h)
none_of f (x ∷ xs) e zero h = (neither {t = f x} e).0
none_of f (x ∷ xs) e (suc j) h = none_of f xs (neither {t = f x} e).1 j (le_of_suc-le-suc h)
