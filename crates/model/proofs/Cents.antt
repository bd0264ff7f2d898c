-- Sums of cents: the board's are the pool's; over numbers that leave a list, and over lists that grow.
use mathlib.Core.Path.{◌≡◌, refl, sym, ap, ◌∙◌, subst}
use mathlib.Core.Logic.{◌⊎◌, inl, inr}
use mathlib.Core.Bool.{false, Bool, ◌||◌, true, not}
use mathlib.Core.List.{List, ◌∷◌, [], ◌++◌, map}
use Prim.Native.Nat.{ℕ, ◌<◌, suc}
use borrow.Author.Tests.{ne_eqb, eqb-false, not-true, eqb-true}
use lib.Dec.{eqb}
use lib.IntN.{ℤ, ◌+ℤ◌, +ℤ_assoc, +ℤ_comm, +ℤ_idl, +ℤ_idr, pos}
use lib.ListN.{length, get_or}
use native.Mathlib.Omega.{arith}
use Rattle.model.specs.Basics.{is_in, pick, every}
use Rattle.model.specs.Tables.{Table}
use Rattle.model.specs.Boards.{Sent, cents_of, amount, Match, Board, message_at}
use Rattle.model.specs.Pools.{without, distinct, worth, pool_cents, cents_added, cents_matched, read_match}
use Rattle.model.proofs.Tests.{neither, either, never, both, and}
use Rattle.model.proofs.PoolLaws.{without-distinct, without_in}

-- what the board counts a message for is what the pool takes it to be worth
pub amount-worth : (t : Table) (x : Sent) → amount t x ≡ worth t x
unfolding amount
amount-worth t x = refl

pub cents-worth : (t : Table) (sent : ℕ → Sent) (ns : List ℕ) → cents_of t sent ns ≡ pool_cents t sent ns
cents-worth t sent [] = refl
cents-worth t sent (n ∷ ns) = rw (amount-worth t (sent n), cents-worth t sent ns)

-- taking out

without-none : (y : ℕ) (xs : List ℕ) → is_in y xs ≡ false → without (y ∷ []) xs ≡ xs
without-none y [] e = refl
without-none y (x ∷ xs) e =
    let q = neither {t = eqb y x} e in
    rw (ne_eqb x y (λ z. eqb-false y x q.0 (sym z))) (ap (λ (l : List ℕ). x ∷ l) (without-none y xs q.1))

without-nil : (xs : List ℕ) → without [] xs ≡ xs
without-nil [] = refl
without-nil (x ∷ xs) = ap (λ (l : List ℕ). x ∷ l) (without-nil xs)

without-two : (y : ℕ) (ys xs : List ℕ) → without ys (without (y ∷ []) xs) ≡ without (y ∷ ys) xs
without-two y ys [] = refl
without-two y ys (x ∷ xs) = go (eqb x y) (is_in x ys) refl (without-two y ys xs)
  where
    go : (u v : Bool) → is_in x ys ≡ v
        → without ys (without (y ∷ []) xs) ≡ without (y ∷ ys) xs
        → without ys (pick (u || false) (without (y ∷ []) xs) (x ∷ without (y ∷ []) xs))
        ≡ pick (u || v) (without (y ∷ ys) xs) (x ∷ without (y ∷ ys) xs)
    go true v q ih = ih
    go false true q ih = rw q ih
    go false false q ih = rw q (ap (λ (l : List ℕ). x ∷ l) ih)

swap : (a b c : ℤ) → a +ℤ (b +ℤ c) ≡ b +ℤ (a +ℤ c)
swap a b c = sym (+ℤ_assoc a b c) ∙ ap (λ (x : ℤ). x +ℤ c) (+ℤ_comm a b) ∙ +ℤ_assoc b a c

module _ (t : Table) (sent : ℕ → Sent) where
  one_out : (y : ℕ) (xs : List ℕ) → distinct xs ≡ true → is_in y xs ≡ true
      → pool_cents t sent xs ≡ worth t (sent y) +ℤ pool_cents t sent (without (y ∷ []) xs)
  one_out y [] d e = never e
  one_out y (x ∷ xs) d e =
      let p = both {t = not (is_in x xs)} d in
      go (eqb x y) refl (not-true _ p.0) (either {t = eqb y x} e) (one_out y xs p.1)
    where
      go : (u : Bool) → eqb x y ≡ u → is_in x xs ≡ false
          → (eqb y x ≡ true) ⊎ (is_in y xs ≡ true)
          → (is_in y xs ≡ true → pool_cents t sent xs ≡ worth t (sent y) +ℤ pool_cents t sent (without (y ∷ []) xs))
          → pool_cents t sent (x ∷ xs)
          ≡ worth t (sent y) +ℤ pool_cents t sent (pick (u || false) (without (y ∷ []) xs) (x ∷ without (y ∷ []) xs))
      go true q n z ih =
          let w = eqb-true x y q in
          ap (λ (k : ℕ). pool_cents t sent (k ∷ xs)) w
          ∙ ap (λ (l : List ℕ). pool_cents t sent (y ∷ l))
          (sym (without-none y xs (subst (λ (k : ℕ). is_in k xs ≡ false) w n)))
      go false q n (inl z) ih = absurd (eqb-false x y q (sym (eqb-true y x z)))
      go false q n (inr z) ih =
          ap (λ (k : ℤ). worth t (sent x) +ℤ k) (ih z)
          ∙ swap (worth t (sent x)) (worth t (sent y)) (pool_cents t sent (without (y ∷ []) xs))

  -- those that leave and those that stay
  pub some_out : (ys xs : List ℕ) → distinct ys ≡ true → distinct xs ≡ true → every (λ n. is_in n xs) ys ≡ true
      → pool_cents t sent xs ≡ pool_cents t sent ys +ℤ pool_cents t sent (without ys xs)
  some_out [] xs dy d e = sym (+ℤ_idl (pool_cents t sent (without [] xs)) ∙ ap (pool_cents t sent) (without-nil xs))
  some_out (y ∷ ys) xs dy d e =
      let p = both {t = is_in y xs} e in
      let r = both {t = not (is_in y ys)} dy in
      one_out y xs d p.0
      ∙ ap (λ (k : ℤ). worth t (sent y) +ℤ k)
      (some_out ys (without (y ∷ []) xs) r.1 (without-distinct (y ∷ []) xs d) (still ys (not-true _ r.0) p.1)
      ∙ ap (λ (l : List ℕ). pool_cents t sent ys +ℤ pool_cents t sent l) (without-two y ys xs))
      ∙ sym (+ℤ_assoc (worth t (sent y)) (pool_cents t sent ys) (pool_cents t sent (without (y ∷ ys) xs)))
    where
      still : (zs : List ℕ) → is_in y zs ≡ false → every (λ n. is_in n xs) zs ≡ true
          → every (λ n. is_in n (without (y ∷ []) xs)) zs ≡ true
      still [] n e = refl
      still (z ∷ zs) n e =
          let p = both {t = is_in z xs} e in
          let q = neither {t = eqb y z} n in
          and (without_in z (y ∷ []) xs p.0 (rw (ne_eqb z y (λ w. eqb-false y z q.0 (sym w)))))
          (still zs q.1 p.1)

  pub cents-snoc : (xs : List ℕ) (n : ℕ) → pool_cents t sent (xs ++ (n ∷ [])) ≡ pool_cents t sent xs +ℤ worth t (sent n)
  cents-snoc [] n = +ℤ_idr (worth t (sent n)) ∙ sym (+ℤ_idl (worth t (sent n)))
  cents-snoc (x ∷ xs) n =
      ap (λ (k : ℤ). worth t (sent x) +ℤ k) (cents-snoc xs n)
      ∙ sym (+ℤ_assoc (worth t (sent x)) (pool_cents t sent xs) (worth t (sent n)))

  -- the cents of all matches
  abbrev pub cents_in : List Match → ℤ
  cents_in [] = pos 0
  cents_in (m ∷ ms) = pool_cents t sent m.messages +ℤ cents_in ms

  pub cents-in-snoc : (ms : List Match) (m : Match)
      → cents_in (ms ++ (m ∷ [])) ≡ cents_in ms +ℤ pool_cents t sent m.messages
  cents-in-snoc [] m = +ℤ_idr (pool_cents t sent m.messages) ∙ sym (+ℤ_idl (pool_cents t sent m.messages))
  cents-in-snoc (x ∷ xs) m =
      ap (λ (k : ℤ). pool_cents t sent x.messages +ℤ k) (cents-in-snoc xs m)
      ∙ sym (+ℤ_assoc (pool_cents t sent x.messages) (cents_in xs) (pool_cents t sent m.messages))

pub cents-same : (t : Table) (f g : ℕ → Sent) (xs : List ℕ)
    → ((j : ℕ) → j < length xs → f (get_or xs j 0) ≡ g (get_or xs j 0)) → pool_cents t f xs ≡ pool_cents t g xs
cents-same t f g [] h = refl
cents-same t f g (x ∷ xs) h = rw (h 0 (omega arith), cents-same t f g xs (λ j l. h (suc j) (omega arith)))

pub added-snoc : (t : Table) (xs : List Sent) (x : Sent) → cents_added t (xs ++ (x ∷ [])) ≡ cents_added t xs +ℤ worth t x
added-snoc t [] x = +ℤ_idr (worth t x) ∙ sym (+ℤ_idl (worth t x))
added-snoc t (y ∷ ys) x =
    ap (λ (k : ℤ). worth t y +ℤ k) (added-snoc t ys x) ∙ sym (+ℤ_assoc (worth t y) (cents_added t ys) (worth t x))

pub matched-reads : (t : Table) (b : Board) (ms : List Match)
    → cents_matched (map (read_match t b) ms) ≡ cents_in t (λ n. (message_at b n).sent) ms
matched-reads t b [] = refl
matched-reads t b (m ∷ ms) = rw (cents-worth t (λ n. (message_at b n).sent) m.messages, matched-reads t b ms)
