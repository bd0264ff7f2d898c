-- Laws of tests and of refusals.
use mathlib.Core.Path.{◌≡◌, subst, sym, refl}
use mathlib.Core.Logic.{◌⊎◌, inl, inr, ◌≢◌, ⊎_elim}
use mathlib.Core.Bool.{false, true, Bool, ◌&&◌, ◌||◌, not}
use Prim.Native.Nat.{ℕ, zero, suc, ◌<◌, ◌≤◌}
use borrow.Author.Tests.{eqb-true, eqb-false, ltb-true, ltb-false, leb-true, leb-false, eq-eqb, ne_eqb, lt-leb, le-leb}
use lib.Dec.{T, eqb, ltb, leb}
use native.Mathlib.Omega.{arith}
use mir.Val.{bool_byte}
use Rattle.model.specs.Basics.{unless, first_of, flag}

pub never : {X : Type 0} → false ≡ true → X
never e = absurd (subst T (sym e) tt)

pub both : {t u : Bool} → (t && u) ≡ true → (t ≡ true) × (u ≡ true)
both {t} {u} e = go t u e
  where
    go : (t u : Bool) → (t && u) ≡ true → (t ≡ true) × (u ≡ true)
    go true u e = (refl, e)
    go false u e = never e

pub and : {t u : Bool} → t ≡ true → u ≡ true → (t && u) ≡ true
and p q = rw p q

pub either : {t u : Bool} → (t || u) ≡ true → (t ≡ true) ⊎ (u ≡ true)
either {t} {u} e = go t u e
  where
    go : (t u : Bool) → (t || u) ≡ true → (t ≡ true) ⊎ (u ≡ true)
    go true u e = inl refl
    go false u e = inr e

pub or_right : (t : Bool) {u : Bool} → u ≡ true → (t || u) ≡ true
or_right true e = refl
or_right false e = e

pub no_true : {t : Bool} → t ≡ false → not t ≡ true
no_true e = rw e

pub other-false : (u v : Bool) → (u && v) ≡ false → u ≡ true → v ≡ false
other-false true v e f = e
other-false false v e f = never f

pub neither : {t u : Bool} → (t || u) ≡ false → (t ≡ false) × (u ≡ false)
neither {t} {u} e = go t u e
  where
    go : (t u : Bool) → (t || u) ≡ false → (t ≡ false) × (u ≡ false)
    go true u e = never (sym e)
    go false u e = (refl, e)

pub or-not : (t u : Bool) → (t || not u) ≡ not (not t && u)
or-not true u = refl
or-not false u = refl

-- a test that holds where those before it, and the last, do
pub and-spare : (t u e : Bool) → (t ≡ true → e ≡ true) → (t && (u && e)) ≡ (t && u)
and-spare true true e h = h refl
and-spare true false e h = refl
and-spare false u e h = refl

pub and-spare-last : (t u e v : Bool) → (t ≡ true → v ≡ true → e ≡ true) → ((t && (u && e)) && v) ≡ ((t && u) && v)
and-spare-last true true true v h = refl
and-spare-last true true false true h = h refl refl
and-spare-last true true false false h = refl
and-spare-last true false e v h = refl
and-spare-last false u e v h = refl

-- a Boolean is true or false, with the equation
-- two tests that stand for the same
pub same_test : {t u : Bool} → (t ≡ true → u ≡ true) → (u ≡ true → t ≡ true) → t ≡ u
same_test {t} {u} f g = go t u f g
  where
    go : (t u : Bool) → (t ≡ true → u ≡ true) → (u ≡ true → t ≡ true) → t ≡ u
    go true u f g = sym (f refl)
    go false true f g = g refl
    go false false f g = refl

pub tested : (t : Bool) → (t ≡ true) ⊎ (t ≡ false)
tested true = inl refl
tested false = inr refl

pub same? : (m n : ℕ) → (m ≡ n) ⊎ (m ≢ n)
same? m n = go (eqb m n) refl
  where
    go : (t : Bool) → eqb m n ≡ t → (m ≡ n) ⊎ (m ≢ n)
    go true e = inl (eqb-true m n e)
    go false e = inr (eqb-false m n e)

-- a number is in range or past it
pub by-range : {P : Type 0} (n limit : ℕ) → (n < limit → P) → (limit ≤ n → P) → P
by-range {P} n limit below past = go (ltb n limit) refl
  where
    go : (u : Bool) → ltb n limit ≡ u → P
    go true e = below (ltb-true n limit e)
    go false e = past (ltb-false n limit e)

pub eqb_no : (a b : ℕ) → eqb a b ≡ false → a ≢ b
eqb_no a b e = eqb-false a b e

pub ruleset tests = (arith, eqb-true, eqb_no, ltb-true, ltb-false, leb-true, leb-false)

-- a number that is one of two
pub one_of : (n a b : ℕ) → (eqb n a || eqb n b) ≡ true → (n ≡ a) ⊎ (n ≡ b)
one_of n a b e = ⊎_elim (λ p. inl (eqb-true n a p)) (λ p. inr (eqb-true n b p)) (either e)

pub of_one : (n a b : ℕ) → (n ≡ a) ⊎ (n ≡ b) → (eqb n a || eqb n b) ≡ true
of_one n a b (inl e) = rw (eq-eqb n a e)
of_one n a b (inr e) = or_right (eqb n a) (eq-eqb n b e)

-- zero is the least number
pub leb-zero : (n : ℕ) → leb n 0 ≡ eqb n 0
leb-zero n = ⊎_elim (λ e. rw e) (λ e. rw (ne_eqb n 0 e, lt-leb n 0 (omega arith))) (same? n 0)

pub zero-fits : (n most : ℕ) → (leb n most && eqb n 0) ≡ eqb n 0
zero-fits n most = ⊎_elim (λ e. rw (le-leb n most (omega (arith, e)))) (λ e. go (leb n most) e) (same? n 0)
  where
    go : (u : Bool) → n ≢ 0 → (u && eqb n 0) ≡ eqb n 0
    go true e = refl
    go false e = rw (ne_eqb n 0 e)

pub zero-or-fits : (n most : ℕ) → (eqb n 0 || leb n most) ≡ leb n most
zero-or-fits n most =
    ⊎_elim (λ e. rw (eq-eqb n 0 e, le-leb n most (omega (arith, e)))) (λ e. rw (ne_eqb n 0 e)) (same? n 0)

-- a chain of refusals that gives none
pub unless-none : (u : Bool) (n next : ℕ) → unless u (suc n) next ≡ 0 → (u ≡ true) × (next ≡ 0)
unless-none true n next e = (refl, e)
unless-none false n next e = absurd (omega arith)

pub first-none : (n next : ℕ) → first_of n next ≡ 0 → (n ≡ 0) × (next ≡ 0)
first-none zero next e = (refl, e)
first-none (suc n) next e = absurd (omega arith)

-- a first refusal is the one that is given
pub refused-first : (n next : ℕ) → n ≢ 0 → n ≡ first_of n next
refused-first zero next h = absurd (h refl)
refused-first (suc n) next h = refl

pub all-four : (a b c d : Bool)
    → (a && (b && (c && d))) ≡ true → (a ≡ true) × (b ≡ true) × (c ≡ true) × (d ≡ true)
all-four a b c d e =
    let p = both {t = a} e in
    let q = both {t = b} p.1 in
    let r = both {t = c} q.1 in
    (p.0, q.0, r.0, r.1)

-- a yes or no as a number
pub byte_flag : (b : Bool) → bool_byte b ≡ flag b
byte_flag true = refl
byte_flag false = refl

pub flag-le : (b : Bool) → flag b ≤ 1
flag-le true = omega arith
flag-le false = omega arith

pub flag_small : (b : Bool) → leb (flag b) 1 ≡ true
flag_small b = le-leb (flag b) 1 (flag-le b)

pub flag-read : (b : Bool) → eqb (flag b) 1 ≡ b
flag-read true = refl
flag-read false = refl

pub flag-byte : (k : ℕ) → k ≤ 1 → flag (eqb k 1) ≡ k
flag-byte zero h = refl
flag-byte (suc zero) h = refl
flag-byte (suc (suc k)) h = absurd (omega arith)
