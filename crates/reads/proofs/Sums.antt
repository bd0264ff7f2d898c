-- Laws of sums of cents: what a message counts for, how far from 0 an amount is, and sums within an i64.
use Rattle.std.proofs.Common.{◌≡◌, Bool, true, false, List, [], ◌∷◌, ℕ, suc, ◌+◌, ◌<◌, ◌≤◌, ltb, ℤ, pos, negsuc, ◌+ℤ◌}
use Rattle.std.proofs.Common.{neg_ℤ, ◌≤ℤ◌, length, get_or, drop, refl, arith, tests, w64, SFits}
use Rattle.std.proofs.lemmas.Int.{ints}
use Rattle.std.proofs.lemmas.List.{at_drop_more}
use lib.IntN.{sub_ℕ}
use lib.Signed.{mag}
use Rattle.model.specs.Tables.{Table}
use Rattle.model.specs.Boards.{Sent, amount, cents_of}
use Rattle.model.specs.Adds.{cents_ok}

pub cents_bound : (z : ℤ) → cents_ok z ≡ true → (neg_ℤ (pos 999999999999) ≤ℤ z) × (z ≤ℤ pos 999999999999)
cents_bound (pos a) e = search (arith, ints, tests)
cents_bound (negsuc a) e = search (arith, ints, tests)

sub-mag : (a b : ℕ) (u : Bool) → ltb a b ≡ u → mag (sub_ℕ a b) ≤ a + b
sub-mag a b true e = rw e (omega arith)
sub-mag a b false e = rw e (omega arith)

pub sum-mag : (a b : ℤ) → mag (a +ℤ b) ≤ mag a + mag b + 1
sum-mag (pos a) (pos b) = omega arith
sum-mag (pos a) (negsuc b) = omega (arith, sub-mag a (suc b) (ltb a (suc b)) refl)
sum-mag (negsuc a) (pos b) = omega (arith, sub-mag b (suc a) (ltb b (suc a)) refl)
sum-mag (negsuc a) (negsuc b) = omega arith

pub sum_fits : (a b : ℤ) → mag a ≤ 100000000000000 → mag b ≤ 100000000000000 → SFits w64 (a +ℤ b)
sum_fits a b p q = record { sfits = omega (arith, sum-mag a b) }

-- what messages were sent, by a list of cents
abbrev pub sent_by : List ℤ → ℕ → Sent
sent_by cents n = record { channel = 0; property = 0; cents = get_or cents n (pos 0); day = 0; unit = 0 }

-- sums over messages of equal cents
pub cents-alike : (t : Table) (f g : ℕ → Sent) (ns : List ℕ)
    → ((j : ℕ) → j < length ns → (f (get_or ns j 0)).cents ≡ (g (get_or ns j 0)).cents)
    → cents_of t f ns ≡ cents_of t g ns
unfolding amount
cents-alike t f g [] h = refl
cents-alike t f g (n ∷ ns) h = rw (h 0 (omega arith), cents-alike t f g ns (λ j l. h (suc j) (omega arith)))

-- the cents from place i on are those at it, and those behind it
pub cents_more : (t : Table) (cents : List ℤ) (ns : List ℕ) (i : ℕ) → i < length ns
    → cents_of t (sent_by cents) (drop i ns)
    ≡ get_or cents (get_or ns i 0) (pos 0) +ℤ cents_of t (sent_by cents) (drop (i + 1) ns)
unfolding amount
cents_more t cents ns i h = at_drop_more (cents_of t (sent_by cents)) ns i 0 h
