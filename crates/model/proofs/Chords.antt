-- Laws of a table's chords: those that name a channel, the first synchronous member, and the places other than it.
use mathlib.Core.Path.{◌≡◌, refl}
use mathlib.Core.Logic.{◌⊎◌, ◌≢◌, inl, inr}
use mathlib.Core.Bool.{not, false, Bool, true, ◌&&◌}
use Prim.Native.Nat.{◌-◌, ℕ, ◌≤◌, ◌<◌, zero, suc, ◌+◌}
use borrow.Author.Tests.{lt-ltb, ltb-true, not-true, ltb-false}
use lib.Dec.{ltb}
use lib.ListN.{length}
use native.Mathlib.Omega.{arith}
use Rattle.model.specs.Basics.{is_in}
use Rattle.model.specs.Tables.{naming, Table, naming_up_to, chord_at, first_sync, size, is_sync, channel_at, wakes}
use Rattle.model.specs.Steps.{skip}
use Rattle.model.proofs.Tests.{same?, both}
use Rattle.model.proofs.Lists.{first_passes}

naming-not : (t : Table) (channel from n q : ℕ) → from ≤ q → q < naming_up_to t channel from n
    → is_in channel (chord_at t q).channels ≡ false
naming-not t channel from zero q l h = absurd (omega arith)
naming-not t channel from (suc n) q l h =
    go (is_in channel (chord_at t from).channels) refl (same? from q) h (naming-not t channel (suc from) n q)
  where
    go : (u : Bool) → is_in channel (chord_at t from).channels ≡ u → (from ≡ q) ⊎ (from ≢ q)
        → q < naming_up_to t channel from (suc n)
        → (suc from ≤ q → q < naming_up_to t channel (suc from) n → is_in channel (chord_at t q).channels ≡ false)
        → is_in channel (chord_at t q).channels ≡ false
    go true e d h ih = let z : q < from = rw (e, naming_up_to) at h in absurd (omega arith)
    go false e (inl d) h ih = rw (← d) e
    go false e (inr d) h ih = ih (omega arith) (rw (e, naming_up_to) at h)

naming-yes : (t : Table) (channel from n : ℕ) → naming_up_to t channel from n < from + n
    → is_in channel (chord_at t (naming_up_to t channel from n)).channels ≡ true
naming-yes t channel from zero h = absurd (omega arith)
naming-yes t channel from (suc n) h =
    go (is_in channel (chord_at t from).channels) refl h (naming-yes t channel (suc from) n)
  where
    go : (u : Bool) → is_in channel (chord_at t from).channels ≡ u → naming_up_to t channel from (suc n) < from + suc n
        → (naming_up_to t channel (suc from) n < suc from + n → is_in channel
        (chord_at t (naming_up_to t channel (suc from) n)).channels ≡ true)
        → is_in channel (chord_at t (naming_up_to t channel from (suc n))).channels ≡ true
    go true e h ih = rw (e, naming_up_to) e
    go false e h ih =
        rw (e, naming_up_to)
        (ih (let z : naming_up_to t channel (suc from) n < from + suc n = rw (e, naming_up_to) at h in omega arith))

naming-le : (t : Table) (channel from n : ℕ) → from ≤ naming_up_to t channel from n
naming-le t channel from zero = omega arith
naming-le t channel from (suc n) = go (is_in channel (chord_at t from).channels) refl (naming-le t channel (suc from) n)
  where
    go : (u : Bool) → is_in channel (chord_at t from).channels ≡ u → suc from ≤ naming_up_to t channel (suc from) n
        → from ≤ naming_up_to t channel from (suc n)
    go true e ih = rw (e, naming_up_to) (omega arith)
    go false e ih = rw (e, naming_up_to) (omega arith)

pub names-le : (t : Table) (channel from : ℕ) → from ≤ naming t channel from
unfolding naming
names-le t channel from = naming-le t channel from (length t.chords - from)

pub names-not : (t : Table) (channel from q : ℕ) → from ≤ q → q < naming t channel from
    → is_in channel (chord_at t q).channels ≡ false
unfolding naming
names-not t channel from q l h = naming-not t channel from (length t.chords - from) q l h

pub names-yes : (t : Table) (channel from : ℕ) → naming t channel from < length t.chords
    → is_in channel (chord_at t (naming t channel from)).channels ≡ true
unfolding naming
names-yes t channel from h =
    naming-yes t channel from (length t.chords - from)
    (omega (arith, naming-le t channel from (length t.chords - from)))

pub first-waits : (t : Table) (r : ℕ) → first_sync t r < size t r → is_sync t (channel_at t r (first_sync t r)) ≡ true
unfolding first_sync
first-waits t r l = first_passes (is_sync t) (chord_at t r).channels l

pub wakes-if : (t : Table) (r channel : ℕ) → is_sync t channel ≡ false → first_sync t r < size t r
    → wakes t r channel ≡ true
unfolding wakes
wakes-if t r channel s f =
    let e : (not (is_sync t channel) && ltb (first_sync t r) (size t r)) ≡ true
    = rw (s, lt-ltb (first_sync t r) (size t r) f) in
    e

pub wakes-first : (t : Table) (r channel : ℕ) → wakes t r channel ≡ true
    → (first_sync t r < size t r) × (is_sync t channel ≡ false)
unfolding wakes
wakes-first t r channel e = let p = both {t = not (is_sync t channel)} e in (ltb-true _ _ p.1, not-true _ p.0)

pub skipped : (f k : ℕ) → ((k < f) × (skip f k ≡ k)) ⊎ ((f ≤ k) × (skip f k ≡ suc k))
unfolding skip
skipped f k = go (ltb k f) refl
  where
    go : (u : Bool) → ltb k f ≡ u → ((k < f) × (skip f k ≡ k)) ⊎ ((f ≤ k) × (skip f k ≡ suc k))
    go true e = inl (ltb-true k f e, rw (e, skip))
    go false e = inr (ltb-false k f e, rw (e, skip))
