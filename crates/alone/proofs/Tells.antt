-- How many a job has to tell: never its subject, and none where the subject is asynchronous and matches.
use mathlib.Core.Path.{◌≡◌, refl, sym, ◌∙◌}
use mathlib.Core.Logic.{◌⊎◌, inl, inr}
use mathlib.Core.Bool.{Bool, true, false, ◌&&◌, not}
use mathlib.Core.List.{List, [], ◌∷◌}
use Prim.Native.Nat.{ℕ, suc, ◌≤◌, ◌<◌}
use borrow.Author.Tests.{eq-eqb, eqb-true}
use lib.Dec.{eqb}
use lib.ListN.{length, get_or}
use native.Mathlib.Omega.{arith}
use Rattle.model.specs.Basics.{is_in}
use Rattle.model.specs.Tables.{Table, is_sync, wakes, first_sync, channel_at, chord_at}
use Rattle.model.specs.Boards.{Board, Message, no_message, channel_of}
use Rattle.model.specs.Steps.{to_tell, keep_if}
use Rattle.model.proofs.Tests.{never, either, tested}
use Rattle.model.proofs.Lists.{first-in}
use Rattle.model.proofs.Chords.{wakes-if}
use Rattle.model.proofs.Local.{Full}

tells-few : (t : Table) (is : List Message) (h : ℕ) (ns : List ℕ) → length (to_tell t is h ns) ≤ length ns
tells-few t is h [] = omega arith
tells-few t is h (n ∷ ns) =
    go (is_sync t (get_or is n no_message).sent.channel && not (eqb n h)) (tells-few t is h ns)
  where
    go : (u : Bool) → length (to_tell t is h ns) ≤ length ns → length (keep_if u n (to_tell t is h ns)) ≤ suc (length ns)
    go true l = omega arith
    go false l = omega arith

pub not-subject : (t : Table) (is : List Message) (h : ℕ) (ns : List ℕ) → is_in h ns ≡ true
    → length (to_tell t is h ns) < length ns
not-subject t is h [] e = never e
not-subject t is h (n ∷ ns) e = at (either {t = eqb h n} e) (λ z. not-subject t is h ns z)
  where
    few : (u v : Bool) → (v ≡ true) ⊎ (length (to_tell t is h ns) < length ns)
        → length (keep_if (u && not v) n (to_tell t is h ns)) < suc (length ns)
    few true true z = omega (arith, tells-few t is h ns)
    few true false (inl z) = never z
    few true false (inr z) = omega arith
    few false v z = omega (arith, tells-few t is h ns)

    at : (eqb h n ≡ true) ⊎ (is_in h ns ≡ true) → (is_in h ns ≡ true → length (to_tell t is h ns) < length ns)
        → length (to_tell t is h (n ∷ ns)) < suc (length ns)
    at (inl z) ih =
        few (is_sync t (get_or is n no_message).sent.channel) (eqb n h) (inl (eq-eqb n h (sym (eqb-true h n z))))
    at (inr z) ih = few (is_sync t (get_or is n no_message).sent.channel) (eqb n h) (inr (ih z))

tells_none : (t : Table) (is : List Message) (h : ℕ) (ns : List ℕ)
    → ((j : ℕ) → j < length ns → is_sync t (get_or is (get_or ns j 0) no_message).sent.channel ≡ false)
    → to_tell t is h ns ≡ []
tells_none t is h [] f = refl
tells_none t is h (n ∷ ns) f =
    rw (f 0 (omega arith), keep_if) (tells_none t is h ns (λ j l. f (suc j) (omega arith)))

-- a chord that an asynchronous subject matches has no synchronous member
pub async-tells : (t : Table) (b : Board) (h r : ℕ) (c : List ℕ) → Full t b h r c → is_sync t (channel_of b h) ≡ false
    → wakes t r (channel_of b h) ≡ false → to_tell t b.messages h c ≡ []
unfolding first_sync
async-tells t b h r c f s m = tells_none t b.messages h c (λ j l. at j l (tested (is_sync t (channel_at t r j))))
  where
    at : (j : ℕ) → j < length c → (is_sync t (channel_at t r j) ≡ true) ⊎ (is_sync t (channel_at t r j) ≡ false)
        → is_sync t (channel_of b (get_or c j 0)) ≡ false
    at j l (inl e) =
        let z = first-in (is_sync t) (chord_at t r).channels j (omega (arith, l, f.all)) e in
        never (sym m ∙ wakes-if t r (channel_of b h) s (omega (arith, z, l, f.all)))
    at j l (inr e) = rw (f.selection.kinds j l) e
