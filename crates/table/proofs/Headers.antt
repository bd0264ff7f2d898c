-- The reader's first tests as facts, and the kinds' test as the loop makes it.
use mathlib.Core.Path.{◌≡◌, refl}
use mathlib.Core.Bool.{true}
use mathlib.Core.List.{List, [], ◌∷◌}
use Prim.Native.Nat.{ℕ, ◌≤◌}
use borrow.Author.Tests.{leb-true, eqb-true}
use lib.Dec.{leb, ltb, eqb, leb-suc-suc}
use lib.ListN.{length}
use Rattle.model.specs.Basics.{every}
use Rattle.model.specs.Layout.{word, count_t, count_r, count_m, counts_ok, offsets_ok, kinds_ok}
use Rattle.model.proofs.Tests.{all-four}
use Rattle.table.specs.Headers.{Counts, Header}

pub counts_from : (s : List ℕ) → 12 ≤ length s → counts_ok s ≡ true → Counts s
unfolding counts_ok
counts_from s h e =
    let c = all-four (leb 1 (count_t s)) (leb (count_t s) 16) (leb (count_r s) 32) (leb (count_m s) 256) e in
    search leb-true

pub header_from : (s : List ℕ) → Counts s → offsets_ok s ≡ true → Header s
unfolding offsets_ok
header_from s c e =
    let o = all-four (eqb (word 3 s) 12) (eqb (word 4 s) _) (eqb (word 5 s) _) (eqb (length s) _) e in
    record { counts = c; whole = eqb-true _ _ o.3 }

pub kinds_below : (ks : List ℕ) → every (λ k. ltb k 2) ks ≡ kinds_ok ks
unfolding kinds_ok
kinds_below [] = refl
kinds_below (k ∷ ks) = rw (leb-suc-suc k 1, kinds_below ks)
