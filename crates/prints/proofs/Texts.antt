-- Laws of texts printed one after the other.
use mathlib.Core.Path.{◌≡◌, refl, sym}
use mathlib.Core.List.{List, [], ◌∷◌, ◌++◌, append-nil, append_assoc}
use Prim.Native.Nat.{ℕ, ◌+◌, ◌<◌}
use native.Mathlib.Omega.{arith}
use native.Mathlib.Numerals.{add-one}
use lib.ListN.{length, get_or, take, length-append}
use lib.Seq.{length-sets, take-suc}
use Rattle.model.specs.Printing.{spaced, spaced_all}
use Rattle.model.proofs.Parts.{sets-append}
use Rattle.prints.specs.Printed.{Printed}

-- two texts, the second at the place after the first
pub then : {out mid done : List ℕ} {at p r : ℕ} {s t : List ℕ}
    → Printed out at s p mid → Printed mid p t r done → Printed out at (s ++ t) r done
then {out} {mid} {done} {at} {p} {r} {s} {t} a b = record {
  place = omega (arith, a.place, b.place, length-append s t);
  bytes = rw (b.bytes, a.bytes, a.place) (sym (sets-append out at s t));
}

pub kept : {out done : List ℕ} {at r : ℕ} {s : List ℕ} → Printed out at s r done → length done ≡ length out
kept {out} {done} {at} {r} {s} p = rw p.bytes (length-sets out at s)

-- nothing is printed yet
pub none : (out : List ℕ) (at : ℕ) → Printed out at [] at out
none out at = record { place = omega arith; bytes = refl }

spaced-last : (ns : List ℕ) (n : ℕ) → spaced_all (ns ++ (n ∷ [])) ≡ spaced_all ns ++ spaced n
spaced-last [] n = append-nil (spaced n)
spaced-last (m ∷ ns) n = rw (spaced-last ns n) (sym (append_assoc (spaced m) (spaced_all ns) (spaced n)))

-- one number more of a match line
pub items-next : {out mid done : List ℕ} {at p r : ℕ} (ns : List ℕ) (i : ℕ) → i < length ns
    → Printed out at (spaced_all (take i ns)) p mid → Printed mid p (spaced (get_or ns i 0)) r done
    → Printed out at (spaced_all (take (i + 1) ns)) r done
items-next ns i h p q = rw (add-one i, take-suc ns i 0 h, spaced-last (take i ns) (get_or ns i 0)) (then p q)
