-- Places in accepted bytes: a chord's entry lies within them; and which chords are not refused.
use mathlib.Core.Path.{◌≡◌}
use mathlib.Core.List.{List}
use Prim.Native.Nat.{ℕ, ◌+◌, ◌*◌, ◌<◌, ◌≤◌}
use native.Mathlib.Omega.{arith}
use borrow.Author.Tests.{ltb-true}
use lib.Dec.{ltb}
use lib.ListN.{length, get_or}
use lib.Seq.{get_or-drop, get_or-take}
use Rattle.model.specs.Layout.{table_refusal, table_of, count_t, chords_start, count_r}
use Rattle.model.specs.Layout.{chord_refusal}
use Rattle.model.proofs.Accepted.{accepted}
use Rattle.model.proofs.Tests.{unless-none, first-none}
use Rattle.model.proofs.AcceptedChords.{length-chords}
use Rattle.model.proofs.TableLaws.{below-count}
use Rattle.table.specs.Headers.{Counts}

pub counts-in : (s : List ℕ) → table_refusal s ≡ 0 → Counts s
counts-in s e = let a = accepted s e in search a

pub entry_in : (s : List ℕ) (q : ℕ) → table_refusal s ≡ 0 → q < length (table_of s).chords
    → chords_start (count_t s) + 4 * q + 4 ≤ length s
entry_in s q e h = let a = accepted s e in omega (arith, below-count s q e h)

-- a chord that is not refused
pub chord-there : (s : List ℕ) (q : ℕ) → chord_refusal s q ≡ 0 → (table_refusal s ≡ 0) × (q < length (table_of s).chords)
unfolding chord_refusal
chord-there s q e =
    let p = first-none (table_refusal s) _ e in
    let u = unless-none (ltb q (count_r s)) 31 0 p.1 in
    let l = length-chords s (accepted s p.0) in
    (p.0, rw l (ltb-true q (count_r s) u.0))

-- a kind, by the byte that holds it
pub kind_at : (s : List ℕ) (i : ℕ) → i < count_t s → get_or (table_of s).kinds i 0 ≡ get_or s (12 + i) 0
unfolding table_of
kind_at s i h = rw (get_or-take, get_or-drop)
