-- The first place in a chord that passes, as the library finds it, and the byte of a channel's kind.
use Rattle.std.proofs.Common.{◌≡◌, ℕ, ◌+◌, ◌<◌, ◌≤◌, Bool, List, length, get_or, arith}
use Rattle.std.specs.List.{position}
use Rattle.std.specs.Option.{unwrap_or}
use Rattle.std.proofs.lemmas.List.Sums.{prefix_len-le-length}
use Rattle.std.proofs.lemmas.Bool.Decides.{nat_tests}
use Rattle.model.specs.Basics.{first_by}
use Rattle.model.specs.Layout.{table_refusal, table_of}
use Rattle.model.specs.Tables.{chord_at}
use Rattle.model.proofs.Accepted.{accepted}
use Rattle.model.proofs.AcceptedChords.{table-ok, length-kinds}
use Rattle.table.proofs.Places.{kind_at}
use Rattle.model.proofs.Walks.{first-position}

module _ (f : ℕ → Bool) where
  pub placed : (xs : List ℕ) → unwrap_or (position f xs) (length xs) ≡ first_by f xs
  placed xs = grind (arith, nat_tests, first-position, prefix_len-le-length)

  pub first-few : (s : List ℕ) (q : ℕ) → (table_refusal s ≡ 0) × (q < length (table_of s).chords)
      → first_by f (chord_at (table_of s) q).channels ≤ 8
  first-few s q h =
      let few = (table-ok s h.0).chord_few q h.1 in
      rw (← first-position) (omega (arith, prefix_len-le-length))

-- the byte of a channel's kind
module _ (s : List ℕ) (e : table_refusal s ≡ 0) where
  pub kinds-fit : length (table_of s).kinds + 12 ≤ length s
  kinds-fit = let a = accepted s e in omega (arith, length-kinds s a)

  pub kind-is : (i : ℕ) → i < length (table_of s).kinds → get_or (table_of s).kinds i 0 ≡ get_or s (12 + i) 0
  kind-is i h = kind_at s i (omega (arith, length-kinds s (accepted s e)))

pub ruleset kinds = (kinds-fit, kind-is)
