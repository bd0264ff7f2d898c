-- Writes to the lent lists, seen in their parts.
use Rattle.std.proofs.Common.{◌≡◌, refl, ℕ, ◌+◌, ◌-◌, ◌*◌, ◌<◌, ◌≤◌, List, length, get_or, set, ℤ, arith, to_z-of_z}
use Rattle.std.proofs.Math.Seq.{paste, length-paste}
use Rattle.columns.specs.MatchColumns.{matches_of}
use Rattle.boards.specs.Parts.{part, splice}
use Rattle.boards.specs.Layout.{lists, columns_in, chords_in, members_in, chords_at, members_at, links_len}
use Rattle.boards.proofs.PartLaws.{length_part, get_d_part, set_here, set_before, set_after, splice-here, splice-below}
use Rattle.boards.proofs.PartLaws.{splice-above}
use Rattle.writes.specs.Written.{ListsHold}

module _ {A : Type 0} (at n : ℕ) (s : List A) where
  pub part-get : (j : ℕ) (d : A) → j < n → get_or (part at n s) j d ≡ get_or s (at + j) d
  part-get j d h = get_d_part at n s (at + j) j d refl h

  pub part-set : (i : ℕ) (a : A) → at ≤ i → i < at + n → part at n (set s i a) ≡ set (part at n s) (i - at) a
  part-set i a h l = set_here at n s i (i - at) a (omega arith) (omega arith)

pub ruleset part_writes = (part-get, part-set, set_before, set_after, to_z-of_z)

-- match k is written, the messages of all being lent
pub match-written : (b w board keys : List ℕ) (cents : List ℤ) (k chord : ℕ) (chosen : List ℕ) → k < 1024
    → length w ≡ links_len → length chosen ≡ 8
    → let ns = paste (members_in w) (8 * k) chosen 8 in
    ListsHold (columns_in (lists board b w keys cents)) (matches_of (set (chords_in b) k chord) ns)
    (lists board (set b (chords_at + k) chord) (splice members_at 8192 ns w) keys cents)
match-written b w board keys cents k chord chosen h l e =
    let p = length_part members_at 8192 w (omega arith) in
    let q = length-paste (members_in w) (8 * k) chosen 8 (omega arith) (omega arith) in
    record {
      columns = grind (arith, set_after, splice-below, splice-above);
      matches = grind (arith, part-set, splice-here);
    }
