-- What the lists hold where the first tests accept them, and where not.
use mathlib.Core.Path.{◌≡◌, refl}
use mathlib.Core.Bool.{true}
use mathlib.Core.List.{List}
use Prim.Native.Nat.{ℕ}
use native.Mathlib.Omega.{arith}
use Rattle.model.specs.Basics.{first_of, unless}
use Rattle.model.specs.Layout.{table_refusal}
use Rattle.boards.specs.Layout.{Lists, lists_ok, Sized, columns_in, matches_in}
use Rattle.boards.proofs.PartLaws.{length_part}
use Rattle.boards.proofs.LayoutLaws.{sized-by, sized-ok}
use Rattle.rows.specs.Numbers.{encodes}
use Rattle.refusals.specs.Judged.{board_refusal, lent_ok, Lengths}
use Rattle.refusals.specs.Held.{held_of, held_in, nothing, sound_in, Accepted}
use Rattle.refusals.specs.Calls.{refusal_of}
use Rattle.refusals.proofs.CallLaws.{lengths-ok}

pub held-is : (l : Lists) → encodes l.board ≡ true → Sized l → held_in l ≡ held_of l
unfolding held_in
held-is l e n = rw (sized-ok l n, e)

-- the columns of lists of their lengths
pub columns-sized : (l : Lists) → Sized l → Lengths (columns_in l) (matches_in l)
columns-sized l n = record {
  channels-len = length_part 0 1024 l.bytes (omega (arith, n.bytes-len));
  keys-len = n.keys-len;
  cents-len = n.cents-len;
  statuses_len = length_part 1024 1024 l.bytes (omega (arith, n.bytes-len));
  matched_len = length_part 0 1024 l.links (omega (arith, n.links-len));
  wakers_len = length_part 1024 1024 l.links (omega (arith, n.links-len));
  units_len = length_part 10240 1024 l.links (omega (arith, n.links-len));
  chords-len = length_part 2048 1024 l.bytes (omega (arith, n.bytes-len));
  messages_len = length_part 2048 8192 l.links (omega (arith, n.links-len));
}

lent-sized : (l : Lists) → lists_ok l ≡ true → lent_ok (columns_in l) (matches_in l) ≡ true
lent-sized l e = lengths-ok (columns_in l) (matches_in l) (columns-sized l (sized-by l e))

-- lists that hold nothing are refused
refusal-none : (s : List ℕ) → refusal_of s nothing ≡ first_of (table_refusal s) 30
unfolding board_refusal lent_ok
refusal-none s = refl

-- the refusal in the order of the code
pub refusal_is : (s : List ℕ) (l : Lists)
    → refusal_of s (held_in l) ≡ first_of (table_refusal s) (unless (lists_ok l) 30 (unless (sound_in s l) 30 0))
unfolding held_in board_refusal
refusal_is s l = grind (arith, refusal-none, lent-sized)

pub accepted-lists : (s : List ℕ) (l : Lists) → refusal_of s (held_in l) ≡ 0 → Accepted s l
unfolding held_in board_refusal
accepted-lists s l z =
    let listed : lists_ok l ≡ true = grind (arith, refusal-none) in
    let coded : encodes l.board ≡ true = grind (arith, refusal-none) in
    record { numbers = coded; sized = sized-by l listed; accepted = rw (listed, coded) at z }
