-- Laws of a message's and a match's numbers, written to a lent slice.
use mathlib.Core.Path.{◌≡◌, refl, ◌∙◌}
use mathlib.Core.List.{List, [], ◌∷◌, map}
use Prim.Native.Nat.{ℕ, zero, suc, ◌+◌, ◌<◌, ◌≤◌}
use lib.IntN.{ℤ, pos}
use lib.Signed.{mag}
use lib.ListN.{length, length-map, get_or, set, drop, replicate, take-append-drop, get_or-map}
use lib.Seq.{sets-eq, paste, paste-suc, take_all, length-take-le}
use mir.Syntax.{w64}
use mir.Val.{to_z, of_z}
use mir.ValLaws.{to_z-of_z, to_z_pos}
use native.Mathlib.Numerals.{add-one}
use native.Mathlib.Omega.{arith}
use Rattle.columns.specs.Columns.{status_of}
use Rattle.reads.specs.declared.MessageRead as DM
use Rattle.reads.specs.declared.MatchRead as DR
use Rattle.reads.specs.Reads.{message_of, read_of}
use Rattle.host.specs.Reads.{status_number, message_numbers, match_numbers, stored_in}

-- a byte up to 3 is a status
status-back : (x : ℕ) → x ≤ 3 → status_number (status_of x) ≡ x
status-back zero h = refl
status-back (suc zero) h = refl
status-back (suc (suc zero)) h = refl
status-back (suc (suc (suc zero))) h = refl
status-back (suc (suc (suc (suc x)))) h = absurd (omega arith)

-- a number, and cents, as the machine holds them
pub number-back : (n : ℕ) → n < 9223372036854775808 → to_z w64 n ≡ pos n
number-back n h = to_z_pos w64 n h

cents-back : (z : ℤ) → mag z < 9223372036854775808 → to_z w64 (of_z w64 z) ≡ z
cents-back z h = to_z-of_z w64 z (record { sfits = h })

module _ (m : DM.MessageRead) (s : m.status ≤ 3) where
  message-spelled : message_numbers (message_of m)
      ≡ pos m.channel ∷ pos m.property ∷ m.cents ∷ pos m.status ∷ pos m.matched ∷ pos m.waker ∷
      pos m.day ∷ pos m.unit ∷ []
  unfolding message_numbers
  message-spelled = rw (status-back m.status s)

  pub message-put : (out : List ℤ) → 8 ≤ length out → m.channel < 256 → m.property < 4294967296
      → mag m.cents < 9223372036854775808 → m.day < 4294967296 → m.unit < 65536 → m.matched < 65536
      → m.waker < 65536
      → set (set (set (set (set (set (set (set out 0 (to_z w64 m.channel)) 1 (to_z w64 m.property))
      2 (to_z w64 (of_z w64 m.cents))) 3 (to_z w64 m.status)) 4 (to_z w64 m.matched)) 5 (to_z w64 m.waker))
      6 (to_z w64 m.day)) 7 (to_z w64 m.unit)
      ≡ stored_in (message_numbers (message_of m)) out
  message-put out h channel property cents day unit matched waker =
      rw (
        message-spelled,
        number-back m.channel (omega arith),
        number-back m.property (omega arith),
        cents-back m.cents cents,
        number-back m.status (omega arith),
        number-back m.matched (omega arith),
        number-back m.waker (omega arith),
        number-back m.day (omega arith),
        number-back m.unit (omega arith),
      )
      (sets-eq (pos m.channel ∷ pos m.property ∷ m.cents ∷ pos m.status ∷ pos m.matched ∷
      pos m.waker ∷ pos m.day ∷ pos m.unit ∷ []) out 0 h)

pub one-put : (out : List ℤ) (a : ℤ) → 1 ≤ length out → set out 0 a ≡ stored_in (a ∷ []) out
one-put out a h = sets-eq (a ∷ []) out 0 h

-- one of eight messages more
pub eight-next : (out : List ℤ) (ms : List ℕ) (i : ℕ) → 11 ≤ length out → length ms ≡ 8 → i < 8
    → get_or ms i 0 < 65536
    → set (paste out 3 (map pos ms) i) (3 + i) (to_z w64 (get_or ms i 0)) ≡ paste out 3 (map pos ms) (i + 1)
eight-next out ms i h l k f =
    let n : length (map pos ms) ≡ 8 = length-map ms pos ∙ l in
    rw (number-back (get_or ms i 0) (omega arith), add-one i, ← get_or-map pos ms i 0)
    (paste-suc out 3 (map pos ms) i (pos 0) (omega arith) (omega (arith, n)))

three-put : (out xs : List ℤ) (a b c : ℤ) → 11 ≤ length out → length xs ≡ 8
    → set (set (set (paste out 3 xs 8) 0 a) 1 b) 2 c ≡ stored_in (a ∷ b ∷ c ∷ xs) out
three-put [] xs a b c h l = absurd (omega arith)
three-put (x ∷ []) xs a b c h l = absurd (omega arith)
three-put (x ∷ y ∷ []) xs a b c h l = absurd (omega arith)
three-put (x ∷ y ∷ z ∷ out) xs a b c h l = rw (l, take_all 8 xs (omega arith))

-- a match, of which the numbers past the last are 0
module _ (m : DR.MatchRead) (l : length m.messages ≡ 8) (k : m.len ≤ 8)
    (e : drop m.len m.messages ≡ drop m.len (replicate 8 0)) where
  match-spelled : match_numbers (read_of m) ≡ pos m.chord ∷ pos m.len ∷ m.cents ∷ map pos m.messages
  unfolding match_numbers
  match-spelled =
      let n = length-take-le m.len m.messages (omega arith) in
      rw (n, ← e, take-append-drop m.len m.messages)

  pub match-put : (out : List ℤ) → 11 ≤ length out → m.chord < 256 → mag m.cents < 9223372036854775808
      → set (set (set (paste out 3 (map pos m.messages) 8) 0 (to_z w64 m.chord)) 1 (to_z w64 m.len))
      2 (to_z w64 (of_z w64 m.cents))
      ≡ stored_in (match_numbers (read_of m)) out
  match-put out h chord cents =
      rw (
        match-spelled,
        number-back m.chord (omega arith),
        number-back m.len (omega arith),
        cents-back m.cents cents,
      )
      (three-put out (map pos m.messages) _ _ _ h (length-map m.messages pos ∙ l))
