-- The program's lines (rules 8.2 and 8.3), as bytes.
use Rattle.std.specs.Prelude.{Bool, false, ◌&&◌, List, [], ◌∷◌, ℕ, ◌+◌, ◌-◌, ◌*◌, eqb, leb, ltb, ℤ, pos, neg_ℤ, length, get_or, drop}
use Rattle.model.specs.Basics.{pick, every, all_of}
use Rattle.model.specs.Pools.{Call}
use Rattle.model.specs.Pools.Call.{adds, steps}

-- rule 8.3
pub data Line : Type 0 where
  unreadable : Line
  reads : Call → Line

-- a byte before the first of the parts
abbrev pub joined : ℕ → List (List ℕ) → List (List ℕ)
joined x [] = (x ∷ []) ∷ []
joined x (s ∷ ss) = (x ∷ s) ∷ ss

-- bytes cut at each byte c: one part more than there are bytes c, and empty parts too
unfoldable pub cut_at : ℕ → List ℕ → List (List ℕ)
cut_at c [] = [] ∷ []
cut_at c (x ∷ xs) = pick (eqb x c) ([] ∷ cut_at c xs) (joined x (cut_at c xs))

-- rule 8.2: what follows the last line feed is a line unless it is empty
abbrev pub ended : List (List ℕ) → List (List ℕ)
ended [] = []
ended ([] ∷ []) = []
ended ((x ∷ xs) ∷ []) = (x ∷ xs) ∷ []
ended (s ∷ t ∷ ts) = s ∷ ended (t ∷ ts)

-- rule 8.2
abbrev pub lines_of : List ℕ → List (List ℕ)
lines_of s = ended (cut_at 10 s)

-- rule 8.3: two spaces together, or one at an end, leave an empty field, and that is no number
abbrev pub fields_of : List ℕ → List (List ℕ)
fields_of s = cut_at 32 s

-- rule 8.3: one digit or more, leading zeros among them
abbrev pub is_digit : ℕ → Bool
is_digit x = leb 48 x && leb x 57

unfoldable pub is_decimal : List ℕ → Bool
is_decimal s = ltb 0 (length s) && every is_digit s

-- the number that the digits make, after those that made n
abbrev pub value_from : ℕ → List ℕ → ℕ
value_from n [] = n
value_from n (x ∷ xs) = value_from (10 * n + (x - 48)) xs

abbrev pub digits_value : List ℕ → ℕ
digits_value s = value_from 0 s

-- rule 8.3: a number up to the most that its field may be
unfoldable pub is_number : ℕ → List ℕ → Bool
is_number most s = is_decimal s && leb (digits_value s) most

-- rule 8.3: up to 18 digits, leading zeros among them
abbrev pub is_magnitude : List ℕ → Bool
is_magnitude s = is_decimal s && leb (length s) 18

-- rule 8.3: a minus, which is read before cents alone
abbrev pub is_minus : List ℕ → Bool
is_minus s = eqb (get_or s 0 0) 45

unfoldable pub digits_of : List ℕ → List ℕ
digits_of s = pick (is_minus s) (drop 1 s) s

-- rule 8.3
unfoldable pub is_cents : List ℕ → Bool
is_cents s = is_magnitude (digits_of s)

-- rule 8.3; `-0` is 0
unfoldable pub cents_from : List ℕ → ℤ
cents_from s = pick (is_minus s) (neg_ℤ (pos (digits_value (digits_of s)))) (pos (digits_value (digits_of s)))

-- rule 8.3: the fields after the `a`
unfoldable pub add_of : List ℕ → List ℕ → List ℕ → List ℕ → List ℕ → List ℕ → Line
add_of sender channel property cents day unit =
    pick
    (all_of
    (is_number 65535 sender ∷ is_number 65535 channel ∷ is_number 4294967295 property ∷ is_cents cents ∷
    is_number 4294967295 day ∷ is_number 65535 unit ∷ []))
    (reads (adds (digits_value sender) (record {
      channel = digits_value channel;
      property = digits_value property;
      cents = cents_from cents;
      day = digits_value day;
      unit = digits_value unit;
    })))
    unreadable

-- rule 8.3: a line without a day, or without a unit, is read as if it had a `0` there
abbrev pub field_zero : List ℕ
field_zero = 48 ∷ []

abbrev pub add_line : List (List ℕ) → Line
add_line [] = unreadable
add_line (d ∷ []) = unreadable
add_line (d ∷ t ∷ []) = unreadable
add_line (d ∷ t ∷ p ∷ []) = unreadable
add_line (d ∷ t ∷ p ∷ c ∷ []) = add_of d t p c field_zero field_zero
add_line (d ∷ t ∷ p ∷ c ∷ e ∷ []) = add_of d t p c e field_zero
add_line (d ∷ t ∷ p ∷ c ∷ e ∷ u ∷ []) = add_of d t p c e u
add_line (d ∷ t ∷ p ∷ c ∷ e ∷ u ∷ f ∷ fs) = unreadable

-- rule 8.3: the field after the `s`
unfoldable pub step_of : List ℕ → Line
step_of sender = pick (is_number 65535 sender) (reads (steps (digits_value sender))) unreadable

abbrev pub step_line : List (List ℕ) → Line
step_line [] = unreadable
step_line (d ∷ []) = step_of d
step_line (d ∷ e ∷ es) = unreadable

-- the one byte `a` or `s`
abbrev pub is_byte : ℕ → List ℕ → Bool
is_byte c [] = false
is_byte c (x ∷ []) = eqb x c
is_byte c (x ∷ y ∷ ys) = false

-- rule 8.3, by the fields
abbrev pub line_by : List (List ℕ) → Line
line_by [] = unreadable
line_by (f ∷ fs) = pick (is_byte 97 f) (add_line fs) (pick (is_byte 115 f) (step_line fs) unreadable)

-- rule 8.3: the bytes of a line, without its line feed; over 80 bytes are unreadable
unfoldable pub line_of : List ℕ → Line
line_of s = pick (leb (length s) 80) (line_by (fields_of s)) unreadable
