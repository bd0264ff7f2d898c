-- Lines computed: a table of them with what each reads as, and input cut to lines.
use mathlib.Core.Path.{◌≡◌, refl}
use mathlib.Core.List.{List, [], ◌∷◌, ◌++◌, map}
use Prim.Native.Nat.{ℕ}
use Prim.Native.String.{String}
use lib.IntN.{ℤ, pos, neg_ℤ}
use lib.ListN.{replicate}
use Rattle.model.specs.Pools.Call.{adds, steps}
use Rattle.model.specs.Samples.{send, send_back}
use Rattle.model.specs.Lines.{Line, line_of, lines_of, cut_at, is_decimal, is_number, digits_of, is_cents, cents_from}
use Rattle.model.specs.Lines.{add_of, step_of}
use Rattle.model.specs.Lines.Line.{unreadable, reads}
use Rattle.model.specs.Printing.{bytes}

record Sample : Type 0 where
  pub line : List ℕ
  pub read : Line

abbrev row : Line → String → Sample
row r s = record { line = bytes s; read = r }

abbrev step0 : ℕ → Line → Sample
step0 zeros r = record { line = bytes "s " ++ replicate zeros 48; read = r }

-- an add with a day and a unit
abbrev add : ℕ → ℕ → ℕ → ℤ → ℕ → ℕ → Line
add i channel property cents day unit =
    reads (adds i (record { channel = channel; property = property; cents = cents; day = day; unit = unit }))

-- rule 8.3, what is read: both calls, with a day, with a unit, without, `-0`, leading zeros, the most of each field,
-- 80 bytes
abbrev readable : List Sample
readable =
    row (reads (send 0 1 7 0)) "a 0 1 7 0" ∷
    row (reads (steps 31)) "s 31" ∷
    row (reads (steps 32)) "s 32" ∷
    row (reads (send 0 1 7 0)) "a 0 1 7 -0" ∷
    row (reads (send_back 1 0 7 5000)) "a 01 00 007 -0005000" ∷
    row (reads (send 65535 65535 4294967295 999999999999999999)) "a 65535 65535 4294967295 999999999999999999" ∷
    row (reads (send_back 0 0 0 999999999999999999)) "a 0 0 0 -999999999999999999" ∷
    row (add 1 2 3 (neg_ℤ (pos 4)) 5 0) "a 1 2 3 -4 5" ∷
    row (reads (send 0 1 7 0)) "a 0 1 7 0 0" ∷
    row (add 0 1 7 (pos 0) 31 0) "a 0 1 7 0 00000000000031" ∷
    row (add 0 1 7 (pos 0) 4294967295 0) "a 0 1 7 0 4294967295" ∷
    row (add 65535 65535 4294967295 (neg_ℤ (pos 999999999999999999)) 4294967295 0)
    "a 65535 65535 4294967295 -999999999999999999 4294967295" ∷
    row (add 1 2 3 (neg_ℤ (pos 4)) 5 6) "a 1 2 3 -4 5 6" ∷
    row (reads (send 0 1 7 0)) "a 0 1 7 0 0 0" ∷
    row (add 0 1 7 (pos 0) 0 12) "a 0 1 7 0 0 12" ∷
    row (add 0 1 7 (pos 0) 31 0) "a 0 1 7 0 31 0" ∷
    row (add 0 1 7 (pos 0) 31 12) "a 0 1 7 0 31 00000000000012" ∷
    row (add 65535 65535 4294967295 (neg_ℤ (pos 999999999999999999)) 4294967295 65535)
    "a 65535 65535 4294967295 -999999999999999999 4294967295 65535" ∷
    row (reads (steps 65535)) "s 0000000000000000000000065535" ∷
    step0 78 (reads (steps 0)) ∷ []

-- and what is not: other letters, fields too few, too many or empty, signs, other bytes, one more than the most, 19
-- digits, 81 bytes
abbrev unread : List String
unread =
    "" ∷ "a" ∷ "s" ∷ "s " ∷ " s 1" ∷ "s  1" ∷ "s 1 " ∷ "s 1 2" ∷ "ss 1" ∷ "S 1" ∷ "1" ∷ "c" ∷ "c 5" ∷
    "a 0 1 7" ∷ "a 0 1 7 0 0 0 0" ∷ "a 0 1  0" ∷ "a  0 1 7 0" ∷ "a 0 1 7 0 " ∷ "a 0 1 7 0  5" ∷ "a 0 1 7 0 5 " ∷
    "a 0 1 7 0 5  6" ∷ "a 0 1 7 0  6 7" ∷ "a 0 1 7 0 5 6 " ∷
    "a 0 1 7 +1" ∷ "a 0 1 7 -" ∷ "a 0 1 7 --1" ∷ "a 0 1 7 1-" ∷ "s -1" ∷ "a -0 1 7 0" ∷ "a 0 1 -7 0" ∷
    "a 0 1 7 0 -0" ∷ "a 0 1 7 0 +5" ∷ "a 0 1 7 0 5 -0" ∷ "a 0 1 7 0 5 +6" ∷
    "s\t1" ∷ "s 1\r" ∷ "s 1x" ∷ "s 0x1" ∷ "a 0 1 7 0 5x" ∷ "a 0 1 7 0 5 6x" ∷ "a 0 1 7 0 x 6" ∷
    "s 65536" ∷ "a 65536 1 7 0" ∷ "a 0 65536 7 0" ∷ "a 0 1 4294967296 0" ∷
    "a 0 1 7 0 4294967296" ∷ "a 0 1 7 0 18446744073709551616" ∷
    "a 0 1 7 0 4294967296 6" ∷ "a 0 1 7 0 5 65536" ∷ "a 0 1 7 0 5 18446744073709551616" ∷
    "a 0 1 7 0000000000000000000" ∷ "a 0 1 7 -1000000000000000000" ∷ []

abbrev samples : List Sample
samples = readable ++ (step0 79 unreadable ∷ map (row unreadable) unread)

pub line-samples : map (λ x. line_of x.line) samples ≡ map (λ x. x.read) samples
unfolding line_of cut_at is_decimal is_number digits_of is_cents cents_from add_of step_of
line-samples = refl

-- rule 8.2: with bytes after the last line feed, and without
abbrev inputs : List String
inputs = "" ∷ "\n" ∷ "s 0\ns 1" ∷ "s 0\ns 1\n" ∷ "\n\ns 0" ∷ []

pub input-samples : map (λ s. lines_of (bytes s)) inputs
    ≡ map
    (map bytes)
    ([] ∷ ("" ∷ []) ∷ ("s 0" ∷ "s 1" ∷ []) ∷ ("s 0" ∷ "s 1" ∷ []) ∷ ("" ∷ "" ∷ "s 0" ∷ []) ∷ [])
unfolding cut_at
input-samples = refl
