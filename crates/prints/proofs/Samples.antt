-- Lines of the run of table P and its kin, and every word, computed.
use mathlib.Core.Path.{◌≡◌, refl}
use mathlib.Core.Bool.{true}
use mathlib.Core.List.{List, [], ◌∷◌, map}
use Prim.Native.Nat.{ℕ}
use Prim.Native.String.{String}
use lib.IntN.{pos, negsuc}
use Rattle.model.specs.Boards.{woken}
use Rattle.model.specs.Effects.{Item, Looked, Claimed, Lost, Reverted, Matched, Consumed, Told, Woke, Freed}
use Rattle.model.specs.Effects.{Signalled, Answered, Refused, Missed, Again, Ended, Rested, Resumed, Closed}
use Rattle.model.specs.Printing.{bytes, words, digits_by, decimal, signed}
use Rattle.model.specs.Printing.{answer_line, match_line, open_line, quiet_line}

record Sample : Type 0 where
  pub text : List ℕ
  pub line : String

abbrev row : List ℕ → String → Sample
row t s = record { text = t; line = s }

abbrev samples : List Sample
samples =
    row (match_line 0 (record { chord = 0; messages = 1 ∷ 0 ∷ []; cents = pos 5000 }))
    "match 0 rule 0 cents 5000 items 1 0\n" ∷
    row (open_line 3 woken) "open 3 woken\n" ∷
    row (quiet_line true) "quiet yes\n" ∷
    row (signed (negsuc 4)) "-5" ∷
    row (decimal 0) "0" ∷
    row (decimal 10) "10" ∷
    row (decimal 1024) "1024" ∷
    row (answer_line (Item 0)) "item 0\n" ∷
    row (answer_line (Looked 1)) "looked 1\n" ∷
    row (answer_line Missed) "missed\n" ∷
    row (answer_line (Claimed 2)) "claimed 2\n" ∷
    row (answer_line (Lost 3)) "lost 3\n" ∷
    row (answer_line (Reverted 4)) "reverted 4\n" ∷
    row (answer_line (Matched 5)) "matched 5\n" ∷
    row (answer_line (Consumed 6)) "consumed 6\n" ∷
    row (answer_line (Told 7)) "told 7\n" ∷
    row (answer_line (Woke 8)) "woke 8\n" ∷
    row (answer_line (Freed 9)) "freed 9\n" ∷
    row (answer_line (Signalled 10)) "signalled 10\n" ∷
    row (answer_line Again) "again\n" ∷
    row (answer_line Ended) "ended\n" ∷
    row (answer_line Rested) "rested\n" ∷
    row (answer_line (Answered 1023)) "answered 1023\n" ∷
    row (answer_line Resumed) "resumed\n" ∷
    row (answer_line (Refused 13)) "refused 13\n" ∷
    row (answer_line Closed) "closed\n" ∷ []

pub sample-lines : map (λ x. x.text) samples ≡ map (λ x. bytes x.line) samples
unfolding words decimal digits_by
sample-lines = refl
