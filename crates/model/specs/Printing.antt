-- The program's printout (rules 8.4 and 8.5): answers, matches and open messages as lines of bytes, and the last line.
use Rattle.std.specs.Prelude.{Bool, true, false, List, [], ◌∷◌, ◌++◌, ℕ, zero, suc, ◌+◌, ◌/◌, ◌%◌, ltb, ℤ, pos, negsuc, get_or}
use Prim.Native.Char.{code}
use Prim.Native.String.{String, [] as []ᵗ, ◌∷◌ as ◌∷ᵗ◌}
use Rattle.model.specs.Basics.{pick, first_of}
use Rattle.model.specs.Boards.{Status, pending, claimed, woken, consumed}
use Rattle.model.specs.Effects.{Said, word_of, value_of, number_of}
use Rattle.model.specs.Pools.{MatchRead}

-- the byte of a digit: `0` is 48
abbrev pub digit : ℕ → ℕ
digit d = 48 + d

-- the digits of a number that has at most that many
unfoldable pub digits_by : ℕ → ℕ → List ℕ
digits_by zero n = []
digits_by (suc places) n = pick (ltb n 10) (digit n ∷ []) (digits_by places (n / 10) ++ (digit (n % 10) ∷ []))

-- without leading zeros; a number n has fewer than n + 2 digits
unfoldable pub decimal : ℕ → List ℕ
decimal n = digits_by (suc n) n

-- byte 45 is the minus
abbrev pub signed : ℤ → List ℕ
signed (pos n) = decimal n
signed (negsuc n) = 45 ∷ decimal (suc n)

-- a number after a space, which is byte 32
abbrev pub spaced : ℕ → List ℕ
spaced n = 32 ∷ decimal n

abbrev pub spaced_all : List ℕ → List ℕ
spaced_all [] = []
spaced_all (n ∷ ns) = spaced n ++ spaced_all ns

-- the line feed
abbrev pub feed : List ℕ
feed = 10 ∷ []

-- the bytes of a text
abbrev pub bytes : String → List ℕ
bytes []ᵗ = []
bytes (c ∷ᵗ s) = code c ∷ bytes s

-- a word, and whether a number stands beside it
pub record Word : Type 0 where
  pub text : List ℕ
  pub numbered : Bool

abbrev pub alone : String → Word
alone s = record { text = bytes s; numbered = false }

abbrev pub named : String → Word
named s = record { text = bytes s; numbered = true }

-- rule 8.4: the words in the order of `word_of`
unfoldable pub words : List Word
words =
    named "item" ∷ named "looked" ∷ alone "missed" ∷ named "claimed" ∷ named "lost" ∷ named "reverted" ∷
    named "matched" ∷ named "consumed" ∷ named "told" ∷ named "woke" ∷ named "freed" ∷ named "signalled" ∷
    alone "again" ∷ alone "ended" ∷ alone "rested" ∷ named "answered" ∷ alone "resumed" ∷ named "refused" ∷
    alone "closed" ∷ []

abbrev pub word_at : ℕ → Word
word_at n = get_or words n (alone "")

-- rule 8.4: the number beside the word, the refusal's, or the message's or match's
abbrev pub number_beside : Said → ℕ
number_beside s = first_of (number_of s) (value_of s)

-- rule 8.4: the word, and its number where it has one
abbrev pub word_line : Word → ℕ → List ℕ
word_line w n = w.text ++ (pick w.numbered (spaced n) [] ++ feed)

-- rule 8.4
abbrev pub answer_line : Said → List ℕ
answer_line s = word_line (word_at (word_of s)) (number_beside s)

abbrev pub match_text : List ℕ
match_text = bytes "match"

abbrev pub rule_text : List ℕ
rule_text = bytes " rule"

abbrev pub cents_text : List ℕ
cents_text = bytes " cents "

abbrev pub items_text : List ℕ
items_text = bytes " items"

-- rule 8.5: `match K rule R cents C items N ..`
abbrev pub match_line : ℕ → MatchRead → List ℕ
match_line k m =
    match_text ++ (spaced k ++
    (rule_text ++ (spaced m.chord ++
    (cents_text ++ (signed m.cents ++
    (items_text ++ (spaced_all m.messages ++ feed)))))))

-- rule 8.5; a consumed message has no line
abbrev pub status_text : Status → List ℕ
status_text pending = bytes "pending"
status_text claimed = bytes "claimed"
status_text woken = bytes "woken"
status_text consumed = []

abbrev pub open_text : List ℕ
open_text = bytes "open"

-- rule 8.5: `open N STATUS`
abbrev pub open_line : ℕ → Status → List ℕ
open_line n s = open_text ++ (spaced n ++ (32 ∷ (status_text s ++ feed)))

-- rule 8.5: the last line
abbrev pub quiet_line : Bool → List ℕ
quiet_line true = bytes "quiet yes" ++ feed
quiet_line false = bytes "quiet no" ++ feed
