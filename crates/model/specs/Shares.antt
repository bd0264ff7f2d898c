-- Fair shares of the board (rule 9.9). A sender's tally is how many messages it has added: the first 16 are its own
-- share, those above it are of 512 that all senders have in common.
use Rattle.std.specs.Prelude.{Bool, ◌||◌, List, [], ◌∷◌, ℕ, suc, ◌+◌, ◌-◌, eqb, leb, ltb, length, get_or, set}
use Rattle.model.specs.Basics.{all_of}

abbrev pub tally : List ℕ → ℕ → ℕ
tally ks i = get_or ks i 0

-- how many messages the senders have added
abbrev pub added_total : List ℕ → ℕ
added_total [] = 0
added_total (k ∷ ks) = k + added_total ks

-- rule 9.9: how many of the common ones are used
abbrev pub common_used : List ℕ → ℕ
common_used [] = 0
common_used (k ∷ ks) = (k - 16) + common_used ks

-- rule 9.9: sender i has one of its own left, or there is a common one
unfoldable pub has_room : List ℕ → ℕ → Bool
has_room ks i = ltb (tally ks i) 16 || ltb (common_used ks) 512

-- rule 9.9: of a sound board with n messages
unfoldable pub shares_ok : List ℕ → ℕ → Bool
shares_ok ks n = all_of (eqb (length ks) 32 ∷ eqb (added_total ks) n ∷ leb (common_used ks) 512 ∷ [])

-- rule 9.9: sender i has added one more
abbrev pub one_more : List ℕ → ℕ → List ℕ
one_more ks i = set ks i (suc (tally ks i))
