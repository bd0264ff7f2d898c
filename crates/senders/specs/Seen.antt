-- What the test of senders sees of a board: its counts and its messages' channels. And the parts of that test (rules
-- 3.4 to 3.6).
use Rattle.std.specs.Prelude.{◌≡◌, Bool, true, ◌&&◌, ◌||◌, not, List, [], ◌∷◌, ℕ, ◌+◌, ◌<◌, ◌≤◌, eqb, ltb, length}
use Rattle.std.specs.Prelude.{get_or}
use Rattle.model.specs.Basics.{pick, is_in, every}
use Rattle.model.specs.Tables.{Table, chord_at, is_sync}
use Rattle.model.specs.Boards.{Board, channel_of}
use Rattle.state.specs.declared.Sender as DD
use Rattle.state.specs.Views.{idle_is}

-- a board of n messages in these channels and of so many matches
pub record Seen (b : Board) (n matches : ℕ) (channels : List ℕ) : Type 0 where
  pub count : length b.messages ≡ n
  pub matches_count : length b.matches ≡ matches
  pub channel : (i : ℕ) → i < n → channel_of b i ≡ get_or channels i 0

-- the channels of n messages, all in the table
pub record Known (t : Table) (n : ℕ) (channels : List ℕ) : Type 0 where
  pub all : n ≤ length channels
  pub known : (i : ℕ) → i < n → get_or channels i 0 < length t.kinds

-- the channel of message v of n; 0 for none
unfoldable pub channel_in : List ℕ → ℕ → ℕ → ℕ
channel_in channels n v = pick (ltb v n) (get_or channels v 0) 0

-- rule 3.6: a chord of the table that names the channel
unfoldable pub in_chord : Table → ℕ → ℕ → Bool
in_chord t chord channel = ltb chord (length t.chords) && is_in channel (chord_at t chord).channels

-- rule 4.6: the sender of message v of a match of the subject is told
abbrev pub is_told : Table → List ℕ → ℕ → ℕ → ℕ → Bool
is_told t channels n subject v = is_sync t (channel_in channels n v) && not (eqb v subject)

-- rule 3.4: what no two senders may have in common, the own message plus 1; 0 for an idle sender
abbrev pub mark_by : DD.Sender → ℕ
mark_by d = pick (idle_is d.state) 0 (d.own + 1)

-- rule 3.4: no mark but 0 stands twice
abbrev pub none_twice : List ℕ → Bool
none_twice [] = true
none_twice (m ∷ ms) = (eqb m 0 || every (λ x. not (eqb x m)) ms) && none_twice ms
