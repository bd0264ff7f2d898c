-- Messages, matches, senders and the board (rules 1.4 to 1.10). Numbers that may be missing are kept plus 1, 0 for
-- none.
use Rattle.std.specs.Prelude.{Bool, true, false, ◌&&◌, List, [], ◌∷◌, ℤ, pos, ◌+ℤ◌, ℕ, ◌-◌, eqb, leb, get_or, length, replicate}
use Rattle.model.specs.Basics.{all_of, every}
use Rattle.model.specs.Tables.{Table}

-- rule 1.4
pub data Status : Type 0 where
  pending claimed woken consumed : Status

-- rule 1.4: what a sender hands over
pub record Sent : Type 0 where
  pub channel : ℕ
  pub property : ℕ
  pub cents : ℤ
  pub day : ℕ
  pub unit : ℕ

-- rule 1.4. It notes the match that consumed it and the subject that woke it (its waker).
pub record Message : Type 0 where
  pub sent : Sent
  pub status : Status
  pub match : ℕ
  pub waker : ℕ

-- rule 1.5: a fired chord, with its messages in the order of its members
pub record Match : Type 0 where
  pub chord : ℕ
  pub messages : List ℕ

-- rule 1.8: where a job is. The first number of a phase is its place: the member that the next step is about, or for
-- backoff the rests after that one. revert has the number of claims made beside it, consume the match plus 1. pass_end:
-- there is no further chord (rule 4.9).
pub data Phase : Type 0 where
  look : ℕ → Phase
  claim : ℕ → Phase
  revert : ℕ → ℕ → Phase
  consume : ℕ → ℕ → Phase
  tell : ℕ → Phase
  wake : Phase
  free : ℕ → Phase
  signal : Phase
  pass_end : Phase
  backoff : ℕ → Phase

-- rule 1.8: a sender's work on its subject. chosen: in the order of the members; retry: the retry mark; retries: how
-- often the job said `again`, counted up to 16.
pub record Job : Type 0 where
  pub subject : ℕ
  pub chord : ℕ
  pub phase : Phase
  pub chosen : List ℕ
  pub retry : Bool
  pub retries : ℕ

-- rule 1.7
pub data State : Type 0 where
  idle : State
  working : Job → State
  blocked : State

-- rule 1.7: its own message, its waker, its reply, and the match that it made of its own message
pub record Sender : Type 0 where
  pub state : State
  pub signalled : Bool
  pub own : ℕ
  pub waker : ℕ
  pub reply : ℕ
  pub matched : ℕ

-- rule 1.6. backoffs: the backoff table (rule 1.9) that the board was opened with; closed: the close day plus 1 (rule
-- 9.8), so that the days below it are closed; tallies: how many messages each sender has added (rule 9.9)
pub record Board : Type 0 where
  pub messages : List Message
  pub matches : List Match
  pub senders : List Sender
  pub backoffs : List ℕ
  pub closed : ℕ
  pub tallies : List ℕ

abbrev pub no_sent : Sent
no_sent = record { channel = 0; property = 0; cents = pos 0; day = 0; unit = 0 }

abbrev pub no_message : Message
no_message = record { sent = no_sent; status = pending; match = 0; waker = 0 }

abbrev pub no_match : Match
no_match = record { chord = 0; messages = [] }

abbrev pub idle_sender : Sender
idle_sender = record { state = idle; signalled = false; own = 0; waker = 0; reply = 0; matched = 0 }

abbrev pub message_at : Board → ℕ → Message
message_at b n = get_or b.messages n no_message

abbrev pub match_at : Board → ℕ → Match
match_at b k = get_or b.matches k no_match

abbrev pub sender_at : Board → ℕ → Sender
sender_at b i = get_or b.senders i idle_sender

abbrev pub channel_of : Board → ℕ → ℕ
channel_of b n = (message_at b n).sent.channel

-- rule 1.10, with this backoff table
abbrev pub empty_board : List ℕ → Board
empty_board rests = record {
  messages = [];
  matches = [];
  senders = replicate 32 idle_sender;
  backoffs = rests;
  closed = 0;
  tallies = replicate 32 0;
}

-- rule 1.9
unfoldable pub builtin_backoffs : List ℕ
builtin_backoffs =
    0 ∷ 1 ∷ 1 ∷ 2 ∷ 2 ∷ 4 ∷ 4 ∷ 8 ∷ 8 ∷ 16 ∷ 16 ∷ 16 ∷ 32 ∷ 32 ∷ 32 ∷ 32 ∷ []

-- rule 4.10: the k-th entry, from 1
unfoldable pub backoff_at : List ℕ → ℕ → ℕ
backoff_at rests k = get_or rests (k - 1) 0

-- rule 9.10: no entry less than the one before
abbrev pub never_falls : List ℕ → Bool
never_falls [] = true
never_falls (x ∷ []) = true
never_falls (x ∷ y ∷ ys) = leb x y && never_falls (y ∷ ys)

-- rule 9.10: sixteen entries, none over 64, and in order
unfoldable pub backoffs_pass : List ℕ → Bool
backoffs_pass rests = all_of (eqb (length rests) 16 ∷ every (λ k. leb k 64) rests ∷ never_falls rests ∷ [])

abbrev pub is_pending : Status → Bool
is_pending pending = true
is_pending claimed = false
is_pending woken = false
is_pending consumed = false

abbrev pub is_claimed : Status → Bool
is_claimed pending = false
is_claimed claimed = true
is_claimed woken = false
is_claimed consumed = false

abbrev pub is_consumed : Status → Bool
is_consumed pending = false
is_consumed claimed = false
is_consumed woken = false
is_consumed consumed = true

-- rule 4.9: neither consumed nor woken
abbrev pub is_open : Status → Bool
is_open pending = true
is_open claimed = true
is_open woken = false
is_open consumed = false

abbrev pub is_idle : State → Bool
is_idle idle = true
is_idle (working w) = false
is_idle blocked = false

-- rule 1.5: what a message counts for in sums
unfoldable pub amount : Table → Sent → ℤ
amount t x = x.cents

-- rule 1.5: a match's cents, over the numbers of messages that were sent so
abbrev pub cents_of : Table → (ℕ → Sent) → List ℕ → ℤ
cents_of t sent [] = pos 0
cents_of t sent (n ∷ ns) = amount t (sent n) +ℤ cents_of t sent ns
