-- What a call of the board says and leaves, for any table, board and lent columns.
use Rattle.std.specs.Prelude.{◌≡◌, ◌≢◌, true, false, List, ℕ, zero, suc, ◌*◌, ◌<◌, ◌≤◌, get_or, drop, take}
use Rattle.model.specs.Layout.{table_of}
use Rattle.model.specs.Boards.{Board}
use Rattle.model.specs.Effects.{Said, Refused, number_of}
use Rattle.model.specs.Pools.{Call, adds, steps, closes, answer_to}
use Rattle.state.specs.declared.Sender as DD
use Rattle.boards.specs.Boards.{board_in, zero_sender}
use Rattle.boards.specs.Calls.{Held}
use Rattle.boards.specs.Layout.{properties_in, days_in, close_day_at}
use Rattle.boards.specs.Parts.{part}
use Rattle.refusals.specs.Judged.{board_refusal}

-- the model's board, by the table's bytes
abbrev pub board_of : List ℕ → Held → Board
board_of s h = board_in (table_of s) h.board h.columns h.matches

-- rule 6.2: the number that every board call gives first; 0 for none
abbrev pub refusal_of : List ℕ → Held → ℕ
refusal_of s h = board_refusal s h.board h.columns h.matches

-- that number, or what the model answers
abbrev pub said_after : ℕ → Said → Said
said_after zero w = w
said_after (suc f) w = Refused (suc f)

-- two lists agree from number n on
abbrev pub SameFrom : {A : Type 0} → ℕ → List A → List A → Type 0
SameFrom n xs ys = drop n xs ≡ drop n ys

-- two lists agree up to number n
abbrev pub SameTo : {A : Type 0} → ℕ → List A → List A → Type 0
SameTo n xs ys = take n xs ≡ take n ys

-- rule 1.11: records past the counts stay as they were, and recorded matches whole, also past their chords' sizes; and
-- rule 9.8: a closed day stays closed, and while there is none its number stays as it was
pub record Beyond (h h' : Held) : Type 0 where
  pub messages_grow : h.board.messages ≤ h'.board.messages
  pub matches_grow : h.board.matches ≤ h'.board.matches
  pub channels : SameFrom h'.board.messages h'.columns.channels h.columns.channels
  pub properties : SameFrom h'.board.messages (properties_in h'.columns.keys) (properties_in h.columns.keys)
  pub days : SameFrom h'.board.messages (days_in h'.columns.keys) (days_in h.columns.keys)
  pub cents : SameFrom h'.board.messages h'.columns.cents h.columns.cents
  pub statuses : SameFrom h'.board.messages h'.columns.statuses h.columns.statuses
  pub matched : SameFrom h'.board.messages h'.columns.matched h.columns.matched
  pub wakers : SameFrom h'.board.messages h'.columns.wakers h.columns.wakers
  pub units : SameFrom h'.board.messages h'.columns.units h.columns.units
  pub chords : SameFrom h'.board.matches h'.matches.chords h.matches.chords
  pub messages : SameFrom (8 * h'.board.matches) h'.matches.messages h.matches.messages
  pub recorded : SameTo (8 * h.board.matches) h'.matches.messages h.matches.messages
  pub stays_closed : h.board.closed ≡ true → h'.board.closed ≡ true
  pub close_day : h'.board.closed ≡ false
      → get_or h'.columns.keys close_day_at 0 ≡ get_or h.columns.keys close_day_at 0

-- the sender that calls; 32, past the last, for a close, which none makes
abbrev pub caller_of : Call → ℕ
caller_of (adds i x) = i
caller_of (steps i) = i
caller_of (closes day) = 32

abbrev pub row_at : Held → ℕ → DD.Sender
row_at h j = get_or h.board.senders j zero_sender

-- two senders are equal but for their signals, with all of their jobs
pub record SameRow (d e : DD.Sender) : Type 0 where
  pub state : d.state ≡ e.state
  pub own : d.own ≡ e.own
  pub waker : d.waker ≡ e.waker
  pub reply : d.reply ≡ e.reply
  pub matched : d.matched ≡ e.matched
  pub job : d.job ≡ e.job

-- rule 4.6: a match that sender i has just recorded is its choice, all eight numbers
abbrev pub Records : ℕ → Held → Held → Type 0
Records i h h' =
    h.board.matches < h'.board.matches
    → part (8 * h.board.matches) 8 h'.matches.messages ≡ (row_at h' i).job.chosen

-- call k on h says w and leaves h'
pub record Plays (s : List ℕ) (h : Held) (k : Call) (w : Said) (h' : Held) : Type 0 where
  pub says : w ≡ said_after (refusal_of s h) (answer_to (table_of s) (board_of s h) k).said
  pub leaves : refusal_of s h ≡ 0 → board_of s h' ≡ (answer_to (table_of s) (board_of s h) k).board
  -- rule 6.1
  pub keeps : number_of w ≢ 0 → h' ≡ h
  -- no later call is refused for its board
  pub accepted : refusal_of s h ≡ 0 → refusal_of s h' ≡ 0
  pub beyond : Beyond h h'
  -- rule 6.8: a call writes no sender but the caller, except a signal
  pub others : (j : ℕ) → j ≢ caller_of k → SameRow (row_at h j) (row_at h' j)
  pub records : Records (caller_of k) h h'
