-- The lent messages, a list for each field, as the model's messages (rule 1.11).
use Rattle.std.specs.Prelude.{List, [], ◌∷◌, ◌≡◌, ℕ, zero, suc, ◌+◌, ◌<◌, ◌≤◌, ℤ, pos, get_or, length}
use Rattle.model.specs.Boards.{Status, pending, claimed, woken, consumed, Message, Match, Sender, Board}

-- keys: the properties, then the days; what stands behind them is no message's
pub record Columns : Type 0 where
  pub channels : List ℕ
  pub keys : List ℕ
  pub cents : List ℤ
  pub statuses : List ℕ
  pub matched : List ℕ
  pub wakers : List ℕ
  pub units : List ℕ

-- where the days begin
abbrev pub days_at : ℕ
days_at = 1024

-- rule 1.4, by a byte; one over 3 is no status, and refused 30 (rule 6.2)
abbrev pub status_of : ℕ → Status
status_of zero = pending
status_of (suc zero) = claimed
status_of (suc (suc zero)) = woken
status_of (suc (suc (suc n))) = consumed

unfoldable pub message_in : Columns → ℕ → Message
message_in c n = record {
  sent = record {
    channel = get_or c.channels n 0;
    property = get_or c.keys n 0;
    cents = get_or c.cents n (pos 0);
    day = get_or c.keys (days_at + n) 0;
    unit = get_or c.units n 0;
  };
  status = status_of (get_or c.statuses n 0);
  match = get_or c.matched n 0;
  waker = get_or c.wakers n 0;
}

-- n elements, from number i on
abbrev pub list_from : {A : Type 0} → (ℕ → A) → ℕ → ℕ → List A
list_from f i zero = []
list_from f i (suc n) = f i ∷ list_from f (suc i) n

abbrev pub messages_from : Columns → ℕ → ℕ → List Message
messages_from c i n = list_from (message_in c) i n

abbrev pub columns_of : List ℕ → List ℕ → List ℤ → List ℕ → List ℕ → List ℕ → List ℕ → Columns
columns_of channels keys cents statuses matched wakers units = record {
  channels = channels;
  keys = keys;
  cents = cents;
  statuses = statuses;
  matched = matched;
  wakers = wakers;
  units = units;
}

-- what a board has beside the channels, keys and statuses of its messages: four columns, and the rest of the board
pub record Others : Type 0 where
  pub cents : List ℤ
  pub matched : List ℕ
  pub wakers : List ℕ
  pub units : List ℕ
  pub matches : List Match
  pub senders : List Sender
  pub backoffs : List ℕ
  pub closed : ℕ
  pub tallies : List ℕ

abbrev pub columns_by : List ℕ → List ℕ → List ℕ → Others → Columns
columns_by channels keys statuses o =
    columns_of channels keys o.cents statuses o.matched o.wakers o.units

-- a board of n messages, by those columns and the others
abbrev pub board_by : List ℕ → List ℕ → List ℕ → ℕ → Others → Board
board_by channels keys statuses n o = record {
  messages = messages_from (columns_by channels keys statuses o) 0 n;
  matches = o.matches;
  senders = o.senders;
  backoffs = o.backoffs;
  closed = o.closed;
  tallies = o.tallies;
}

-- the columns that a look reads, of 1,024 records, n of which are messages
pub record Lent (n : ℕ) (channels keys units statuses : List ℕ) : Type 0 where
  pub few : n ≤ 1024
  pub channels_all : 1024 ≤ length channels
  pub keys_all : days_at + 1024 ≤ length keys
  pub units_all : 1024 ≤ length units
  pub statuses_all : 1024 ≤ length statuses

-- the messages below number start are consumed, so that no look takes one of them, nor finds one claimed
pub record Passed (start n : ℕ) (statuses : List ℕ) : Type 0 where
  pub within : start ≤ n
  pub consumed : (i : ℕ) → i < start → get_or statuses i 0 ≡ 3
