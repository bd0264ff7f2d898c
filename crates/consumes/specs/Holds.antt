-- What the steps of a recorded match rely on: the choice is among the lent messages.
use Rattle.std.specs.Prelude.{◌≡◌, Bool, ◌&&◌, not, List, ℕ, ◌<◌, ◌≤◌, eqb, length, get_or}
use Rattle.model.specs.Tables.{Table, is_sync}
use Rattle.model.specs.Boards.{Message, no_message}
use Rattle.model.specs.Steps.{to_tell}
use Rattle.state.specs.declared.Sender as DD

-- the first n messages have the channels of a column
pub record Channels (is : List Message) (channels : List ℕ) (n : ℕ) : Type 0 where
  pub channel : (i : ℕ) → i < n → (get_or is i no_message).sent.channel ≡ get_or channels i 0

-- so many chosen messages are among the n of a column, whose channels are the table's
pub record ChoiceLent (t : Table) (chosen channels : List ℕ) (len n : ℕ) : Type 0 where
  pub lent : n ≤ length channels
  pub below : (i : ℕ) → i < len → get_or chosen i 0 < n
  pub known : (i : ℕ) → i < n → get_or channels i 0 < length t.kinds

-- of messages with the channels of a column, more than k are to be told
pub record Left (t : Table) (channels : List ℕ) (n subject : ℕ) (chosen : List ℕ) (k : ℕ) : Type 0 where
  pub messages : List Message
  pub same : Channels messages channels n
  pub more : k < length (to_tell t messages subject chosen)

-- rule 4.6: the sender of message x of a match of the subject is told
abbrev pub is_told : Table → List ℕ → ℕ → ℕ → Bool
is_told t channels subject x = is_sync t (get_or channels x 0) && not (eqb x subject)

-- the sender with another match of its own message
abbrev pub with_match : DD.Sender → ℕ → DD.Sender
with_match d m = record d { matched = m }
