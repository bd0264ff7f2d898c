-- What a sound board gives to a step of one sender, and what a step reads of its messages.
use Rattle.std.specs.Prelude.{◌≡◌, List, ℕ, ◌-◌, ◌<◌, ◌≤◌, length, get_or}
use Rattle.model.specs.Tables.{Table, is_sync}
use Rattle.model.specs.Boards.{message_at, channel_of, is_consumed}
use Rattle.model.proofs.SoundFacts.{SenderFacts}
use Rattle.columns.specs.Columns.{Others, board_by, Lent}
use Rattle.state.specs.declared.Sender as DD
use Rattle.state.specs.Views.{sender_in}
use Rattle.state.specs.declared.Seen as DV

-- the sender's facts on a board of n messages and count matches, by the columns; of the rest of the board only the
-- number of matches is used
pub record Ready (t : Table) (channels keys units statuses : List ℕ) (n count : ℕ) (d : DD.Sender) : Type 0 where
  pub others : Others
  pub counted : length others.matches ≡ count
  pub few : count ≤ 1024
  pub lent : Lent n channels keys units statuses
  pub known : (i : ℕ) → i < n → get_or channels i 0 < length t.kinds
  pub facts : SenderFacts t (board_by channels keys statuses n others) (sender_in t d)

-- what the end of a job reads, on every board with these columns
pub record Saw (t : Table) (channels statuses : List ℕ) (n : ℕ) (d : DD.Sender) (v : DV.Seen)
    (keys : List ℕ) (o : Others) : Type 0 where
  pub sync_is : is_sync t (channel_of (board_by channels keys statuses n o) (d.own - 1)) ≡ v.sync
  pub channel_is : channel_of (board_by channels keys statuses n o) (d.waker - 1) ≡ v.channel
  pub consumed_is : is_consumed (message_at (board_by channels keys statuses n o) (d.waker - 1)).status
      ≡ v.consumed
