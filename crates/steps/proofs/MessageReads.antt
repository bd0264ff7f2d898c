-- What is read of the columns is what the board's messages have.
use mathlib.Core.Path.{◌≡◌, ap, ◌∙◌}
use mathlib.Core.List.{List}
use Prim.Native.Nat.{ℕ, ◌<◌}
use lib.Dec.{eqb, ltb, leb}
use lib.ListN.{get_or}
use Rattle.model.specs.Boards.{Message, no_message, message_at, channel_of, is_pending, is_consumed, is_open}
use Rattle.columns.specs.Columns.{Columns, Others, columns_by, board_by, status_of, message_in, messages_from}
use Rattle.columns.proofs.Messages.{nth-message, nth-channel, pending-is, consumed_is, open_is}

module _ (c : Columns) (n k : ℕ) (h : k < n) where
  nth-status : (get_or (messages_from c 0 n) k no_message).status ≡ status_of (get_or c.statuses k 0)
  unfolding message_in
  nth-status = ap (λ (x : Message). x.status) (nth-message c n k h)

  nth-match : (get_or (messages_from c 0 n) k no_message).match ≡ get_or c.matched k 0
  unfolding message_in
  nth-match = ap (λ (x : Message). x.match) (nth-message c n k h)

  nth-waker : (get_or (messages_from c 0 n) k no_message).waker ≡ get_or c.wakers k 0
  unfolding message_in
  nth-waker = ap (λ (x : Message). x.waker) (nth-message c n k h)

module _ (channels keys statuses : List ℕ) (o : Others) (n k : ℕ) (h : k < n) where
  pub channel-read : channel_of (board_by channels keys statuses n o) k ≡ get_or channels k 0
  channel-read = nth-channel (columns_by channels keys statuses o) n k h

  pub status-read : (message_at (board_by channels keys statuses n o) k).status ≡ status_of (get_or statuses k 0)
  status-read = nth-status (columns_by channels keys statuses o) n k h

  pub match-read : (message_at (board_by channels keys statuses n o) k).match ≡ get_or o.matched k 0
  match-read = nth-match (columns_by channels keys statuses o) n k h

  pub waker-read : (message_at (board_by channels keys statuses n o) k).waker ≡ get_or o.wakers k 0
  waker-read = nth-waker (columns_by channels keys statuses o) n k h

  pub pending-read : is_pending (message_at (board_by channels keys statuses n o) k).status
      ≡ eqb (get_or statuses k 0) 0
  pending-read = ap is_pending status-read ∙ pending-is (get_or statuses k 0)

  pub open-read : is_open (message_at (board_by channels keys statuses n o) k).status ≡ ltb (get_or statuses k 0) 2
  open-read = ap is_open status-read ∙ open_is (get_or statuses k 0)

  pub consumed-read : is_consumed (message_at (board_by channels keys statuses n o) k).status
      ≡ leb 3 (get_or statuses k 0)
  consumed-read = ap is_consumed status-read ∙ consumed_is (get_or statuses k 0)

pub ruleset reads = (channel-read, status-read, match-read, waker-read, consumed-read)
