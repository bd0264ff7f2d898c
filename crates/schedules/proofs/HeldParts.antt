-- What is held, by the model's board: its counts, and each message and match.
use mathlib.Core.Path.{◌≡◌, sym, ap, ◌∙◌}
use mathlib.Core.List.{List}
use Prim.Native.Nat.{ℕ, ◌<◌, ◌≤◌}
use native.Mathlib.Omega.{arith}
use borrow.Author.Tests.{leb-true}
use lib.Dec.{leb}
use lib.ListN.{length, length-map, get_or, take}
use lib.Seq.{get_or-take, length-take-le}
use Rattle.model.specs.Layout.{table_of}
use Rattle.model.specs.Boards.{Board, no_match, message_at, match_at}
use Rattle.model.proofs.Lists.{every-nth}
use Rattle.columns.specs.Columns.{message_in}
use Rattle.columns.specs.MatchColumns.{match_in}
use Rattle.columns.proofs.ListFrom.{length_from, nth-from}
use Rattle.columns.proofs.Messages.{length-messages, nth-message}
use Rattle.state.specs.Views.{sender_in}
use Rattle.boards.specs.Calls.{Held}
use Rattle.refusals.specs.Judged.{statuses_ok, Lengths}
use Rattle.refusals.specs.Calls.{board_of, refusal_of}
use Rattle.refusals.proofs.Refusals.{lent-whole, statuses-known, sound-board, messages_few}

module _ (s : List ℕ) (h : Held) where
  module _ (b : Board) (e : board_of s h ≡ b) where
    pub messages-held : length b.messages ≡ h.board.messages
    messages-held =
        ap (λ (x : Board). length x.messages) (sym e) ∙ length-messages h.columns 0 h.board.messages

    pub matches-held : length b.matches ≡ h.board.matches
    matches-held =
        ap (λ (x : Board). length x.matches) (sym e)
        ∙ length_from (match_in (table_of s) h.matches) 0 h.board.matches

  pub message-held : (i : ℕ) → i < h.board.messages → message_at (board_of s h) i ≡ message_in h.columns i
  message-held = nth-message h.columns h.board.messages

  pub match-held : (i : ℕ) → i < h.board.matches → match_at (board_of s h) i ≡ match_in (table_of s) h.matches i
  match-held = nth-from (match_in (table_of s) h.matches) no_match h.board.matches

  module _ (a : refusal_of s h ≡ 0) where
    pub lengths : Lengths h.columns h.matches
    lengths = lent-whole s _ _ _ a

    pub senders-length : length h.board.senders ≡ 32
    senders-length = sym (length-map h.board.senders (sender_in (table_of s))) ∙ (sound-board s _ _ _ a).senders_all

    pub status-few : (i : ℕ) → i < h.board.messages → get_or h.columns.statuses i 0 ≤ 3
    unfolding statuses_ok
    status-few i l =
        let n = h.board.messages in
        let xs = h.columns.statuses in
        let m = length-take-le n xs (omega (arith, lengths.statuses_len, messages_few s _ _ _ a)) in
        leb-true _ 3
        (rw (get_or-take n xs i 0 l) at
        (every-nth (λ x. leb x 3) (take n xs) 0 (statuses-known s _ _ _ a) i (omega (arith, m, l))))
