-- What the reads answer (rule 6.6): the refusal, and what is read where there is none.
use Rattle.std.specs.Prelude.{Bool, false, List, ℕ, zero, suc, ltb}
use Rattle.model.specs.Basics.{unless, first_of}
use Rattle.model.specs.Layout.{table_of}
use Rattle.model.specs.Boards.{Message, no_message, message_at, match_at, sender_at}
use Rattle.model.specs.Pools.{MatchRead, no_read, read_match, quiet}
use Rattle.boards.specs.Calls.{Held}
use Rattle.refusals.specs.Calls.{board_of, refusal_of}

-- what is read where the number refuses nothing, the other where it does
abbrev pub answered : {A : Type 0} → ℕ → A → A → A
answered zero x z = x
answered (suc f) x z = z

module _ (s : List ℕ) (h : Held) where
  -- rules 5.6 and 6.6
  unfoldable pub quiet_answer : Bool
  quiet_answer = answered (refusal_of s h) (quiet (board_of s h)) false

  -- rule 6.6, 8: no such sender
  unfoldable pub reply_number : ℕ → ℕ
  reply_number i = first_of (refusal_of s h) (unless (ltb i 32) 8 0)

  -- rule 6.6: the match plus 1, 0 for none
  unfoldable pub reply_answer : ℕ → ℕ
  reply_answer i = answered (reply_number i) (sender_at (board_of s h) i).reply 0

  -- rule 6.6, 14: no such message
  unfoldable pub message_number : ℕ → ℕ
  message_number n = first_of (refusal_of s h) (unless (ltb n h.board.messages) 14 0)

  unfoldable pub message_answer : ℕ → Message
  message_answer n = answered (message_number n) (message_at (board_of s h) n) no_message

  -- rule 6.6, 15: no such match
  unfoldable pub match_number : ℕ → ℕ
  match_number k = first_of (refusal_of s h) (unless (ltb k h.board.matches) 15 0)

  unfoldable pub match_answer : ℕ → MatchRead
  match_answer k =
      answered (match_number k) (read_match (table_of s) (board_of s h) (match_at (board_of s h) k)) no_read
