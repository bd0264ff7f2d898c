-- What a read answers, by way out: refused as every board call is, by its own test, or accepted.
use mathlib.Core.Path.{◌≡◌, refl}
use mathlib.Core.Logic.{◌≢◌}
use mathlib.Core.Bool.{false}
use mathlib.Core.List.{List}
use Prim.Native.Nat.{ℕ, zero, suc, ◌<◌, ◌≤◌}
use borrow.Author.Tests.{lt-ltb, le-ltb}
use lib.ListN.{get_or, get_or-map}
use Rattle.model.specs.Basics.{first_of}
use Rattle.model.specs.Layout.{table_of}
use Rattle.model.specs.Boards.{no_message, message_at, match_at}
use Rattle.model.specs.Pools.{no_read, read_match, quiet}
use Rattle.model.proofs.Tests.{refused-first}
use Rattle.state.specs.Views.{sender_in}
use Rattle.boards.specs.Boards.{zero_sender}
use Rattle.boards.specs.Calls.{Held}
use Rattle.refusals.specs.Calls.{board_of, refusal_of}
use Rattle.calls.specs.Reads.{answered, quiet_answer, reply_number, reply_answer, message_number, message_answer}
use Rattle.calls.specs.Reads.{match_number, match_answer}

-- a number that refuses reads nothing
none_read : {A : Type 0} (f : ℕ) → f ≢ 0 → (x z : A) → z ≡ answered f x z
none_read zero h x z = absurd (h refl)
none_read (suc f) h x z = refl

pub none_first : {A : Type 0} (f g : ℕ) → f ≢ 0 → (x z : A) → z ≡ answered (first_of f g) x z
none_first zero g h x z = absurd (h refl)
none_first (suc f) g h x z = refl

module _ (s : List ℕ) (h : Held) where
  -- refused as every board call is
  module _ (f : ℕ) (e : f ≡ refusal_of s h) (r : f ≢ 0) where
    pub quiet-refused : (f ≡ refusal_of s h) × (false ≡ quiet_answer s h)
    unfolding quiet_answer
    quiet-refused = (e, rw (← e) (none_read f r _ _))

    pub reply-refused : (i : ℕ) → (f ≡ reply_number s h i) × (0 ≡ reply_answer s h i)
    unfolding reply_answer reply_number
    reply-refused i = rw (← e) (refused-first f _ r, none_first f _ r _ _)

    pub message-refused : (n : ℕ) → (f ≡ message_number s h n) × (no_message ≡ message_answer s h n)
    unfolding message_answer message_number
    message-refused n = rw (← e) (refused-first f _ r, none_first f _ r _ _)

    pub match-refused : (k : ℕ) → (f ≡ match_number s h k) × (no_read ≡ match_answer s h k)
    unfolding match_answer match_number
    match-refused k = rw (← e) (refused-first f _ r, none_first f _ r _ _)

  module _ (e : refusal_of s h ≡ 0) where
    pub quiet_is : quiet (board_of s h) ≡ quiet_answer s h
    unfolding quiet_answer
    quiet_is = rw e

    -- no such sender, message or match
    pub reply-none : (i : ℕ) → 32 ≤ i → (8 ≡ reply_number s h i) × (0 ≡ reply_answer s h i)
    unfolding reply_answer reply_number
    reply-none i l = rw (e, le-ltb i 32 l) (refl, refl)

    pub message-none : (n : ℕ) → h.board.messages ≤ n
        → (14 ≡ message_number s h n) × (no_message ≡ message_answer s h n)
    unfolding message_answer message_number
    message-none n l = rw (e, le-ltb n h.board.messages l) (refl, refl)

    pub match_none : (k : ℕ) → h.board.matches ≤ k → (15 ≡ match_number s h k) × (no_read ≡ match_answer s h k)
    unfolding match_answer match_number
    match_none k l = rw (e, le-ltb k h.board.matches l) (refl, refl)

    -- accepted
    pub reply_is : (i : ℕ) → i < 32
        → (0 ≡ reply_number s h i) × ((get_or h.board.senders i zero_sender).reply ≡ reply_answer s h i)
    unfolding reply_answer reply_number
    reply_is i l =
        rw (e, lt-ltb i 32 l, get_or-map (sender_in (table_of s)) h.board.senders i zero_sender) (refl, refl)

    pub message-is : (n : ℕ) → n < h.board.messages
        → (0 ≡ message_number s h n) × (message_at (board_of s h) n ≡ message_answer s h n)
    unfolding message_answer message_number
    message-is n l = rw (e, lt-ltb n h.board.messages l) (refl, refl)

    pub match_is : (k : ℕ) → k < h.board.matches → (0 ≡ match_number s h k)
        × (read_match (table_of s) (board_of s h) (match_at (board_of s h) k) ≡ match_answer s h k)
    unfolding match_answer match_number
    match_is k l = rw (e, lt-ltb k h.board.matches l) (refl, refl)
