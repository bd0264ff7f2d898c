-- Reads (rule 6.6), given as numbers in a lent slice.
use Rattle.std.specs.Prelude.{List, [], ◌∷◌, ◌++◌, map, ℕ, leb, ℤ, pos, length, drop, replicate}
use Rattle.model.specs.Basics.{unless, first_of, flag}
use Rattle.model.specs.Boards.{Status, pending, claimed, woken, consumed, Message}
use Rattle.model.specs.Pools.{MatchRead}
use Rattle.boards.specs.Calls.{Held}
use Rattle.refusals.specs.Calls.{refusal_of}
use Rattle.calls.specs.Reads.{answered, quiet_answer, reply_number, reply_answer, message_number, message_answer}
use Rattle.calls.specs.Reads.{match_number, match_answer}

abbrev pub status_number : Status → ℕ
status_number pending = 0
status_number claimed = 1
status_number woken = 2
status_number consumed = 3

-- a message: channel, property, cents, status, match plus 1, waker plus 1, day, unit
unfoldable pub message_numbers : Message → List ℤ
message_numbers x =
    pos x.sent.channel ∷ pos x.sent.property ∷ x.sent.cents ∷ pos (status_number x.status) ∷
    pos x.match ∷ pos x.waker ∷ pos x.sent.day ∷ pos x.sent.unit ∷ []

-- a match: chord, how many messages, cents, and eight messages, 0 past the last
unfoldable pub match_numbers : MatchRead → List ℤ
match_numbers r =
    pos r.chord ∷ pos (length r.messages) ∷ r.cents ∷
    map pos (r.messages ++ drop (length r.messages) (replicate 8 0))

-- a slice that begins with these numbers, and is kept past them
abbrev pub stored_in : List ℤ → List ℤ → List ℤ
stored_in numbers out = numbers ++ drop (length numbers) out

-- a read: its refusal, how many numbers it gives, and which
pub record Reading : Type 0 where
  pub number : List ℕ → Held → ℕ
  pub size : ℕ
  pub numbers : List ℕ → Held → List ℤ

abbrev pub of_message : ℕ → Reading
of_message n = record {
  number = λ s h. message_number s h n;
  size = 8;
  numbers = λ s h. message_numbers (message_answer s h n);
}

abbrev pub of_match : ℕ → Reading
of_match k = record {
  number = λ s h. match_number s h k;
  size = 11;
  numbers = λ s h. match_numbers (match_answer s h k);
}

-- the match plus 1, 0 for none
abbrev pub of_reply : ℕ → Reading
of_reply i = record {
  number = λ s h. reply_number s h i;
  size = 1;
  numbers = λ s h. pos (reply_answer s h i) ∷ [];
}

-- 1 for quiet
abbrev pub of_quiet : Reading
of_quiet = record {
  number = refusal_of;
  size = 1;
  numbers = λ s h. pos (flag (quiet_answer s h)) ∷ [];
}

module _ (s : List ℕ) (h : Held) (q : Reading) (before : List ℤ) where
  -- rule 6.6's refusal, then 31 for a slice that is too short
  unfoldable pub read_number : ℕ
  read_number = first_of (q.number s h) (unless (leb q.size (length before)) 31 0)

  -- the lent slice afterwards
  unfoldable pub read_after : List ℤ
  read_after = answered read_number (stored_in (q.numbers s h) before) before
