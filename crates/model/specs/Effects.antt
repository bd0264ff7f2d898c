-- What a step says and does (rule 6.8): a word, the stepping sender anew, and at most one other change to the board.
use Rattle.std.specs.Prelude.{◌&&◌, ◌||◌, not, List, [], ◌∷◌, ◌++◌, map, ℕ, suc, eqb, get_or, set}
use Rattle.model.specs.Boards.{Status, pending, claimed, woken, consumed, Message, Match, Sender, Board}
use Rattle.model.specs.Boards.{no_message, is_idle}

-- the words of steps (rules 4.2 to 5.5), of an add (rule 6.4) and of a close (rule 9.8), with a message's or match's
-- number; or the refusal
pub data Said : Type 0 where
  Item Looked Claimed Lost Reverted Matched Consumed Told Woke Freed Signalled Answered Refused : ℕ → Said
  Missed Again Ended Rested Resumed Closed : Said

-- rule 6.1: the number that refuses; 0 where the call was accepted
abbrev pub number_of : Said → ℕ
number_of (Item n) = 0
number_of (Looked n) = 0
number_of Missed = 0
number_of (Claimed n) = 0
number_of (Lost n) = 0
number_of (Reverted n) = 0
number_of (Matched k) = 0
number_of (Consumed n) = 0
number_of (Told n) = 0
number_of (Woke n) = 0
number_of (Freed n) = 0
number_of (Signalled n) = 0
number_of Again = 0
number_of Ended = 0
number_of Rested = 0
number_of (Answered k) = 0
number_of Resumed = 0
number_of Closed = 0
number_of (Refused f) = f

-- rule 8.4: the word, by its number: 0 item, 1 looked, .., 16 resumed; 17 refused; 18 closed (rule 9.8)
abbrev pub word_of : Said → ℕ
word_of (Item n) = 0
word_of (Looked n) = 1
word_of Missed = 2
word_of (Claimed n) = 3
word_of (Lost n) = 4
word_of (Reverted n) = 5
word_of (Matched k) = 6
word_of (Consumed n) = 7
word_of (Told n) = 8
word_of (Woke n) = 9
word_of (Freed n) = 10
word_of (Signalled n) = 11
word_of Again = 12
word_of Ended = 13
word_of Rested = 14
word_of (Answered k) = 15
word_of Resumed = 16
word_of (Refused f) = 17
word_of Closed = 18

-- rule 8.4: the message's or match's number beside the word; 0 where there is none
abbrev pub value_of : Said → ℕ
value_of (Item n) = n
value_of (Looked n) = n
value_of Missed = 0
value_of (Claimed n) = n
value_of (Lost n) = n
value_of (Reverted n) = n
value_of (Matched k) = k
value_of (Consumed n) = n
value_of (Told n) = n
value_of (Woke n) = n
value_of (Freed n) = n
value_of (Signalled n) = n
value_of Again = 0
value_of Ended = 0
value_of Rested = 0
value_of (Answered k) = k
value_of Resumed = 0
value_of Closed = 0
value_of (Refused f) = 0

-- rule 6.8: how one message turns. consumes has the match plus 1, wakes_by the waker.
pub data Turn : Type 0 where
  claims frees resumes : Turn
  consumes wakes_by : ℕ → Turn

-- rules 4.4 to 4.7, and 5.5
abbrev pub status_after : Turn → Status
status_after claims = claimed
status_after frees = pending
status_after (consumes m) = consumed
status_after (wakes_by h) = woken
status_after resumes = pending

-- rule 4.6: a consumed message notes its match
abbrev pub match_after : Turn → ℕ → ℕ
match_after claims m = m
match_after frees m = m
match_after (consumes k) m = k
match_after (wakes_by h) m = m
match_after resumes m = m

-- rule 4.7: a woken message notes its waker
abbrev pub waker_after : Turn → ℕ → ℕ
waker_after claims w = w
waker_after frees w = w
waker_after (consumes k) w = w
waker_after (wakes_by h) w = suc h
waker_after resumes w = w

abbrev pub turned : Turn → Message → Message
turned τ x = record {
  sent = x.sent;
  status = status_after τ;
  match = match_after τ x.match;
  waker = waker_after τ x.waker;
}

-- rule 6.8: what a step does beside altering its own sender: nothing; message n turns; match m is recorded with the
-- last claim, of n; message n's sender is signalled.
pub data Change : Type 0 where
  none : Change
  turn : ℕ → Turn → Change
  records : ℕ → Match → Change
  signals : ℕ → Change

-- rule 6.8: one message at most
unfoldable pub messages_after : Change → List Message → List Message
messages_after none is = is
messages_after (turn n τ) is = set is n (turned τ (get_or is n no_message))
messages_after (records n m) is = set is n (turned claims (get_or is n no_message))
messages_after (signals n) is = is

-- rule 1.6: a match gets the next number
unfoldable pub matches_after : Change → List Match → List Match
matches_after none ms = ms
matches_after (turn n τ) ms = ms
matches_after (records n m) ms = ms ++ (m ∷ [])
matches_after (signals n) ms = ms

-- rule 4.8: signalled if it is not idle and message n is its own
abbrev pub signalled_sender : ℕ → Sender → Sender
signalled_sender n d = record {
  state = d.state;
  signalled = d.signalled || (not (is_idle d.state) && eqb d.own (suc n));
  own = d.own;
  waker = d.waker;
  reply = d.reply;
  matched = d.matched;
}

-- rule 4.8
unfoldable pub senders_after : Change → List Sender → List Sender
senders_after none ds = ds
senders_after (turn n τ) ds = ds
senders_after (records n m) ds = ds
senders_after (signals n) ds = map (signalled_sender n) ds

pub record Effect : Type 0 where
  pub said : Said
  pub change : Change
  pub sender : Sender

-- rule 6.8: the board after the effect of a step of sender i
unfoldable pub apply : Board → ℕ → Effect → Board
apply b i e = record {
  messages = messages_after e.change b.messages;
  matches = matches_after e.change b.matches;
  senders = senders_after e.change (set b.senders i e.sender);
  backoffs = b.backoffs;
  closed = b.closed;
  tallies = b.tallies;
}

-- a call refused by its number, or the effect that it has
pub data Outcome : Type 0 where
  refused : ℕ → Outcome
  does : Effect → Outcome
