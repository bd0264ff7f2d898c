-- An add (rule 6.4): its refusals, and the board after an accepted one.
use Rattle.std.specs.Prelude.{Bool, false, List, ◌++◌, ◌∷◌, [], suc, ℕ, leb, ltb, ℤ, pos, negsuc, length, set}
use Rattle.model.specs.Basics.{unless}
use Rattle.model.specs.Tables.{Table}
use Rattle.model.specs.Boards.{Board, Sent, is_idle, sender_at, Message, pending, Sender, working}
use Rattle.model.specs.Jobs.{new_pass}
use Rattle.model.specs.Shares.{has_room, one_more}

-- rule 9.8: after the close day
abbrev pub day_open : Board → ℕ → Bool
day_open b day = leb b.closed day

-- rule 1.4: cents in range
abbrev pub cents_ok : ℤ → Bool
cents_ok (pos a) = leb a 999999999999
cents_ok (negsuc a) = ltb a 999999999999

-- rules 6.4, 9.8 and 9.9: no such sender, not idle, no such channel, a closed day, cents not in range, no room
unfoldable pub add_refusal : Table → Board → ℕ → Sent → ℕ
add_refusal t b i x =
    unless (ltb i 32) 8
    (unless (is_idle (sender_at b i).state) 9
    (unless (ltb x.channel (length t.kinds)) 10
    (unless (day_open b x.day) 19
    (unless (cents_ok x.cents) 11
    (unless (has_room b.tallies i) 26 0)))))

-- rule 6.4
abbrev pub new_message : Sent → Message
new_message x = record { sent = x; status = pending; match = 0; waker = 0 }

-- rule 6.4: its own message n and a job about it, and nothing else
abbrev pub new_sender : Table → List Message → ℕ → Sender
new_sender t is n =
    record { state = working (new_pass t is n 0); signalled = false; own = suc n; waker = 0; reply = 0; matched = 0 }

-- rules 6.4 and 9.9: the message gets the next number, and its sender has added one more
unfoldable pub added : Table → Board → ℕ → Sent → Board
added t b i x =
    let is = b.messages ++ (new_message x ∷ []) in
    record {
      messages = is;
      matches = b.matches;
      senders = set b.senders i (new_sender t is (length b.messages));
      backoffs = b.backoffs;
      closed = b.closed;
      tallies = one_more b.tallies i;
    }
