-- The rules at their edges, as a table of samples; the run of table P, runs of retries, and shares: bytes, calls,
-- tallies, and what the rules say of them. That a table without chords gives no match is about every schedule, and so a
-- theorem of its own (proofs/NoChords).
use Rattle.std.specs.Prelude.{◌≡◌, Bool, true, false, List, map, [], ◌∷◌, ◌++◌, ℕ, zero, suc, ◌+◌, T, pos, neg_ℤ, replicate, take}
use Rattle.model.specs.Tables.{Table}
use Rattle.model.specs.Layout.{table_refusal, table_of}
use Rattle.model.specs.Boards.{empty_board, builtin_backoffs, backoffs_pass, Status, consumed}
use Rattle.model.specs.Effects.{Said, Item, Missed, Ended, Refused, Looked, Claimed, Woke, Freed, Signalled}
use Rattle.model.specs.Effects.{Resumed, Matched, Consumed, Lost, Reverted, Again, Told, Answered, Rested, Closed}
use Rattle.model.specs.Pools.{Call, history, adds, steps, closes, MatchRead, quiet, match_reads}
use Rattle.model.specs.Shares.{added_total, has_room, shares_ok}
use Rattle.model.specs.Demands.{board_after}

-- a table's bytes and calls; the reader's number and what the calls are to answer
pub record Sample : Type 0 where
  pub table : List ℕ
  pub calls : List Call
  pub refusal : ℕ
  pub said : List Said

abbrev pub said_with : List ℕ → Table → List Call → List Said
said_with rests t cs = map (λ e. e.said) (history t (empty_board rests) cs)

abbrev pub said_to : Table → List Call → List Said
said_to t cs = said_with builtin_backoffs t cs

-- by the reader's number: a refused table answers no call
abbrev pub said_if : ℕ → Table → List Call → List Said
said_if zero t cs = said_to t cs
said_if (suc f) t cs = []

abbrev pub outcome : Sample → ℕ × List Said
outcome s = (table_refusal s.table, said_if (table_refusal s.table) (table_of s.table) s.calls)

abbrev pub expected : Sample → ℕ × List Said
expected s = (s.refusal, s.said)

abbrev pub read_as : List ℕ → ℕ → Sample
read_as s n = record { table = s; calls = []; refusal = n; said = [] }

abbrev pub run_as : List ℕ → List Call → List Said → Sample
run_as s cs said = record { table = s; calls = cs; refusal = 0; said = said }

-- rule 8.3: the call of a line `a`
abbrev pub send_for : ℕ → ℕ → ℕ → ℕ → ℕ → ℕ → Call
send_for i channel property cents day unit =
    adds i (record { channel = channel; property = property; cents = pos cents; day = day; unit = unit })

-- without a unit
abbrev pub send_on : ℕ → ℕ → ℕ → ℕ → ℕ → Call
send_on i channel property cents day = send_for i channel property cents day 0

-- without a day
abbrev pub send : ℕ → ℕ → ℕ → ℕ → Call
send i channel property cents = send_on i channel property cents 0

-- with cents below 0
abbrev pub send_back : ℕ → ℕ → ℕ → ℕ → Call
send_back i channel property cents =
    adds i (record { channel = channel; property = property; cents = neg_ℤ (pos cents); day = 0; unit = 0 })

-- Tables

-- table P: channel 0 asynchronous, channel 1 synchronous, and a chord of both that wants one property
abbrev pub table_p : List ℕ
table_p =
    0x02 ∷ 0x00 ∷ 0x01 ∷ 0x00 ∷ 0x02 ∷ 0x00 ∷ 0x0C ∷ 0x00 ∷ 0x0E ∷ 0x00 ∷ 0x12 ∷ 0x00 ∷
    0x00 ∷ 0x01 ∷
    0x00 ∷ 0x00 ∷ 0x02 ∷ 0x01 ∷
    0x00 ∷ 0x01 ∷ []

-- one asynchronous channel and no chord
abbrev pub chordless_table : List ℕ
chordless_table = 0x01 ∷ 0x00 ∷ 0x00 ∷ 0x00 ∷ 0x00 ∷ 0x00 ∷ 0x0C ∷ 0x00 ∷ 0x0D ∷ 0x00 ∷ 0x0D ∷ 0x00 ∷ 0x00 ∷ []

-- one synchronous channel and one chord that names it twice
abbrev pub contended_table : List ℕ
contended_table =
    0x01 ∷ 0x00 ∷ 0x01 ∷ 0x00 ∷ 0x02 ∷ 0x00 ∷ 0x0C ∷ 0x00 ∷ 0x0D ∷ 0x00 ∷ 0x11 ∷ 0x00 ∷
    0x01 ∷
    0x00 ∷ 0x00 ∷ 0x02 ∷ 0x00 ∷
    0x00 ∷ 0x00 ∷ []

-- T asynchronous channels, and one chord that names channel 0 n times and has the last byte e: well formed but for what
-- T, n or e may break
abbrev pub wanting : ℕ → ℕ → ℕ → List ℕ
wanting e T n =
    T ∷ 0 ∷ 1 ∷ 0 ∷ n ∷ 0 ∷ 12 ∷ 0 ∷ (12 + T) ∷ 0 ∷ (16 + T) ∷ 0 ∷ [] ++
    replicate T 0 ++
    0 ∷ 0 ∷ n ∷ e ∷ [] ++
    replicate n 0

abbrev pub repeating : ℕ → ℕ → List ℕ
repeating T n = wanting 0 T n

-- Schedules

-- Sender 0 blocks on message 0, of the synchronous channel; sender 1 adds message 1 and wakes it, and sender 0 matches.
-- The property of message 1 is left open.
abbrev pub schedule_for : ℕ → List Call
schedule_for property =
    send 0 1 7 0 ∷ replicate 3 (steps 0) ++ send 1 0 property 5000 ∷ replicate 7 (steps 1) ++ replicate 8 (steps 0)

abbrev pub schedule_p : List Call
schedule_p = schedule_for 7

-- The run of P, as it is printed (rules 8.4 and 8.5): the answers, one match, no message left, quiet

pub record Shown : Type 0 where
  pub said : List Said
  pub matches : List MatchRead
  pub statuses : List Status
  pub quiet : Bool

abbrev pub shown_by : Table → List Call → Shown
shown_by t cs = record {
  said = said_to t cs;
  matches = match_reads t (board_after t builtin_backoffs cs);
  statuses = map (λ x. x.status) (board_after t builtin_backoffs cs).messages;
  quiet = quiet (board_after t builtin_backoffs cs);
}

abbrev pub said_p : List Said
said_p =
    Item 0 ∷ Missed ∷ Ended ∷ Refused 13 ∷
    Item 1 ∷ Looked 1 ∷ Looked 0 ∷ Claimed 1 ∷ Claimed 0 ∷ Woke 0 ∷ Freed 1 ∷ Signalled 0 ∷
    Resumed ∷ Looked 1 ∷ Looked 0 ∷ Claimed 1 ∷ Matched 0 ∷ Consumed 1 ∷ Consumed 0 ∷ Refused 13 ∷ []

abbrev pub shown_p : Shown
shown_p = record {
  said = said_p;
  matches = record { chord = 0; messages = 1 ∷ 0 ∷ []; cents = pos 5000 } ∷ [];
  statuses = consumed ∷ consumed ∷ [];
  quiet = true;
}

-- Three senders of one synchronous channel, whose steps fall between one another's: a claim is lost and reverted, a
-- retry rests, and the sender that was told is answered
abbrev pub contended : List Call
contended =
    send 0 0 7 0 ∷ steps 0 ∷ steps 0 ∷ send 2 0 7 0 ∷ steps 2 ∷ steps 0 ∷ steps 2 ∷ send 1 0 7 0 ∷
    steps 1 ∷ steps 1 ∷ steps 2 ∷ steps 1 ∷ steps 1 ∷ replicate 6 (steps 2) ++
    steps 1 ∷ steps 1 ∷ steps 1 ∷ steps 0 ∷ steps 2 ∷ steps 32 ∷ []

abbrev pub said_contended : List Said
said_contended =
    Item 0 ∷ Looked 0 ∷ Missed ∷ Item 1 ∷ Looked 1 ∷ Ended ∷ Looked 0 ∷ Item 2 ∷
    Looked 2 ∷ Looked 0 ∷ Claimed 1 ∷ Claimed 2 ∷ Matched 0 ∷ Lost 0 ∷ Reverted 1 ∷ Again ∷ Looked 1 ∷ Missed ∷ Again ∷
    Consumed 2 ∷ Consumed 0 ∷ Told 0 ∷ Answered 0 ∷ Rested ∷ Refused 8 ∷ []

-- rule 4.10: sender 1 holds message 1 claimed and is left there, so that each pass of sender 2 misses it and says
-- `again`: seventeen retries, and the first step of the pass after them
abbrev pub retrying : ℕ → List Call
retrying n = send 0 1 7 0 ∷ send 1 0 7 0 ∷ replicate 3 (steps 1) ++ send 2 1 7 0 ∷ replicate n (steps 2)

abbrev pub passes : List ℕ → List Said
passes [] = []
passes (k ∷ ks) = Missed ∷ Again ∷ replicate k Rested ++ passes ks

abbrev pub said_retrying : List ℕ → List Said
said_retrying rests = Item 0 ∷ Item 1 ∷ Looked 1 ∷ Looked 0 ∷ Claimed 1 ∷ Item 2 ∷ passes rests ++ Missed ∷ []

-- a backoff table that never gives the same twice
abbrev pub rising : List ℕ
rising = 0 ∷ 1 ∷ 2 ∷ 3 ∷ 4 ∷ 5 ∷ 6 ∷ 7 ∷ 8 ∷ 9 ∷ 10 ∷ 11 ∷ 12 ∷ 13 ∷ 14 ∷ 15 ∷ []

-- rule 4.10
pub record RetriesRest : Type 0 where
  pub by_builtin : said_with builtin_backoffs (table_of table_p) (retrying 273)
      ≡ said_retrying (0 ∷ 1 ∷ 1 ∷ 2 ∷ 2 ∷ 4 ∷ 4 ∷ 8 ∷ 8 ∷ 16 ∷ 16 ∷ 16 ∷ 32 ∷ 32 ∷ 32 ∷ 32 ∷ 32 ∷ [])
  pub by_rising : said_with rising (table_of table_p) (retrying 170)
      ≡ said_retrying (0 ∷ 1 ∷ 2 ∷ 3 ∷ 4 ∷ 5 ∷ 6 ∷ 7 ∷ 8 ∷ 9 ∷ 10 ∷ 11 ∷ 12 ∷ 13 ∷ 14 ∷ 15 ∷ 15 ∷ [])

-- rule 9.10: tables that pass, the first entry above 0 and all entries 64 too, and tables that do not: 15, 17 and no
-- entries, one over 64, and one less than the one before it, first, last and in the middle
pub record RestsPass : Type 0 where
  pub rising : backoffs_pass rising ≡ true
  pub all_0 : backoffs_pass (replicate 16 0) ≡ true
  pub all_64 : backoffs_pass (replicate 16 64) ≡ true
  pub first_above_0 : backoffs_pass (3 ∷ replicate 15 5) ≡ true
  pub fifteen : backoffs_pass (replicate 15 1) ≡ false
  pub seventeen : backoffs_pass (replicate 17 1) ≡ false
  pub no_entries : backoffs_pass [] ≡ false
  pub last_65 : backoffs_pass (replicate 15 1 ++ 65 ∷ []) ≡ false
  pub all_65 : backoffs_pass (replicate 16 65) ≡ false
  pub second_falls : backoffs_pass (2 ∷ replicate 15 1) ≡ false
  pub ninth_falls : backoffs_pass (replicate 8 2 ++ replicate 8 1) ≡ false
  pub last_falls : backoffs_pass (replicate 15 64 ++ 63 ∷ []) ≡ false

-- The table of samples

abbrev pub one_message : List Call
one_message = send 0 0 7 0 ∷ replicate 3 (steps 0)

abbrev pub second_message : List Call
second_message = send 0 0 7 0 ∷ replicate 6 (steps 0)

-- three senders' messages, of one channel and of these days; the third looks twice
abbrev pub three_days : ℕ → ℕ → ℕ → List Call
three_days a b c = send_on 0 0 7 0 a ∷ send_on 1 0 7 0 b ∷ send_on 2 0 7 0 c ∷ replicate 2 (steps 2)

-- three senders' messages, of one channel; the third, of property 7 and unit 2, looks twice
abbrev pub three_flats : ℕ → ℕ → ℕ → ℕ → List Call
three_flats property unit property' unit' =
    send_for 0 0 property 0 0 unit ∷ send_for 1 0 property' 0 0 unit' ∷ send_for 2 0 7 0 0 2 ∷ replicate 2 (steps 2)

abbrev pub said_flats : Said → List Said
said_flats w = Item 0 ∷ Item 1 ∷ Item 2 ∷ Looked 2 ∷ w ∷ []

abbrev pub said_one : List Said
said_one = Item 0 ∷ Looked 0 ∷ Missed ∷ Ended ∷ []

abbrev pub samples : List Sample
samples =
    -- rule 2.6: accepted
    read_as table_p 0 ∷
    -- rule 2.6: 3, one byte short
    read_as (take 19 table_p) 3 ∷
    -- rule 2.6: 1, of 11 bytes
    read_as (take 11 table_p) 1 ∷
    -- rule 2.6: 2, with 17 channels
    read_as (repeating 17 2) 2 ∷
    -- rules 1.3 and 4.9: no chords, and the first step ends the job
    run_as chordless_table (send 0 0 7 0 ∷ steps 0 ∷ []) (Item 0 ∷ Ended ∷ []) ∷
    -- rule 2.6: 5, a chord of nine members
    read_as (repeating 1 9) 5 ∷
    -- rule 2.6: 5, a chord whose last byte is 3; one whose is 2 is accepted
    read_as (wanting 3 1 2) 5 ∷
    read_as (wanting 2 1 2) 0 ∷
    -- rules 2.2 and 2.4: the most channels, and the most members of a chord
    read_as (repeating 16 8) 0 ∷
    -- rules 4.2 and 4.3: in the run of P, a message of another property does not fit
    run_as table_p (schedule_for 8)
    (Item 0 ∷ Missed ∷ Ended ∷ Refused 13 ∷ Item 1 ∷ Looked 1 ∷ Missed ∷ Ended ∷ replicate 12 (Refused 13)) ∷
    -- rules 1.4 and 6.4: the most cents, and 11 for one more
    run_as table_p (send 0 0 7 999_999_999_999 ∷ send 1 0 7 1_000_000_000_000 ∷ []) (Item 0 ∷ Refused 11 ∷ []) ∷
    -- rules 1.4 and 6.4: the least cents, and 11 for one less
    run_as table_p (send_back 0 0 7 999_999_999_999 ∷ send_back 1 0 7 1_000_000_000_000 ∷ []) (Item 0 ∷ Refused 11 ∷ []) ∷
    -- rule 4.2: the subject, whatever its day, and then the lesser day, or of equal days the lower number
    run_as (repeating 1 2) (three_days 9 3 5) (Item 0 ∷ Item 1 ∷ Item 2 ∷ Looked 2 ∷ Looked 1 ∷ []) ∷
    run_as (repeating 1 2) (three_days 3 9 1) (Item 0 ∷ Item 1 ∷ Item 2 ∷ Looked 2 ∷ Looked 0 ∷ []) ∷
    run_as (repeating 1 2) (three_days 4 4 4) (Item 0 ∷ Item 1 ∷ Item 2 ∷ Looked 2 ∷ Looked 0 ∷ []) ∷
    -- rules 1.2 and 4.2: the last byte 2 wants the property and the unit, 1 the property, and 0 neither
    run_as (wanting 2 1 2) (three_flats 7 1 8 2) (said_flats Missed) ∷
    run_as (wanting 2 1 2) (three_flats 7 1 7 2) (said_flats (Looked 1)) ∷
    run_as (wanting 1 1 2) (three_flats 7 1 7 2) (said_flats (Looked 0)) ∷
    run_as (wanting 1 1 2) (three_flats 8 2 7 1) (said_flats (Looked 1)) ∷
    run_as (wanting 0 1 2) (three_flats 8 1 7 2) (said_flats (Looked 0)) ∷
    -- rule 9.8: no day is closed at first; then the close day is, and the next is not
    run_as table_p (send_on 0 0 7 0 0 ∷ closes 0 ∷ send_on 1 0 7 0 0 ∷ send_on 1 0 7 0 1 ∷ [])
    (Item 0 ∷ Closed ∷ Refused 19 ∷ Item 1 ∷ []) ∷
    -- rule 9.8: 19 before 11, after 10
    run_as table_p
    (closes 5 ∷ send_on 0 0 7 1_000_000_000_000 5 ∷ send_on 0 0 7 1_000_000_000_000 6 ∷ send_on 0 2 7 0 5 ∷ [])
    (Closed ∷ Refused 19 ∷ Refused 11 ∷ Refused 10 ∷ []) ∷
    -- rule 9.8: 20 for a day before the close day; an equal one is accepted
    run_as table_p (closes 5 ∷ closes 4 ∷ closes 5 ∷ closes 4_294_967_295 ∷ [])
    (Closed ∷ Refused 20 ∷ Closed ∷ Closed ∷ []) ∷
    -- rule 9.8: a message whose day was closed is found
    run_as (repeating 1 2) (send_on 0 0 7 0 3 ∷ closes 3 ∷ send_on 1 0 7 0 4 ∷ replicate 2 (steps 1))
    (Item 0 ∷ Closed ∷ Item 1 ∷ Looked 1 ∷ Looked 0 ∷ []) ∷
    -- rules 4.2 and 4.3: a message takes one member, not two of its channel
    run_as (repeating 1 2) one_message said_one ∷
    -- rule 4.6: with a second message both match
    run_as (repeating 1 2) (one_message ++ second_message)
    (said_one ++ Item 1 ∷ Looked 1 ∷ Looked 0 ∷ Claimed 1 ∷ Matched 0 ∷ Consumed 1 ∷ Consumed 0 ∷ []) ∷
    -- rules 4.2 to 4.6, 4.8 to 4.10 and 5.3 to 5.5: a claim is lost, put back and retried; a sender is told
    run_as contended_table contended said_contended ∷ []

-- rule 9.9 at its edges: who has room, and whether the shares are kept
pub record SharesOut : Type 0 where
  -- one sender has taken all that is common, each other still has its own; then all is used, by all senders
  pub one_alone : map (has_room (528 ∷ replicate 31 0)) (0 ∷ 1 ∷ 31 ∷ []) ≡ false ∷ true ∷ true ∷ []
  pub one_less : has_room (527 ∷ replicate 31 0) 0 ≡ true
  pub last_own : map (has_room (528 ∷ 15 ∷ replicate 30 16)) (0 ∷ 1 ∷ 2 ∷ []) ≡ false ∷ true ∷ false ∷ []
  pub all_used : map (has_room (replicate 32 32)) (0 ∷ 31 ∷ []) ≡ false ∷ false ∷ []
  pub kept : map (λ ks. shares_ok ks 1024) ((528 ∷ replicate 31 16) ∷ replicate 32 32 ∷ []) ≡ true ∷ true ∷ []
  pub one_over : map (λ ks. shares_ok ks (added_total ks)) ((529 ∷ replicate 31 0) ∷ (33 ∷ replicate 31 32) ∷ [])
      ≡ false ∷ false ∷ []
  pub sum_off : map (shares_ok (16 ∷ replicate 31 0)) (15 ∷ 16 ∷ 17 ∷ []) ≡ false ∷ true ∷ false ∷ []
