-- What the board owes its users, as types: the frame of a call (rule 6.8), sound boards kept, quiet (rule 5.6), closed
-- days (rule 9.8), fair shares (rule 9.9), backoff tables (rule 9.10), and demand 3 (rules 7.2 to 7.9). That tables
-- survive stands in Layout.
use Rattle.std.specs.Prelude.{◌≡◌, ◌≢◌, Bool, true, false, ◌&&◌, List, ◌++◌, ◌∷◌, [], ℕ, ◌≤◌, ◌<◌, ◌+◌, suc, eqb, ◌+ℤ◌, length, get_or}
use Rattle.model.specs.Basics.{is_in, every, flag}
use Rattle.model.specs.Tables.{Table, is_sync, chord_at}
use Rattle.model.specs.Layout.{table_refusal, table_of}
use Rattle.model.specs.Boards.{Sender, Board, message_at, Match, sender_at, Message, Sent, empty_board}
use Rattle.model.specs.Boards.{is_pending, backoffs_pass, builtin_backoffs}
use Rattle.model.specs.Effects.{Said, Refused, refused, Answered, Closed, word_of}
use Rattle.model.specs.Steps.{step_by}
use Rattle.model.specs.Shares.{tally, added_total}
use Rattle.model.specs.Adds.{add_refusal}
use Rattle.model.specs.Sound.{sound}
use Rattle.model.specs.Pools.{answer_to, steps, adds, closes, Call, quiet, after_all, MatchRead, Pool, played_all}
use Rattle.model.specs.Pools.{Exchange}
use Rattle.model.specs.Pools.{empty_pool, history, match_reads, own_of, sent_at, no_read, times_held, meets}
use Rattle.model.specs.Pools.{cents_added, cents_matched, pool_cents}

-- The frame: what a call leaves as it was, on every board

-- rule 6.8: the same sender, perhaps signalled
pub record SameButSignal (d e : Sender) : Type 0 where
  pub state : e.state ≡ d.state
  pub own : e.own ≡ d.own
  pub waker : e.waker ≡ d.waker
  pub reply : e.reply ≡ d.reply
  pub matched : e.matched ≡ d.matched
  pub signalled : d.signalled ≡ true → e.signalled ≡ true

-- rule 6.8: a step of sender i from b to b'
pub record StepFrame (b b' : Board) (i : ℕ) : Type 0 where
  pub message : ℕ
  pub other_messages : (n : ℕ) → n ≢ message → message_at b' n ≡ message_at b n
  pub as_sent : (n : ℕ) → (message_at b' n).sent ≡ (message_at b n).sent
  pub count : length b'.messages ≡ length b.messages
  pub recorded : List Match
  pub matches : b'.matches ≡ b.matches ++ recorded
  pub at_most_one : length recorded ≤ 1
  pub other_senders : (j : ℕ) → j ≢ i → SameButSignal (sender_at b j) (sender_at b' j)
  pub backoffs : b'.backoffs ≡ b.backoffs
  pub closed : b'.closed ≡ b.closed
  pub tallies : b'.tallies ≡ b.tallies

-- rule 6.8: an add by sender i; a message may be appended, all else but that sender stays
pub record AddFrame (b b' : Board) (i : ℕ) : Type 0 where
  pub appended : List Message
  pub messages : b'.messages ≡ b.messages ++ appended
  pub at_most_one : length appended ≤ 1
  pub matches : b'.matches ≡ b.matches
  pub other_senders : (j : ℕ) → j ≢ i → sender_at b' j ≡ sender_at b j
  pub backoffs : b'.backoffs ≡ b.backoffs
  pub closed : b'.closed ≡ b.closed
  pub other_tallies : (j : ℕ) → j ≢ i → tally b'.tallies j ≡ tally b.tallies j

-- rule 9.8: a close; nothing but the close day alters, and that does not fall
pub record CloseFrame (b b' : Board) : Type 0 where
  pub messages : b'.messages ≡ b.messages
  pub matches : b'.matches ≡ b.matches
  pub senders : b'.senders ≡ b.senders
  pub backoffs : b'.backoffs ≡ b.backoffs
  pub closed : b.closed ≤ b'.closed
  pub tallies : b'.tallies ≡ b.tallies

-- rules 6.1, 6.8 and 9.8
pub record Frame : Type 0 where
  pub step : (t : Table) (b : Board) (i : ℕ) → StepFrame b (answer_to t b (steps i)).board i
  pub add : (t : Table) (b : Board) (i : ℕ) (x : Sent) → AddFrame b (answer_to t b (adds i x)).board i
  pub close : (t : Table) (b : Board) (day : ℕ) → CloseFrame b (answer_to t b (closes day)).board
  -- rule 6.1
  pub refusal : (t : Table) (b : Board) (c : Call) (f : ℕ) → (answer_to t b c).said ≡ Refused f
      → (answer_to t b c).board ≡ b

-- section 3: every call leaves a sound board sound, also one that no schedule leads to
abbrev pub SoundKept : Type 0
SoundKept = (t : Table) (b : Board) (c : Call) → sound t b ≡ true → sound t (answer_to t b c).board ≡ true

-- rules 5.6 and 6.5: just on a quiet board every step is refused 13
pub record QuietExactly : Type 0 where
  pub there : (t : Table) (b : Board) → quiet b ≡ true → (i : ℕ) → i < 32 → step_by t b i ≡ refused 13
  pub back : (t : Table) (b : Board) → length b.senders ≡ 32 → ((i : ℕ) → i < 32 → step_by t b i ≡ refused 13)
      → quiet b ≡ true

-- rule 9.8: after an accepted close, whatever calls come between, an add of the close day or before is refused
abbrev pub StaysClosed : Type 0
StaysClosed = (t : Table) (b : Board) (day : ℕ) (cs : List Call) (i : ℕ) (x : Sent)
    → (answer_to t b (closes day)).said ≡ Closed
    → x.day ≤ day
    → (f : ℕ) × (is_in f (8 ∷ 9 ∷ 10 ∷ 19 ∷ []) ≡ true)
    × ((answer_to t (after_all t b (closes day ∷ cs)) (adds i x)).said ≡ Refused f)

-- Fair shares

-- rule 9.9: on every board no add is refused 12, and none of a sender's first 16 is refused 26
pub record OwnShare (t : Table) (b : Board) : Type 0 where
  pub never_12 : (i : ℕ) (x : Sent) → (answer_to t b (adds i x)).said ≢ Refused 12
  pub first_16 : (i : ℕ) (x : Sent) → tally b.tallies i < 16 → (answer_to t b (adds i x)).said ≢ Refused 26

-- rule 9.9: what a sound board's tallies bound; the 1,024 follow from them
pub record SharedOut (t : Table) (b : Board) : Type 0 where
  pub sender_most : (i : ℕ) → tally b.tallies i ≤ 528
  pub all_most : added_total b.tallies ≤ 1024
  pub fits : (i : ℕ) (x : Sent) → add_refusal t b i x ≡ 0 → length b.messages < 1024

-- rule 9.9: an accepted add of sender i
abbrev pub adds_one : ℕ → Call → Said → Bool
adds_one i (adds j x) a = eqb j i && eqb (word_of a) 0
adds_one i (steps j) a = false
adds_one i (closes day) a = false

-- how many adds of sender i were accepted
abbrev pub accepted_adds : ℕ → List Exchange → ℕ
accepted_adds i [] = 0
accepted_adds i (e ∷ es) = flag (adds_one i e.call e.said) + accepted_adds i es

-- rule 9.9: after any calls a tally has risen by the sender's accepted adds
abbrev pub Tallied : Table → Board → List Call → Type 0
Tallied t b cs = (i : ℕ)
    → tally (after_all t b cs).tallies i ≡ tally b.tallies i + accepted_adds i (history t b cs)

-- rule 9.9
pub record FairShares : Type 0 where
  pub own_share : (t : Table) (b : Board) → OwnShare t b
  pub shared_out : (t : Table) (b : Board) → sound t b ≡ true → SharedOut t b
  pub tallied : (t : Table) (b : Board) (cs : List Call) → sound t b ≡ true → Tallied t b cs
  -- by a schedule's calls and answers alone
  pub never_26 : (t : Table) (rests : List ℕ) (cs : List Call) (i : ℕ) (x : Sent)
      → accepted_adds i (history t (empty_board rests) cs) < 16
      → (answer_to t (after_all t (empty_board rests) cs) (adds i x)).said ≢ Refused 26
  pub at_most_528 : (t : Table) (rests : List ℕ) (cs : List Call) (i : ℕ)
      → accepted_adds i (history t (empty_board rests) cs) ≤ 528

-- rule 7.1
abbrev pub board_after : Table → List ℕ → List Call → Board
board_after t rests cs = after_all t (empty_board rests) cs

-- Backoff tables

-- rule 9.10: a backoff table that passes, entry by entry
pub record Passing (rests : List ℕ) : Type 0 where
  pub sixteen : length rests ≡ 16
  pub at_most_64 : (k : ℕ) → k < 16 → get_or rests k 0 ≤ 64
  pub never_less : (k : ℕ) → suc k < 16 → get_or rests k 0 ≤ get_or rests (suc k) 0

-- rule 9.10
pub record OwnRests : Type 0 where
  pub there : (rests : List ℕ) → backoffs_pass rests ≡ true → Passing rests
  pub back : (rests : List ℕ) → Passing rests → backoffs_pass rests ≡ true
  pub builtin : backoffs_pass builtin_backoffs ≡ true
  pub asked : (t : Table) (b : Board) → sound t b ≡ true → backoffs_pass b.backoffs ≡ true
  -- whatever is called, on every board
  pub kept : (t : Table) (b : Board) (cs : List Call) → (after_all t b cs).backoffs ≡ b.backoffs
  -- opened with any list at all, a board of a schedule is sound exactly if the list passes
  pub exactly : (t : Table) (rests : List ℕ) (cs : List Call) → sound t (board_after t rests cs) ≡ backoffs_pass rests

-- Demand 3

-- rule 7.3: the pool after the calls, by these match reads
unfoldable pub pool_after : Table → List ℕ → List MatchRead → List Call → Pool
pool_after t rests ms cs = played_all t ms empty_pool (history t (empty_board rests) cs)

abbrev pub final_reads : Table → List ℕ → List Call → List MatchRead
final_reads t rests cs = match_reads t (board_after t rests cs)

abbrev pub pool_of : Table → List ℕ → List Call → Pool
pool_of t rests cs = pool_after t rests (final_reads t rests cs) cs

-- rule 7.8: of sender i and match k, by the pool's record
pub record HoldsOwn (t : Table) (p : Pool) (ms : List MatchRead) (i k : ℕ) : Type 0 where
  pub message : ℕ
  pub own : own_of p i ≡ suc message
  pub sync : is_sync t (sent_at p.sent message).channel ≡ true
  pub held : is_in message (get_or ms k no_read).messages ≡ true
  pub once : times_held message ms ≡ 1

-- rules 7.2 to 7.8
pub record RunOf (t : Table) (rests : List ℕ) (cs : List Call) : Type 0 where
  -- rules 7.2 and 9.10
  pub all_sound : (before rest : List Call) → cs ≡ before ++ rest → backoffs_pass rests ≡ true
      → sound t (board_after t rests before) ≡ true
  -- rule 7.7
  pub is_run : (pool_of t rests cs).good ≡ true
  pub no_more : length (final_reads t rests cs) ≡ (pool_of t rests cs).matches
  -- rule 7.4: the board has what was sent, and each sender the message that the pool has for it
  pub all_kept : length (board_after t rests cs).messages ≡ length (pool_of t rests cs).sent
  pub as_sent : (n : ℕ) → (message_at (board_after t rests cs) n).sent ≡ sent_at (pool_of t rests cs).sent n
  pub own_is : (i : ℕ) → (sender_at (board_after t rests cs) i).own ≡ own_of (pool_of t rests cs) i
  -- rule 7.8
  pub answered : (before rest : List Call) (i k : ℕ)
      → cs ≡ before ++ (steps i ∷ rest)
      → (answer_to t (board_after t rests before) (steps i)).said ≡ Answered k
      → HoldsOwn t (pool_after t rests (final_reads t rests cs) before) (final_reads t rests cs) i k
  pub replied : (before rest : List Call) (i k : ℕ)
      → cs ≡ before ++ rest
      → (sender_at (board_after t rests before) i).reply ≡ suc k
      → HoldsOwn t (pool_after t rests (final_reads t rests cs) before) (final_reads t rests cs) i k

-- rule 7.9
pub record QuietAt (t : Table) (rests : List ℕ) (cs : List Call) : Type 0 where
  pub pending : (n : ℕ)
      → n < length (board_after t rests cs).messages
      → is_pending (message_at (board_after t rests cs) n).status ≡ is_in n (pool_of t rests cs).inside
  -- nothing more can match
  pub none_met : (r : ℕ) (ns : List ℕ)
      → r < length t.chords
      → every (λ n. is_in n (pool_of t rests cs).inside) ns ≡ true
      → meets (chord_at t r) (sent_at (pool_of t rests cs).sent) ns ≡ false
  pub waits : (i n : ℕ)
      → own_of (pool_of t rests cs) i ≡ suc n
      → is_sync t (sent_at (pool_of t rests cs).sent n).channel ≡ true
      → eqb (sender_at (board_after t rests cs) i).reply 0 ≡ is_in n (pool_of t rests cs).inside
  pub cents : cents_added t (pool_of t rests cs).sent
      ≡ cents_matched (final_reads t rests cs)
      +ℤ pool_cents t (sent_at (pool_of t rests cs).sent) (pool_of t rests cs).inside

-- rules 7.2 to 7.9, for every accepted table, every backoff table and every schedule (rule 7.1)
pub record Demand3 : Type 0 where
  pub runs : (s rests : List ℕ) (cs : List Call) → table_refusal s ≡ 0 → RunOf (table_of s) rests cs
  pub quietly : (s rests : List ℕ) (cs : List Call)
      → table_refusal s ≡ 0
      → quiet (board_after (table_of s) rests cs) ≡ true
      → QuietAt (table_of s) rests cs
