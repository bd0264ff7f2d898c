-- Public calls one after another, and a replay, and what they owe together (rule 7.10): demand 3, about what the calls
-- return.
use Rattle.std.specs.Prelude.{◌≡◌, ◌≢◌, true, List, [], ◌∷◌, ◌++◌, ℕ, ◌<◌, length, get_or, drop}
use Rattle.model.specs.Layout.{table_of}
use Rattle.model.specs.Boards.{Board, empty_board, message_at, sender_at}
use Rattle.model.specs.Effects.{Said, number_of, Ended}
use Rattle.model.specs.Pools.{Call, Exchange, after_all, history, quiet, match_reads, no_read}
use Rattle.model.specs.Demands.{board_after, RunOf, QuietAt}
use Rattle.boards.specs.Calls.{Held}
use Rattle.boards.specs.Layout.{Lists, Sized}
use Rattle.refusals.specs.Held.{held_in}
use Rattle.refusals.specs.Calls.{board_of, refusal_of}
use Rattle.plays.specs.Replays.{CallRows, calls_len, calls_of, answer_numbers}
use Rattle.calls.specs.Reads.{match_answer, message_answer, reply_answer, quiet_answer}
use Rattle.calls.specs.Opens.{open_number, opened_numbers}
use Rattle.calls.specs.Calls.{Calls, ReplaysIn}

-- rule 7.1: the calls, and what was said to them, from l to l'; each call is lent the lists that the one before left
abbrev pub CallsInTurn : List ℕ → Lists → List Call → List Said → Lists → Type 0
CallsInTurn s l [] ws l' = (ws ≡ []) × (l' ≡ l)
CallsInTurn s l (k ∷ ks) [] l' = ⊥
CallsInTurn s l (k ∷ ks) (w ∷ ws) l' = (g : Lists) × Calls s l k w g × CallsInTurn s g ks ws l'

abbrev pub exchanges : List Call → List Said → List Exchange
exchanges [] ws = []
exchanges (k ∷ ks) [] = []
exchanges (k ∷ ks) (w ∷ ws) = record { call = k; said = w } ∷ exchanges ks ws

-- rules 7.1 and 7.2: from an accepted board, calls and answers are the model's schedule, and none is refused 30
pub record IsSchedule (s : List ℕ) (h : Held) (ks : List Call) (ws : List Said) (h' : Held) : Type 0 where
  pub says : exchanges ks ws ≡ history (table_of s) (board_of s h) ks
  pub leaves : board_of s h' ≡ after_all (table_of s) (board_of s h) ks
  pub accepted : refusal_of s h' ≡ 0
  pub never_30 : (n : ℕ) → number_of (get_or ws n Ended) ≢ 30

-- rule 6.6: what the reads answer on h is what b holds
pub record ReadsAs (s : List ℕ) (h : Held) (b : Board) : Type 0 where
  pub match-reads : (k : ℕ) → k < length b.matches
      → match_answer s h k ≡ get_or (match_reads (table_of s) b) k no_read
  pub message_reads : (n : ℕ) → n < length b.messages
      → message_answer s h n ≡ message_at b n
  pub reply_reads : (i : ℕ) → i < 32 → reply_answer s h i ≡ (sender_at b i).reply
  pub quiet_reads : quiet_answer s h ≡ quiet b

-- rules 7.2 to 7.9: h' and its reads are those that demand 3 speaks of after these calls
pub record KeepsDemand3 (s rests : List ℕ) (ks : List Call) (h' : Held) : Type 0 where
  pub leaves : board_of s h' ≡ board_after (table_of s) rests ks
  pub reads : ReadsAs s h' (board_after (table_of s) rests ks)
  pub accepted : refusal_of s h' ≡ 0
  pub run : RunOf (table_of s) rests ks
  pub quietly : quiet (board_of s h') ≡ true → QuietAt (table_of s) rests ks

-- rules 6.3 and 9.10: lists whose board was just opened with a backoff table, given or built in; the others are of
-- their lengths and hold anything
pub record Opened (s rests : List ℕ) (l : Lists) : Type 0 where
  pub before : List ℕ
  pub opens : open_number s rests before ≡ 0
  pub board : l.board ≡ opened_numbers s rests before
  pub sized : Sized l

-- rule 7.10
pub record PublicCalls : Type 0 where
  pub schedule : (s : List ℕ) (l : Lists) (ks : List Call) (ws : List Said) (l' : Lists)
      → refusal_of s (held_in l) ≡ 0 → CallsInTurn s l ks ws l' → IsSchedule s (held_in l) ks ws (held_in l')
  pub opened : (s rests : List ℕ) (l : Lists) → Opened s rests l
      → (refusal_of s (held_in l) ≡ 0) × (board_of s (held_in l) ≡ empty_board rests)
  pub demand : (s rests : List ℕ) (l : Lists) (ks : List Call) (ws : List Said) (l' : Lists)
      → Opened s rests l → CallsInTurn s l ks ws l'
      → IsSchedule s (held_in l) ks ws (held_in l') × KeepsDemand3 s rests ks (held_in l')
  pub replayed : (s rests : List ℕ) (l : Lists) (c : CallRows) (before after : List ℕ) (l' : Lists)
      → Opened s rests l → ReplaysIn s l c before after 0 l' → KeepsDemand3 s rests (calls_of c) (held_in l')
      × (after ≡ answer_numbers (history (table_of s) (empty_board rests) (calls_of c))
      ++ drop (calls_len c) before)
  -- whatever is called, no answer of a schedule is 30
  pub history_never_30 : (s : List ℕ) (h : Held) (ks : List Call) (n : ℕ) (z : Exchange) → number_of z.said ≡ 0
      → number_of (get_or (history (table_of s) (board_of s h) ks) n z).said ≢ 30
