-- Public calls under a merged table (rule 9.4): on channels that are the first's own they do what they do under the
-- first.
use Rattle.std.specs.Prelude.{◌≡◌, true, List, ℕ}
use Rattle.model.specs.Basics.{every}
use Rattle.model.specs.Layout.{table_of}
use Rattle.model.specs.Effects.{Said}
use Rattle.model.specs.Pools.{Call}
use Rattle.merging.specs.Merges.{merge_refusal, merged_bytes, own_channel, adds_to}
use Rattle.boards.specs.Calls.{Held}
use Rattle.boards.specs.Layout.{Lists}
use Rattle.refusals.specs.Held.{held_in}
use Rattle.refusals.specs.Calls.{board_of}
use Rattle.plays.specs.Replays.{CallRows, calls_of}
use Rattle.calls.specs.Reads.{match_number, match_answer, message_number, message_answer, reply_number, reply_answer}
use Rattle.calls.specs.Reads.{quiet_answer}
use Rattle.calls.specs.Calls.{ReplaysIn}
use Rattle.schedules.specs.Schedules.{CallsInTurn, Opened}

-- a read by its number and its answer, on h under the table s and on g under v
abbrev pub Alike : {A : Type 0} → (List ℕ → Held → ℕ → A) → List ℕ → Held → List ℕ → Held → ℕ → Type 0
Alike f s h v g n = f v g n ≡ f s h n

-- h under the table s and g under v are one board, and every read, refused or not, answers the same
pub record ReadsAlike (s : List ℕ) (h : Held) (v : List ℕ) (g : Held) : Type 0 where
  pub board : board_of v g ≡ board_of s h
  pub match-reads : (k : ℕ) → Alike match_number s h v g k × Alike match_answer s h v g k
  pub message_reads : (n : ℕ) → Alike message_number s h v g n × Alike message_answer s h v g n
  pub reply_reads : (i : ℕ) → Alike reply_number s h v g i × Alike reply_answer s h v g i
  pub quiet_reads : quiet_answer v g ≡ quiet_answer s h

-- calls that add to none but the first's own channels
abbrev pub OwnCalls : List ℕ → List ℕ → List ℕ → List Call → Type 0
OwnCalls s z ms ks = every (adds_to (own_channel (table_of s) (table_of z) ms)) ks ≡ true

-- the same calls to a board opened with the first table, and to one opened with the merged table and the same backoff
-- table
pub record MergedCalls : Type 0 where
  pub same : (s z ms rests : List ℕ) (l l' m m' : Lists) (ks : List Call) (ws vs : List Said) → merge_refusal s z ms ≡ 0
      → OwnCalls s z ms ks → Opened s rests l → CallsInTurn s l ks ws l' → Opened (merged_bytes s z ms) rests m
      → CallsInTurn (merged_bytes s z ms) m ks vs m'
      → (vs ≡ ws) × ReadsAlike s (held_in l') (merged_bytes s z ms) (held_in m')
  pub replayed : (s z ms rests : List ℕ) (l l' m m' : Lists) (c : CallRows) (before after after' : List ℕ)
      → merge_refusal s z ms ≡ 0 → OwnCalls s z ms (calls_of c) → Opened s rests l → ReplaysIn s l c before after 0 l'
      → Opened (merged_bytes s z ms) rests m → ReplaysIn (merged_bytes s z ms) m c before after' 0 m'
      → (after' ≡ after) × ReadsAlike s (held_in l') (merged_bytes s z ms) (held_in m')
