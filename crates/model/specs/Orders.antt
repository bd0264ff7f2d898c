-- Orders that the rules fix, as types: of an add's refusals (rules 6.1, 6.4, 9.8 and 9.9), and of the rests of a
-- job's retries (rule 4.10).
use Rattle.std.specs.Prelude.{◌≡◌, ◌⊎◌, true, false, ◌&&◌, map, [], ◌∷◌, ℕ, zero, suc, ◌≤◌, ◌<◌, min, nat_abs, length}
use Rattle.model.specs.Tables.{Table}
use Rattle.model.specs.Boards.{Board, Sent, Sender, Job, sender_at, is_idle, backoff_at, builtin_backoffs}
use Rattle.model.specs.Boards.{is_open, message_at}
use Rattle.model.specs.Effects.{Again, none}
use Rattle.model.specs.Jobs.{in_job}
use Rattle.model.specs.Steps.{more, pass_end_step, rests_then}
use Rattle.model.specs.Shares.{tally, common_used}
use Rattle.model.specs.Adds.{add_refusal}

-- rules 6.1, 6.4, 9.8 and 9.9: each number where its ground holds and none before it, whatever comes after
pub record AddOrder (t : Table) (b : Board) (i : ℕ) (x : Sent) : Type 0 where
  pub no_sender : 32 ≤ i → add_refusal t b i x ≡ 8
  pub not_idle : i < 32 → is_idle (sender_at b i).state ≡ false → add_refusal t b i x ≡ 9
  pub no_channel : i < 32
      → is_idle (sender_at b i).state ≡ true
      → length t.kinds ≤ x.channel
      → add_refusal t b i x ≡ 10
  pub day_closed : i < 32
      → is_idle (sender_at b i).state ≡ true
      → x.channel < length t.kinds
      → x.day < b.closed
      → add_refusal t b i x ≡ 19
  pub cents_out : i < 32
      → is_idle (sender_at b i).state ≡ true
      → x.channel < length t.kinds
      → b.closed ≤ x.day
      → 999_999_999_999 < nat_abs x.cents
      → add_refusal t b i x ≡ 11
  pub no_room : i < 32
      → is_idle (sender_at b i).state ≡ true
      → x.channel < length t.kinds
      → b.closed ≤ x.day
      → nat_abs x.cents ≤ 999_999_999_999
      → 16 ≤ tally b.tallies i
      → 512 ≤ common_used b.tallies
      → add_refusal t b i x ≡ 26
  pub accepted : i < 32
      → is_idle (sender_at b i).state ≡ true
      → x.channel < length t.kinds
      → b.closed ≤ x.day
      → nat_abs x.cents ≤ 999_999_999_999
      → (tally b.tallies i < 16) ⊎ (common_used b.tallies < 512)
      → add_refusal t b i x ≡ 0

-- what a job that said `again` k times keeps of that
abbrev pub times : ℕ → ℕ
times zero = 0
times (suc k) = more (times k)

-- rules 1.9 and 4.10
pub record BackoffsInOrder : Type 0 where
  pub times_is : (k : ℕ) → times k ≡ min k 16
  -- one more `again` of such a job: the k-th entry, and from the sixteenth on that one
  pub rests : (t : Table) (b : Board) (d : Sender) (w : Job) (k : ℕ)
      → w.retries ≡ times k
      → (w.retry && is_open (message_at b w.subject).status) ≡ true
      → pass_end_step t b d w
      ≡ record {
        said = Again;
        change = none;
        sender = in_job d (rests_then t b w.subject (times (suc k)) (backoff_at b.backoffs (min (suc k) 16)));
      }
  pub builtin : map (λ k. backoff_at builtin_backoffs (times k))
      (1 ∷ 2 ∷ 3 ∷ 4 ∷ 5 ∷ 6 ∷ 7 ∷ 8 ∷ 9 ∷ 10 ∷ 11 ∷ 12 ∷ 13 ∷ 14 ∷ 15 ∷ 16 ∷ [])
      ≡ 0 ∷ 1 ∷ 1 ∷ 2 ∷ 2 ∷ 4 ∷ 4 ∷ 8 ∷ 8 ∷ 16 ∷ 16 ∷ 16 ∷ 32 ∷ 32 ∷ 32 ∷ 32 ∷ []
  pub builtin_last : (k : ℕ) → 16 ≤ k → backoff_at builtin_backoffs (times k) ≡ 32
