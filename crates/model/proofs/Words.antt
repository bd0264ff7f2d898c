-- What a step says: `matched` just where it records a match, `refused` never where it does something, and `answered`
-- only to a blocked sender, with the match of its own consumed message.
use mathlib.Core.Path.{◌≡◌, refl, sym, ◌∙◌, ap}
use mathlib.Core.Bool.{Bool, false, true, ◌&&◌}
use Prim.Native.Nat.{◌-◌, ℕ, zero, suc}
use lib.Dec.{eqb, leb}
use lib.ListN.{get_or, length}
use Rattle.model.specs.Tables.{Table, wakes, size}
use Rattle.model.specs.Boards.{signal, Board, Sender, Job, look, claimed, claim, pending, wake, Phase, revert}
use Rattle.model.specs.Boards.{consume, tell, free, pass_end, backoff, is_pending, message_at, channel_of, is_open}
use Rattle.model.specs.Boards.{Status, woken, consumed, blocked, sender_at, State, idle, working}
use Rattle.model.specs.Effects.{Change, none, turn, records, signals, Effect, word_of, refused, Outcome, does}
use Rattle.model.specs.Effects.{Answered, Said, value_of}
use Rattle.model.specs.Looks.{choice}
use Rattle.model.specs.Steps.{looked_by, claimed_by, pass_end_by, job_step, look_step, claim_step, revert_step}
use Rattle.model.specs.Steps.{consume_step, tell_step, wake_step, free_step, signal_step, pass_end_step}
use Rattle.model.specs.Steps.{backoff_step, resume_by, step_by, resume_step, blocked_step, state_step, sender_step}
use Rattle.model.specs.Pools.{step_answer}
use Rattle.model.proofs.Tests.{never}

abbrev pub is_record : Change → Bool
is_record none = false
is_record (turn n τ) = false
is_record (records n m) = true
is_record (signals n) = false

-- an effect says `matched` just where it records a match, and never that it was refused
pub record Speaks (e : Effect) : Type 0 where
  pub matched : eqb (word_of e.said) 6 ≡ is_record e.change
  pub unrefused : eqb (word_of e.said) 17 ≡ false

-- an effect of a sender at work answers nobody
abbrev SpeaksAtWork : Effect → Type 0
SpeaksAtWork e = Speaks e × (eqb (word_of e.said) 15 ≡ false)

plain : {e : Effect}
    → eqb (word_of e.said) 6 ≡ is_record e.change
    → eqb (word_of e.said) 17 ≡ false
    → eqb (word_of e.said) 15 ≡ false
    → SpeaksAtWork e
plain m u a = (record { matched = m; unrefused = u }, a)

module _ (t : Table) (b : Board) (d : Sender) (w : Job) where
  looked-speaks : (k c : ℕ) → SpeaksAtWork (looked_by t b d w k c)
  looked-speaks k zero = plain refl refl refl
  looked-speaks k (suc n) = plain refl refl refl

  claimed-speaks : (k n : ℕ) (pending last wakes full : Bool)
      → SpeaksAtWork (claimed_by t b d w k n pending last wakes full)
  claimed-speaks k n false last wakes full = plain refl refl refl
  claimed-speaks k n true false wakes full = plain refl refl refl
  claimed-speaks k n true true true full = plain refl refl refl
  claimed-speaks k n true true false true = plain refl refl refl
  claimed-speaks k n true true false false = plain refl refl refl

  ended-speaks : (again : Bool) → SpeaksAtWork (pass_end_by t b d w again)
  ended-speaks true = plain refl refl refl
  ended-speaks false = plain refl refl refl

  job-speaks : (p : Phase) → SpeaksAtWork (job_step t b d w p)
  unfolding look_step claim_step revert_step consume_step tell_step wake_step free_step signal_step
      pass_end_step backoff_step
  job-speaks (look k) = looked-speaks k (choice t b w k)
  job-speaks (claim k) = claimed-speaks k _ (is_pending (message_at b (get_or w.chosen k 0)).status)
      (eqb (suc k) (size t w.chord)) (wakes t w.chord (channel_of b w.subject)) (leb 1024 (length b.matches))
  job-speaks (revert k m) = plain refl refl refl
  job-speaks (consume k m) = plain refl refl refl
  job-speaks (tell k) = plain refl refl refl
  job-speaks wake = plain refl refl refl
  job-speaks (free k) = plain refl refl refl
  job-speaks signal = plain refl refl refl
  job-speaks pass_end = ended-speaks (w.retry && is_open (message_at b w.subject).status)
  job-speaks (backoff rests) = plain refl refl refl

resume-speaks : (t : Table) (b : Board) (d : Sender) (n : ℕ) (x : Status) → Speaks (resume_by t b d n x)
resume-speaks t b d n pending = record { matched = refl; unrefused = refl }
resume-speaks t b d n claimed = record { matched = refl; unrefused = refl }
resume-speaks t b d n woken = record { matched = refl; unrefused = refl }
resume-speaks t b d n consumed = record { matched = refl; unrefused = refl }

abbrev pub OutcomeSpeaks : Outcome → Type 0
OutcomeSpeaks (refused f) = Unit {0}
OutcomeSpeaks (does e) = Speaks e

pub step-speaks : (t : Table) (b : Board) (i : ℕ) → OutcomeSpeaks (step_by t b i)
unfolding step_by resume_step
step-speaks t b i = at (leb 32 i)
  where
    by-signal : (g : Bool) → OutcomeSpeaks (blocked_step t b (sender_at b i) g)
    by-signal false = tt
    by-signal true = resume-speaks t b (sender_at b i) _ (message_at b ((sender_at b i).own - 1)).status

    by : (x : State) → OutcomeSpeaks (state_step t b (sender_at b i) x)
    by idle = tt
    by (working w) = (job-speaks t b (sender_at b i) w w.phase).0
    by blocked = by-signal (sender_at b i).signalled

    at : (u : Bool) → OutcomeSpeaks (sender_step t b i u)
    at true = tt
    at false = by (sender_at b i).state

-- who is answered, and what
pub record AnswersOwn (b : Board) (i k : ℕ) : Type 0 where
  pub is_blocked : (sender_at b i).state ≡ blocked
  pub is-consumed : (message_at b ((sender_at b i).own - 1)).status ≡ consumed
  pub match_is : k ≡ (message_at b ((sender_at b i).own - 1)).match - 1

pub answered-said : (t : Table) (b : Board) (i k : ℕ) → (step_answer b i (step_by t b i)).said ≡ Answered k
    → AnswersOwn b i k
unfolding step_by resume_step
answered-said t b i k = at (leb 32 i)
  where
    not-15 : {a : Said} → eqb (word_of a) 15 ≡ false → a ≡ Answered k → ⊥
    not-15 e q = never (sym e ∙ ap (λ (a : Said). eqb (word_of a) 15) q)

    own : (x : Status) → (message_at b ((sender_at b i).own - 1)).status ≡ x → (sender_at b i).state ≡ blocked
        → (resume_by t b (sender_at b i) ((sender_at b i).own - 1) x).said ≡ Answered k → AnswersOwn b i k
    own pending e st q = absurd (not-15 refl q)
    own claimed e st q = absurd (not-15 refl q)
    own woken e st q = absurd (not-15 refl q)
    own consumed e st q = record { is_blocked = st; is-consumed = e; match_is = sym (ap value_of q) }

    resumes-own : (g : Bool) → (sender_at b i).state ≡ blocked
        → (step_answer b i (blocked_step t b (sender_at b i) g)).said ≡ Answered k → AnswersOwn b i k
    resumes-own false st q = absurd (not-15 refl q)
    resumes-own true st q = own (message_at b ((sender_at b i).own - 1)).status refl st q

    by : (x : State) → (sender_at b i).state ≡ x
        → (step_answer b i (state_step t b (sender_at b i) x)).said ≡ Answered k → AnswersOwn b i k
    by idle st q = absurd (not-15 refl q)
    by (working w) st q = absurd (not-15 (job-speaks t b (sender_at b i) w w.phase).1 q)
    by blocked st q = resumes-own (sender_at b i).signalled st q

    at : (u : Bool) → (step_answer b i (sender_step t b i u)).said ≡ Answered k → AnswersOwn b i k
    at true q = absurd (not-15 refl q)
    at false q = by (sender_at b i).state refl q
