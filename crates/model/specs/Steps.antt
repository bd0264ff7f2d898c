-- Steps (rules 4.2 to 4.10, 5.5 and 6.5). Each test's outcome is an argument of a helper by clauses, so that a proof
-- goes by the same clauses.
use Rattle.std.specs.Prelude.{true, Bool, false, ◌&&◌, not, ◌++◌, ◌∷◌, [], List, ℕ, zero, suc, ◌-◌, eqb, leb, ltb, length, get_or}
use Rattle.model.specs.Basics.{pick}
use Rattle.model.specs.Tables.{Table, size, wakes, is_sync, first_sync}
use Rattle.model.specs.Boards.{look, Board, Sender, Job, claim, Phase, revert, consume, claimed, wake}
use Rattle.model.specs.Boards.{is_pending, message_at, channel_of, free, signal, Message, no_message, consumed}
use Rattle.model.specs.Boards.{tell, woken, backoff, backoff_at, pass_end, is_open, working, State, blocked}
use Rattle.model.specs.Boards.{Status, pending, idle, sender_at}
use Rattle.model.specs.Effects.{Effect, Missed, none, Looked, Lost, claims, Claimed, turn, Matched, records}
use Rattle.model.specs.Effects.{Reverted, frees, messages_after, consumes, Consumed, Told, signals, Woke}
use Rattle.model.specs.Effects.{wakes_by, Freed, Signalled, Again, Ended, Rested, Resumed, resumes, Answered}
use Rattle.model.specs.Effects.{Outcome, does, refused}
use Rattle.model.specs.Jobs.{in_job, next_chord, with_chosen, in_phase, with_retry, job_end, new_pass, at_no_chord}
use Rattle.model.specs.Jobs.{in_state, goes_idle}
use Rattle.model.specs.Looks.{missed_retry, choice}

-- Look

-- rules 4.2 and 4.3, by the choice: missed, or looked
abbrev pub looked_by : Table → Board → Sender → Job → ℕ → ℕ → Effect
looked_by t b d w k zero =
    record { said = Missed; change = none; sender = in_job d (next_chord t b w (missed_retry t b w k)) }
looked_by t b d w k (suc n) = record {
  said = Looked n;
  change = none;
  sender =
      in_job d
      (with_chosen w (w.chosen ++ (n ∷ [])) (pick (eqb (suc k) (size t w.chord)) (claim 0) (look (suc k))));
}

-- rules 4.2 and 4.3
unfoldable pub look_step : Table → Board → Sender → Job → ℕ → Effect
look_step t b d w k = looked_by t b d w k (choice t b w k)

-- Claim

-- rule 4.5: what follows a lost claim at place k
abbrev pub lost_at : Table → Board → Job → ℕ → Job
lost_at t b w zero = next_chord t b w true
lost_at t b w (suc k) = in_phase (with_retry w) (revert 0 (suc k))

-- rule 4.5
abbrev pub loses : Table → Board → Sender → Job → ℕ → ℕ → Effect
loses t b d w k n = record { said = Lost n; change = none; sender = in_job d (lost_at t b w k) }

-- rules 4.4 and 4.7
abbrev pub claims_to : Sender → Job → ℕ → Phase → Effect
claims_to d w n p = record { said = Claimed n; change = turn n claims; sender = in_job d (in_phase w p) }

-- rule 4.6: the match is recorded
abbrev pub fires : Board → Sender → Job → ℕ → Effect
fires b d w n = record {
  said = Matched (length b.matches);
  change = records n (record { chord = w.chord; messages = w.chosen });
  sender = in_job d (in_phase w (consume 0 (suc (length b.matches))));
}

-- rules 4.4 to 4.7, by: it is pending; it is the last; the last claim wakes; 1,024 matches stand
abbrev pub claimed_by : Table → Board → Sender → Job → ℕ → ℕ → Bool → Bool → Bool → Bool → Effect
claimed_by t b d w k n false last wakes full = loses t b d w k n
claimed_by t b d w k n true false wakes full = claims_to d w n (claim (suc k))
claimed_by t b d w k n true true true full = claims_to d w n wake
claimed_by t b d w k n true true false true = loses t b d w k n
claimed_by t b d w k n true true false false = fires b d w n

-- rules 4.4 to 4.7
unfoldable pub claim_step : Table → Board → Sender → Job → ℕ → Effect
claim_step t b d w k =
    let n = get_or w.chosen k 0 in
    claimed_by t b d w k n (is_pending (message_at b n).status) (eqb (suc k) (size t w.chord))
    (wakes t w.chord (channel_of b w.subject)) (leb 1024 (length b.matches))

-- rule 4.5: the next claim of m, or after the last on to the next chord
abbrev pub reverted_to : Table → Board → Job → ℕ → ℕ → Bool → Job
reverted_to t b w k m true = next_chord t b w w.retry
reverted_to t b w k m false = in_phase w (revert (suc k) m)

-- rule 4.5
unfoldable pub revert_step : Table → Board → Sender → Job → ℕ → ℕ → Effect
revert_step t b d w k m =
    let n = get_or w.chosen k 0 in
    record { said = Reverted n; change = turn n frees; sender = in_job d (reverted_to t b w k m (eqb (suc k) m)) }

-- A recorded match: its messages consumed, then senders told

-- rule 1.7: the match that the sender made of its own message
abbrev pub with_matched : Bool → Sender → ℕ → Sender
with_matched true d m = record {
  state = d.state;
  signalled = d.signalled;
  own = d.own;
  waker = d.waker;
  reply = d.reply;
  matched = m;
}
with_matched false d m = d

abbrev pub keep_if : Bool → ℕ → List ℕ → List ℕ
keep_if true n ns = n ∷ ns
keep_if false n ns = ns

-- rule 4.6: the messages of synchronous channels but the subject h, in order
abbrev pub to_tell : Table → List Message → ℕ → List ℕ → List ℕ
to_tell t is h [] = []
to_tell t is h (n ∷ ns) = keep_if (is_sync t (get_or is n no_message).sent.channel && not (eqb n h)) n (to_tell t is h ns)

-- rule 4.6: some are to be told, or the job ends
abbrev pub consumed_end : Table → List Message → Sender → Job → List ℕ → Sender
consumed_end t is e w [] = job_end t is e w.subject
consumed_end t is e w (x ∷ xs) = in_job e (in_phase w (tell 0))

abbrev pub consumed_to : Table → List Message → Sender → Job → ℕ → ℕ → Bool → Sender
consumed_to t is e w k m false = in_job e (in_phase w (consume (suc k) m))
consumed_to t is e w k m true = consumed_end t is e w (to_tell t is w.subject w.chosen)

-- rule 4.6
unfoldable pub consume_step : Table → Board → Sender → Job → ℕ → ℕ → Effect
consume_step t b d w k m =
    let n = get_or w.chosen k 0 in
    let is = messages_after (turn n (consumes m)) b.messages in
    let e = with_matched (eqb (suc n) d.own) d m in
    record {
      said = Consumed n;
      change = turn n (consumes m);
      sender = consumed_to t is e w k m (eqb (suc k) (length w.chosen));
    }

abbrev pub told_to : Table → List Message → Sender → Job → ℕ → Bool → Sender
told_to t is d w k false = in_job d (in_phase w (tell (suc k)))
told_to t is d w k true = job_end t is d w.subject

-- rule 4.6
unfoldable pub tell_step : Table → Board → Sender → Job → ℕ → Effect
tell_step t b d w k =
    let ns = to_tell t b.messages w.subject w.chosen in
    let n = get_or ns k 0 in
    record { said = Told n; change = signals n; sender = told_to t b.messages d w k (eqb (suc k) (length ns)) }

-- A wake: one message woken, the others freed, then its sender signalled

-- rule 4.7: the message at the first synchronous member
unfoldable pub woken_of : Table → Job → ℕ
woken_of t w = get_or w.chosen (first_sync t w.chord) 0

-- rule 4.7
unfoldable pub wake_step : Table → Board → Sender → Job → Effect
wake_step t b d w = record {
  said = Woke (woken_of t w);
  change = turn (woken_of t w) (wakes_by w.subject);
  sender = in_job d (in_phase w (pick (leb 2 (length w.chosen)) (free 0) signal));
}

-- the k-th place other than f
unfoldable pub skip : ℕ → ℕ → ℕ
skip f k = elim (ltb k f) [ true ↦ k | false ↦ suc k ]

-- rule 4.7
unfoldable pub free_step : Table → Board → Sender → Job → ℕ → Effect
free_step t b d w k =
    let n = get_or w.chosen (skip (first_sync t w.chord) k) 0 in
    let p = pick (eqb (suc (suc k)) (length w.chosen)) signal (free (suc k)) in
    record { said = Freed n; change = turn n frees; sender = in_job d (in_phase w p) }

-- rule 4.7
unfoldable pub signal_step : Table → Board → Sender → Job → Effect
signal_step t b d w = record {
  said = Signalled (woken_of t w);
  change = signals (woken_of t w);
  sender = job_end t b.messages d w.subject;
}

-- The end of a pass

-- rule 4.10: one retry more; from the sixteenth on the count stays
unfoldable pub more : ℕ → ℕ
more k = pick (leb 16 k) 16 (suc k)

-- rule 4.10: with so many rests to spend, and the new pass with none
abbrev pub rests_then : Table → Board → ℕ → ℕ → ℕ → Job
rests_then t b h k zero = new_pass t b.messages h k
rests_then t b h k (suc rests) = at_no_chord h (backoff rests) false k

-- rule 4.9: the job retries, or ends
abbrev pub pass_end_by : Table → Board → Sender → Job → Bool → Effect
pass_end_by t b d w true =
    let k = more w.retries in
    record { said = Again; change = none; sender = in_job d (rests_then t b w.subject k (backoff_at b.backoffs k)) }
pass_end_by t b d w false = record { said = Ended; change = none; sender = job_end t b.messages d w.subject }

-- rule 4.9
unfoldable pub pass_end_step : Table → Board → Sender → Job → Effect
pass_end_step t b d w = pass_end_by t b d w (w.retry && is_open (message_at b w.subject).status)

-- rule 4.10
unfoldable pub backoff_step : Table → Board → Sender → Job → ℕ → Effect
backoff_step t b d w rests =
    record { said = Rested; change = none; sender = in_job d (rests_then t b w.subject w.retries rests) }

-- rules 4.2 to 4.10, by the phase
abbrev pub job_step : Table → Board → Sender → Job → Phase → Effect
job_step t b d w (look k) = look_step t b d w k
job_step t b d w (claim k) = claim_step t b d w k
job_step t b d w (revert k m) = revert_step t b d w k m
job_step t b d w (consume k m) = consume_step t b d w k m
job_step t b d w (tell k) = tell_step t b d w k
job_step t b d w wake = wake_step t b d w
job_step t b d w (free k) = free_step t b d w k
job_step t b d w signal = signal_step t b d w
job_step t b d w pass_end = pass_end_step t b d w
job_step t b d w (backoff rests) = backoff_step t b d w rests

-- A blocked sender with a signal

-- rule 5.5: a job about its message n begins, by the waker that n notes
abbrev pub resumed : Table → Board → Sender → ℕ → Sender
resumed t b d n = record {
  state = working (new_pass t b.messages n 0);
  signalled = false;
  own = d.own;
  waker = (message_at b n).waker;
  reply = d.reply;
  matched = d.matched;
}

-- rule 5.5: neither consumed nor woken
abbrev pub stays_blocked : Sender → Effect
stays_blocked d = record { said = Ended; change = none; sender = in_state d blocked false }

-- rule 5.5, by the status of its message n
abbrev pub resume_by : Table → Board → Sender → ℕ → Status → Effect
resume_by t b d n pending = stays_blocked d
resume_by t b d n claimed = stays_blocked d
resume_by t b d n woken = record { said = Resumed; change = turn n resumes; sender = resumed t b d n }
resume_by t b d n consumed =
    record { said = Answered ((message_at b n).match - 1); change = none; sender = goes_idle d (message_at b n).match }

-- rule 5.5
unfoldable pub resume_step : Table → Board → Sender → Effect
resume_step t b d = resume_by t b d (d.own - 1) (message_at b (d.own - 1)).status

-- A step of sender i

-- rules 5.5 and 5.6: with a signal, or refusal 13
abbrev pub blocked_step : Table → Board → Sender → Bool → Outcome
blocked_step t b d true = does (resume_step t b d)
blocked_step t b d false = refused 13

-- rule 5.6: refusal 13 for an idle sender
abbrev pub state_step : Table → Board → Sender → State → Outcome
state_step t b d idle = refused 13
state_step t b d (working w) = does (job_step t b d w w.phase)
state_step t b d blocked = blocked_step t b d d.signalled

-- rule 6.5: refusal 8
abbrev pub sender_step : Table → Board → ℕ → Bool → Outcome
sender_step t b i true = refused 8
sender_step t b i false = state_step t b (sender_at b i) (sender_at b i).state

-- rule 6.5
unfoldable pub step_by : Table → Board → ℕ → Outcome
step_by t b i = sender_step t b i (leb 32 i)
