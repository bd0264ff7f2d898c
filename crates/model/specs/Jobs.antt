-- A job: its passes over the chords (rule 4.1), and its end (rules 5.1 to 5.4).
use Rattle.std.specs.Prelude.{Bool, true, false, not, ◌&&◌, List, [], ℕ, ◌-◌, suc, zero, ltb, eqb, length, get_or}
use Rattle.model.specs.Tables.{Table, naming, is_sync}
use Rattle.model.specs.Boards.{State, Sender, Job, working, Phase, look, pass_end, Board, channel_of, Message}
use Rattle.model.specs.Boards.{no_message, idle, blocked, is_consumed}

-- records anew with one field, or two, altered
abbrev pub in_state : Sender → State → Bool → Sender
in_state d s g = record {
  state = s;
  signalled = g;
  own = d.own;
  waker = d.waker;
  reply = d.reply;
  matched = d.matched;
}

abbrev pub in_job : Sender → Job → Sender
in_job d w = in_state d (working w) d.signalled

abbrev pub with_chosen : Job → List ℕ → Phase → Job
with_chosen w c p = record {
  subject = w.subject;
  chord = w.chord;
  phase = p;
  chosen = c;
  retry = w.retry;
  retries = w.retries;
}

abbrev pub in_phase : Job → Phase → Job
in_phase w p = with_chosen w w.chosen p

abbrev pub with_retry : Job → Job
with_retry w = record {
  subject = w.subject;
  chord = w.chord;
  phase = w.phase;
  chosen = w.chosen;
  retry = true;
  retries = w.retries;
}

-- a job at no chord: its pass has ended, or it backs off
abbrev pub at_no_chord : ℕ → Phase → Bool → ℕ → Job
at_no_chord h p retry k = record { subject = h; chord = 0; phase = p; chosen = []; retry = retry; retries = k }

-- rule 4.1: at chord r, or at the end of the pass where there is none
abbrev pub start_at : Bool → ℕ → ℕ → Bool → ℕ → Job
start_at true h r retry k = record { subject = h; chord = r; phase = look 0; chosen = []; retry = retry; retries = k }
start_at false h r retry k = at_no_chord h pass_end retry k

-- rule 4.1: a pass from a chord on, for subject h
unfoldable pub pass_from : Table → ℕ → ℕ → ℕ → Bool → ℕ → Job
pass_from t h channel from retry k =
    start_at (ltb (naming t channel from) (length t.chords)) h (naming t channel from) retry k

-- rules 4.3 and 4.5: on to the next chord
abbrev pub next_chord : Table → Board → Job → Bool → Job
next_chord t b w retry = pass_from t w.subject (channel_of b w.subject) (suc w.chord) retry w.retries

-- rule 4.1: a pass from the first chord on, without the retry mark
abbrev pub new_pass : Table → List Message → ℕ → ℕ → Job
new_pass t is h k = pass_from t h (get_or is h no_message).sent.channel 0 false k

-- A job's end (rules 5.1 to 5.4), on the messages as the step leaves them

-- rules 5.1, 5.3 and 5.5: idle, with reply l (0 for none) and without a signal
abbrev pub goes_idle : Sender → ℕ → Sender
goes_idle d l = record {
  state = idle;
  signalled = false;
  own = d.own;
  waker = d.waker;
  reply = l;
  matched = d.matched;
}

-- rules 5.3 and 5.4, by the match that it made of its own message
abbrev pub matched_end : Sender → ℕ → Sender
matched_end d zero = in_state d blocked d.signalled
matched_end d (suc m) = goes_idle d (suc m)

-- rule 5.2: begins a job about its waker v, or not
abbrev pub waker_end : Table → List Message → Sender → ℕ → Bool → Sender
waker_end t is d v true = in_job d (new_pass t is v 0)
waker_end t is d v false = matched_end d d.matched

-- rule 5.2: whether it has a waker v that is not consumed and is not the subject h
abbrev pub sync_end : Table → List Message → Sender → ℕ → ℕ → Sender
sync_end t is d h zero = matched_end d d.matched
sync_end t is d h (suc v) = waker_end t is d v (not (is_consumed (get_or is v no_message).status) && not (eqb v h))

-- rule 5.1 for an asynchronous channel, else rules 5.2 to 5.4
abbrev pub ends_by : Table → List Message → Sender → ℕ → Bool → Sender
ends_by t is d h false = goes_idle d 0
ends_by t is d h true = sync_end t is d h d.waker

-- rules 5.1 to 5.4, for a job about subject h
unfoldable pub job_end : Table → List Message → Sender → ℕ → Sender
job_end t is d h = ends_by t is d h (is_sync t (get_or is (d.own - 1) no_message).sent.channel)
