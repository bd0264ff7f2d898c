-- Declared phases, jobs, senders and effects as the model's, and the builders' results.
-- How many messages a job has chosen is read off its phase and chord, so that no count can disagree with them.
use Rattle.std.specs.Prelude.{Bool, true, false, ℕ, take}
use Rattle.state.specs.declared.Phase as DP
use Rattle.state.specs.declared.Phase.TheVariants as P
use Rattle.state.specs.declared.State as DS
use Rattle.state.specs.declared.State.TheVariants as S
use Rattle.state.specs.declared.Job as DJ
use Rattle.state.specs.declared.Sender as DD
use Rattle.state.specs.declared.Said as DW
use Rattle.state.specs.declared.Said.TheVariants as W
use Rattle.state.specs.declared.Turn as DU
use Rattle.state.specs.declared.Turn.TheVariants as U
use Rattle.state.specs.declared.Change as DG
use Rattle.state.specs.declared.Change.TheVariants as G
use Rattle.state.specs.declared.Effect as DE
use Rattle.model.specs.Tables.{Table, size}
use Rattle.model.specs.Boards.{Phase, look, claim, revert, consume, tell, wake, free, signal, pass_end, backoff, Job}
use Rattle.model.specs.Boards.{State, idle, working, blocked, Sender, Match}
use Rattle.model.specs.Effects.{Said, Item, Looked, Claimed, Lost, Reverted, Matched, Consumed, Told, Woke, Freed}
use Rattle.model.specs.Effects.{Signalled, Answered, Refused, Missed, Again, Ended, Rested, Resumed, Closed}
use Rattle.model.specs.Effects.{Turn, claims, frees, consumes, wakes_by, resumes, Change, none, turn, records, signals}
use Rattle.model.specs.Effects.{Effect}

abbrev pub phase_in : DP.Phase → Phase
phase_in (P.Look k) = look k
phase_in (P.Claim k) = claim k
phase_in (P.Revert k m) = revert k m
phase_in (P.Consume k m) = consume k m
phase_in (P.Tell k) = tell k
phase_in P.Wake = wake
phase_in (P.Free k) = free k
phase_in P.Signal = signal
phase_in P.PassEnd = pass_end
phase_in (P.Backoff rests) = backoff rests

-- rule 3.6: how many messages a job at a chord of n channels has chosen
abbrev pub chosen_by : DP.Phase → ℕ → ℕ
chosen_by (P.Look k) n = k
chosen_by (P.Claim k) n = n
chosen_by (P.Revert k m) n = n
chosen_by (P.Consume k m) n = n
chosen_by (P.Tell k) n = n
chosen_by P.Wake n = n
chosen_by (P.Free k) n = n
chosen_by P.Signal n = n
chosen_by P.PassEnd n = 0
chosen_by (P.Backoff rests) n = 0

abbrev pub job_in : Table → DJ.Job → Job
job_in t j = record {
  subject = j.subject;
  chord = j.chord;
  phase = phase_in j.phase;
  chosen = take (chosen_by j.phase (size t j.chord)) j.chosen;
  retry = j.retry;
  retries = j.retries;
}

abbrev pub state_in : DS.State → Job → State
state_in S.Idle w = idle
state_in S.Working w = working w
state_in S.Blocked w = blocked

abbrev pub idle_is : DS.State → Bool
idle_is S.Idle = true
idle_is S.Working = false
idle_is S.Blocked = false

-- rule 5.6: whether a sender has a step
abbrev pub steps_in : DS.State → Bool → Bool
steps_in S.Idle signalled = false
steps_in S.Working signalled = true
steps_in S.Blocked signalled = signalled

abbrev pub sender_steps : DD.Sender → Bool
sender_steps d = steps_in d.state d.signalled

abbrev pub sender_in : Table → DD.Sender → Sender
sender_in t d = record {
  state = state_in d.state (job_in t d.job);
  signalled = d.signalled;
  own = d.own;
  waker = d.waker;
  reply = d.reply;
  matched = d.matched;
}

abbrev pub said_in : DW.Said → Said
said_in (W.Item n) = Item n
said_in (W.Looked n) = Looked n
said_in W.Missed = Missed
said_in (W.Claimed n) = Claimed n
said_in (W.Lost n) = Lost n
said_in (W.Reverted n) = Reverted n
said_in (W.Matched k) = Matched k
said_in (W.Consumed n) = Consumed n
said_in (W.Told n) = Told n
said_in (W.Woke n) = Woke n
said_in (W.Freed n) = Freed n
said_in (W.Signalled n) = Signalled n
said_in W.Again = Again
said_in W.Ended = Ended
said_in W.Rested = Rested
said_in (W.Answered k) = Answered k
said_in W.Resumed = Resumed
said_in (W.Refused f) = Refused f
said_in W.Closed = Closed

abbrev pub turn_in : DU.Turn → Turn
turn_in U.Claims = claims
turn_in U.Frees = frees
turn_in (U.Consumes m) = consumes m
turn_in (U.WakesBy h) = wakes_by h
turn_in U.Resumes = resumes

-- the match that is recorded is that of the stepping sender's job
abbrev pub match_of : Table → DJ.Job → Match
match_of t j = record { chord = j.chord; messages = take (size t j.chord) j.chosen }

abbrev pub change_in : Table → DJ.Job → DG.Change → Change
change_in t j G.None = none
change_in t j (G.Turn n u) = turn n (turn_in u)
change_in t j (G.Record n) = records n (match_of t j)
change_in t j (G.Signal n) = signals n

abbrev pub effect_in : Table → DE.Effect → Effect
effect_in t e = record {
  said = said_in e.said;
  change = change_in t e.sender.job e.change;
  sender = sender_in t e.sender;
}
