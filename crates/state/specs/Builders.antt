-- What the builders make, over the declared types: a record with the fields altered that the name says.
use Rattle.std.specs.Prelude.{Bool, true, false, ℕ, replicate}
use Rattle.state.specs.declared.Phase as DP
use Rattle.state.specs.declared.State.TheVariants as S
use Rattle.state.specs.declared.Job as DJ
use Rattle.state.specs.declared.Sender as DD
use Rattle.state.specs.declared.Said as DW
use Rattle.state.specs.declared.Change as DG
use Rattle.state.specs.declared.Effect as DE

abbrev pub sender_in_job : DD.Sender → DJ.Job → DD.Sender
sender_in_job d job = record d { state = S.Working; job = job }

abbrev pub works_by : DD.Sender → DJ.Job → DW.Said → DG.Change → DE.Effect
works_by d job said change = record { said = said; change = change; sender = sender_in_job d job }

abbrev pub job_in_phase : DJ.Job → DP.Phase → DJ.Job
job_in_phase j p = record j { phase = p }

abbrev pub job_with_retry : DJ.Job → DP.Phase → DJ.Job
job_with_retry j p = record j { phase = p; retry = true }

-- the job stays, unread
abbrev pub sender_idle : DD.Sender → ℕ → DD.Sender
sender_idle d reply = record d { state = S.Idle; signalled = false; reply = reply }

abbrev pub sender_blocked : DD.Sender → Bool → DD.Sender
sender_blocked d signalled = record d { state = S.Blocked; signalled = signalled }

-- a job with nothing chosen
abbrev pub job_at : ℕ → ℕ → DP.Phase → Bool → ℕ → DJ.Job
job_at subject chord p retry retries = record {
  subject = subject;
  chord = chord;
  phase = p;
  chosen = replicate 8 0;
  retry = retry;
  retries = retries;
}
