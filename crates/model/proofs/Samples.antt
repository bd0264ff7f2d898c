-- The samples computed: one theorem over the table of them, the run of table P, runs of retries, backoff tables, and
-- shares. Each is closed, so that its two sides are the same once the definitions are unfolded.
use mathlib.Core.Path.{◌≡◌, refl}
use mathlib.Core.List.{map}
use Prim.Native.Nat.{ℕ}
use Rattle.model.specs.Tables.{is_sync, first_sync, wakes, naming}
use Rattle.model.specs.Layout.{word, counts_ok, offsets_ok, kinds_ok, chord_ok, members_ok, table_refusal, table_of}
use Rattle.model.specs.Boards.{builtin_backoffs, backoff_at, backoffs_pass, amount}
use Rattle.model.specs.Effects.{messages_after, matches_after, senders_after, apply}
use Rattle.model.specs.Jobs.{pass_from, job_end}
use Rattle.model.specs.Looks.{alike, is_before, oldest, some_claimed, choice}
use Rattle.model.specs.Steps.{look_step, claim_step, revert_step, consume_step, tell_step, woken_of, wake_step}
use Rattle.model.specs.Steps.{skip, free_step, signal_step, more, pass_end_step, backoff_step, resume_step}
use Rattle.model.specs.Steps.{step_by}
use Rattle.model.specs.Shares.{has_room, shares_ok}
use Rattle.model.specs.Adds.{add_refusal, added}
use Rattle.model.specs.Closes.{close_refusal}
use Rattle.model.specs.Samples.{outcome, samples, expected, shown_by, table_p, schedule_p, shown_p, RetriesRest}
use Rattle.model.specs.Samples.{RestsPass}
use Rattle.model.specs.Samples.{SharesOut}

-- to unfold this is to unfold every definition that a run computes with
unfoldable pub opened : ℕ
unfolding is_sync first_sync wakes naming word counts_ok offsets_ok kinds_ok chord_ok members_ok table_refusal table_of
    builtin_backoffs backoff_at amount messages_after matches_after senders_after apply pass_from alike is_before oldest
    some_claimed choice look_step claim_step revert_step job_end consume_step tell_step woken_of wake_step skip free_step
    signal_step more pass_end_step backoff_step resume_step step_by has_room add_refusal added close_refusal
opened = 0

pub m-items : map outcome samples ≡ map expected samples
unfolding opened
m-items = refl

pub run-of-p : shown_by (table_of table_p) schedule_p ≡ shown_p
unfolding opened
run-of-p = refl

pub retries-rest : RetriesRest
unfolding opened
retries-rest = record { by_builtin = refl; by_rising = refl }

pub rests-pass : RestsPass
unfolding backoffs_pass
rests-pass = record {
  rising = refl;
  all_0 = refl;
  all_64 = refl;
  first_above_0 = refl;
  fifteen = refl;
  seventeen = refl;
  no_entries = refl;
  last_65 = refl;
  all_65 = refl;
  second_falls = refl;
  ninth_falls = refl;
  last_falls = refl;
}

pub shares_out : SharesOut
unfolding has_room shares_ok
shares_out = record {
  one_alone = refl;
  one_less = refl;
  last_own = refl;
  all_used = refl;
  kept = refl;
  one_over = refl;
  sum_off = refl;
}
