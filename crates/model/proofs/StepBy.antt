-- Every step of a board with the invariant keeps it, and a refused step refuses.
use mathlib.Core.Path.{◌≡◌, subst, refl}
use mathlib.Core.Bool.{Bool, true, false}
use Prim.Native.Nat.{ℕ, ◌≤◌, ◌<◌}
use lib.Dec.{leb}
use native.Mathlib.Omega.{arith}
use Rattle.model.specs.Tables.{Table}
use Rattle.model.specs.Boards.{Board, Job, Phase, sender_at, look, claim, revert, consume, tell, wake, free}
use Rattle.model.specs.Boards.{signal, pass_end, backoff, blocked, State, idle, working}
use Rattle.model.specs.Effects.{Outcome, refused, does}
use Rattle.model.specs.Steps.{job_step, blocked_step, state_step, sender_step, step_by}
use Rattle.model.proofs.Tests.{tests}
use Rattle.model.proofs.Local.{StateOk, JobAt}
use Rattle.model.proofs.Invariant.{StepOwes, Inv}
use Rattle.model.proofs.AtWork.{AtWork}
use Rattle.model.proofs.Look.{look-owes}
use Rattle.model.proofs.Claim.{claim-owes}
use Rattle.model.proofs.Revert.{revert-owes}
use Rattle.model.proofs.PassEnd.{pass-end-owes, backoff-owes}
use Rattle.model.proofs.Wake.{wake-owes, free-owes, signal-owes}
use Rattle.model.proofs.Consume.{consume-owes}
use Rattle.model.proofs.Tell.{tell-owes}
use Rattle.model.proofs.Resume.{resume-owes}

abbrev pub OutcomeOwes : Table → Board → ℕ → Outcome → Type 0
OutcomeOwes t b i (refused f) = 1 ≤ f
OutcomeOwes t b i (does s) = (i < 32) × StepOwes t b i s

module _ (t : Table) (b : Board) (i : ℕ) (v : Inv t b) where
  pub at-work : i < 32 → (w : Job) (p : Phase) → (sender_at b i).state ≡ working w → w.phase ≡ p → AtWork t b i w p
  at-work l w p st ph =
      let q =
      subst (StateOk t b (sender_at b i).own (sender_at b i).waker (sender_at b i).matched) st
      (v.locals i).state_is in
      record {
        inv = v;
        in_senders = omega (arith, v.senders);
        state = st;
        phase = ph;
        own_some = q.0;
        job = subst (JobAt t b (sender_at b i).own (sender_at b i).waker w) ph q.1;
      }

  by-phase : (w : Job) (p : Phase) → AtWork t b i w p → StepOwes t b i (job_step t b (sender_at b i) w p)
  by-phase w (look k) c = look-owes c
  by-phase w (claim k) c = claim-owes c
  by-phase w (revert k m) c = revert-owes c
  by-phase w (consume k m) c = consume-owes c
  by-phase w (tell k) c = tell-owes c
  by-phase w wake c = wake-owes c
  by-phase w (free k) c = free-owes c
  by-phase w signal c = signal-owes c
  by-phase w pass_end c = pass-end-owes c
  by-phase w (backoff rests) c = backoff-owes c

  by-signal : (g : Bool) → i < 32 → (sender_at b i).state ≡ blocked → OutcomeOwes t b i (blocked_step t b (sender_at b i) g)
  by-signal true l st = (l, resume-owes t b i v (omega (arith, v.senders)) st)
  by-signal false l st = omega arith

  by_state : (x : State) → i < 32 → (sender_at b i).state ≡ x → OutcomeOwes t b i (state_step t b (sender_at b i) x)
  by_state idle l st = omega arith
  by_state (working w) l st = (l, by-phase w w.phase (at-work l w w.phase st refl))
  by_state blocked l st = by-signal (sender_at b i).signalled l st

  by_number : (u : Bool) → leb 32 i ≡ u → OutcomeOwes t b i (sender_step t b i u)
  by_number true e = omega arith
  by_number false e = by_state (sender_at b i).state (omega tests) refl

  pub step-owes : OutcomeOwes t b i (step_by t b i)
  unfolding step_by
  step-owes = by_number (leb 32 i) refl
