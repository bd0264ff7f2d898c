-- What the facts of a sender give to its step, by the job's phase.
use mathlib.Core.Path.{◌≡◌, ap, sym, ◌∙◌, subst}
use mathlib.Core.List.{List}
use Prim.Native.Nat.{ℕ, ◌<◌, ◌≤◌}
use native.Mathlib.Omega.{arith}
use lib.Dec.{eqb}
use lib.ListN.{length, take, get_or}
use lib.Seq.{get_or-take}
use Rattle.model.specs.Tables.{Table, size}
use Rattle.model.specs.Boards.{Board, message_at, is_pending, tell}
use Rattle.model.specs.Effects.{Effect}
use Rattle.model.specs.Steps.{to_tell, job_step}
use Rattle.model.proofs.SoundFacts.{StateFacts, JobFacts, PlaceOk, AllChosen}
use Rattle.columns.specs.Columns.{Others, columns_by, board_by}
use Rattle.columns.proofs.Messages.{length-messages, nth-channel}
use Rattle.state.specs.declared.Phase as DP
use Rattle.state.specs.declared.State as DS
use Rattle.state.specs.declared.State.TheVariants as S
use Rattle.state.specs.declared.Sender as DD
use Rattle.state.specs.Views.{phase_in, chosen_by, job_in, state_in, sender_in}
use Rattle.consumes.specs.Holds.{ChoiceLent, Left}
use Rattle.steps.specs.Ready.{Ready}
use Rattle.steps.proofs.MessageReads.{pending-read}

-- the step of the phase that the job is in
pub step_is : (t : Table) (b : Board) (d : DD.Sender) (p : DP.Phase) (x : Effect) → d.job.phase ≡ p
    → x ≡ job_step t b (sender_in t d) (job_in t d.job) (phase_in p)
    → x ≡ job_step t b (sender_in t d) (job_in t d.job) (phase_in d.job.phase)
step_is t b d p x e q =
    q ∙ ap (λ (y : DP.Phase). job_step t b (sender_in t d) (job_in t d.job) (phase_in y)) (sym e)

module _ (t : Table) (channels keys units statuses : List ℕ) (n count : ℕ) (d : DD.Sender)
    (r : Ready t channels keys units statuses n count d) where
  pub channels-in : n ≤ length channels
  channels-in = omega (arith, r.lent.few, r.lent.channels_all)

  pub statuses-in : n ≤ length statuses
  statuses-in = omega (arith, r.lent.few, r.lent.statuses_all)

  pub own_in : d.own ≤ n
  own_in =
      let l = length-messages (columns_by channels keys statuses r.others) 0 n in
      omega (arith, r.facts.own_in)

  pub waker_in : d.waker ≤ n
  waker_in =
      let l = length-messages (columns_by channels keys statuses r.others) 0 n in
      omega (arith, r.facts.waker_in)

  pub own_some : d.state ≡ S.Blocked → 1 ≤ d.own
  own_some e =
      subst
      (λ (x : DS.State). StateFacts t (board_by channels keys statuses n r.others) d.own d.waker
      (state_in x (job_in t d.job))) e r.facts.state_is

  module _ (s : d.state ≡ S.Working) where
    job-facts : JobFacts t (board_by channels keys statuses n r.others) d.own d.waker
        (job_in t d.job) (phase_in d.job.phase)
    job-facts =
        (subst
        (λ (x : DS.State). StateFacts t (board_by channels keys statuses n r.others) d.own d.waker
        (state_in x (job_in t d.job))) s r.facts.state_is).1

    pub subject_in : d.job.subject < n
    subject_in =
        let l = length-messages (columns_by channels keys statuses r.others) 0 n in
        omega (arith, job-facts.subject_in)

    pub place : (p : DP.Phase) → d.job.phase ≡ p
        → PlaceOk t (board_by channels keys statuses n r.others) (job_in t d.job) (phase_in p)
    place p e =
        subst
        (λ (x : DP.Phase). PlaceOk t (board_by channels keys statuses n r.others) (job_in t d.job)
        (phase_in x)) e job-facts.place

    -- a phase with a message chosen for each member
    module _ (all : chosen_by d.job.phase (size t d.job.chord) ≡ size t d.job.chord)
        (a : AllChosen t (board_by channels keys statuses n r.others) (job_in t d.job)) where
      taken : (i : ℕ) → i < size t d.job.chord
          → get_or (job_in t d.job).chosen i 0 ≡ get_or d.job.chosen i 0
      taken i h =
          get_or-take (chosen_by d.job.phase (size t d.job.chord)) d.job.chosen i 0 (rw all h)

      pub chosen_in : (i : ℕ) → i < size t d.job.chord → get_or d.job.chosen i 0 < n
      chosen_in i h =
          let l = length-messages (columns_by channels keys statuses r.others) 0 n in
          let e = taken i h in
          omega (arith, job-facts.chosen_in i (omega (arith, a.counted)))

      pub held : ChoiceLent t d.job.chosen channels (size t d.job.chord) n
      held = record { lent = channels-in; below = chosen_in; known = r.known }

      pub left : (k : ℕ)
          → PlaceOk t (board_by channels keys statuses n r.others) (job_in t d.job) (tell k)
          → Left t channels n d.job.subject (take (size t d.job.chord) d.job.chosen) k
      left k p = record {
        messages = (board_by channels keys statuses n r.others).messages;
        same = record { channel = nth-channel (columns_by channels keys statuses r.others) n };
        more = subst
            (λ (y : ℕ). k < length
            (to_tell t (board_by channels keys statuses n r.others).messages d.job.subject
            (take y d.job.chosen))) all p.1;
      }

      pub pending-chosen : (o : Others) (k : ℕ) → k < size t d.job.chord
          → is_pending
          (message_at (board_by channels keys statuses n o) (get_or (job_in t d.job).chosen k 0)).status
          ≡ eqb (get_or statuses (get_or d.job.chosen k 0) 0) 0
      pending-chosen o k h =
          ap (λ (y : ℕ). is_pending (message_at (board_by channels keys statuses n o) y).status)
          (taken k h)
          ∙ pending-read channels keys statuses o n (get_or d.job.chosen k 0) (chosen_in k h)
