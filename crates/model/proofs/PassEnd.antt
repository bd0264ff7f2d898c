-- The end of a pass, and a rest, keep the invariant: `again` leaves every chord ahead, `ended` none that could be met.
use mathlib.Core.Path.{◌≡◌, refl}
use mathlib.Core.Logic.{inl, ◌⊎◌, inr}
use mathlib.Core.Bool.{true, false, Bool, ◌&&◌}
use mathlib.Core.List.{List}
use Prim.Native.Nat.{ℕ}
use lib.ListN.{length}
use Rattle.model.specs.Basics.{is_in}
use Rattle.model.specs.Tables.{Table}
use Rattle.model.specs.Boards.{Board, Job, Phase, sender_at, pass_end, is_open, message_at, backoff_at, backoff}
use Rattle.model.specs.Boards.{woken, consumed}
use Rattle.model.specs.Effects.{Said, none, apply, messages_after, Again, Rested}
use Rattle.model.specs.Jobs.{in_job}
use Rattle.model.specs.Steps.{rests_then, pass_end_by, more, pass_end_step, backoff_step}
use Rattle.model.specs.Holdings.{HeldPlace}
use Rattle.model.proofs.Phases.{still, signalling}
use Rattle.model.proofs.Places.{none-held, rests-empty}
use Rattle.model.proofs.Obligation.{Case, Obliged, by_woken}
use Rattle.model.proofs.Covers.{rests-subject, rests-cover, names-it, shut, covered, live}
use Rattle.model.proofs.Invariant.{StepOwes}
use Rattle.model.proofs.AtWork.{AtWork, job-goes-on, rests-at, job-ends, no-signal}
use Rattle.model.proofs.Tests.{other-false}

module _ {t : Table} {b : Board} {i : ℕ} {w : Job} {p : Phase} (c : AtWork t b i w p) where
  -- rests and then a new pass see to every chord that names the subject
  rests-owe : (said : Said) (k rests : ℕ) → still p ≡ true → signalling p ≡ false
      → ((j : ℕ) → HeldPlace t w.chord p (length w.chosen) j → ⊥)
      → StepOwes t b i
      (record { said = said; change = none; sender = in_job (sender_at b i) (rests_then t b w.subject k rests) })
  rests-owe said k rests st sg e =
      job-goes-on c _ tt _ refl refl st sg (rests-at c k rests)
      (none-held _ _ _ refl (λ n x. e x.place x.held) (λ n x. rests-empty t b w.subject k rests n x))
      (rests-subject t b w.subject k rests)
      (λ q ns y a x. inl (rests-cover t b w.subject k rests q y.meets.chord-in (names-it y w.subject a)))

module _ {t : Table} {b : Board} {i : ℕ} {w : Job} (c : AtWork t b i w pass_end) where
  pass-ended : (again : Bool) → (w.retry && is_open (message_at b w.subject).status) ≡ again
      → StepOwes t b i (pass_end_by t b (sender_at b i) w again)
  unfolding apply messages_after
  pass-ended true e =
      rests-owe c Again (more w.retries) (backoff_at b.backoffs (more w.retries)) refl refl (λ j x. x)
  pass-ended false e =
      job-ends c _ tt refl refl refl refl refl (λ j x. x) (λ n x. absurd (no-signal c refl n x))
      (λ q ns y a x. over q ns y a (shut _ (other-false _ _ e (covered w q pass_end c.phase x))))
    where
      over : (q : ℕ) (ns : List ℕ)
          → Case t b (apply b i (pass_end_by t b (sender_at b i) w false)) i none
          (pass_end_by t b (sender_at b i) w false).sender q ns
          → is_in w.subject ns ≡ true
          → ((message_at b w.subject).status ≡ woken) ⊎ ((message_at b w.subject).status ≡ consumed)
          → Obliged t (apply b i (pass_end_by t b (sender_at b i) w false)) q ns
      over q ns y a (inl z) = by_woken w.subject a z
      over q ns y a (inr z) = absurd (live y w.subject a z)

  pub pass-end-owes : StepOwes t b i (pass_end_step t b (sender_at b i) w)
  unfolding pass_end_step
  pass-end-owes = pass-ended (w.retry && is_open (message_at b w.subject).status) refl

pub backoff-owes : {t : Table} {b : Board} {i : ℕ} {w : Job} {rests : ℕ} → AtWork t b i w (backoff rests)
    → StepOwes t b i (backoff_step t b (sender_at b i) w rests)
unfolding backoff_step
backoff-owes {rests = rests} c = rests-owe c Rested _ rests refl refl (λ j x. x)
