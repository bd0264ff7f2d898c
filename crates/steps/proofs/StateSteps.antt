-- Laws of a step by the sender's state.
use mathlib.Core.Path.{◌≡◌, refl, ap, sym, ◌∙◌, subst}
use mathlib.Core.Bool.{true, false}
use Rattle.model.specs.Tables.{Table}
use Rattle.model.specs.Boards.{Board, Job, Sender}
use Rattle.model.specs.Effects.{Effect, does, refused}
use Rattle.model.specs.Steps.{job_step, resume_step, blocked_step, state_step}
use Rattle.model.proofs.Tests.{never}
use Rattle.state.specs.declared.State as DS
use Rattle.state.specs.declared.State.TheVariants as S
use Rattle.state.specs.declared.Sender as DD
use Rattle.state.specs.Views.{phase_in, job_in, state_in, sender_in, steps_in, sender_steps}

refused-by : (t : Table) (b : Board) (s : Sender) (w : Job) (x : DS.State) → steps_in x s.signalled ≡ false
    → state_step t b s (state_in x w) ≡ refused 13
refused-by t b s w S.Idle e = refl
refused-by t b s w S.Working e = never (sym e)
refused-by t b s w S.Blocked e = ap (blocked_step t b s) e

module _ (t : Table) (b : Board) (d : DD.Sender) where
  pub refused-is : sender_steps d ≡ false → state_step t b (sender_in t d) (sender_in t d).state ≡ refused 13
  refused-is e = refused-by t b (sender_in t d) (job_in t d.job) d.state e

  in-state : {x : DS.State} → d.state ≡ x
      → state_step t b (sender_in t d) (sender_in t d).state
      ≡ state_step t b (sender_in t d) (state_in x (job_in t d.job))
  in-state e = ap (λ (y : DS.State). state_step t b (sender_in t d) (state_in y (job_in t d.job))) e

  pub work-is : {x : Effect} → d.state ≡ S.Working
      → x ≡ job_step t b (sender_in t d) (job_in t d.job) (phase_in d.job.phase)
      → state_step t b (sender_in t d) (sender_in t d).state ≡ does x
  work-is e q = in-state e ∙ ap does (sym q)

  pub blocked-is : {x : Effect} → d.state ≡ S.Blocked → sender_steps d ≡ true → x ≡ resume_step t b (sender_in t d)
      → state_step t b (sender_in t d) (sender_in t d).state ≡ does x
  blocked-is e k q =
      in-state e
      ∙ ap (blocked_step t b (sender_in t d)) (subst (λ (y : DS.State). steps_in y d.signalled ≡ true) e k)
      ∙ ap does (sym q)

pub not_idle : {A : Type 0} (d : DD.Sender) → sender_steps d ≡ true → d.state ≡ S.Idle → A
not_idle d k e = never (subst (λ (y : DS.State). steps_in y d.signalled ≡ true) e k)
