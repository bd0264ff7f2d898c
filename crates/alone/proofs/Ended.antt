-- A sender whose job has just ended: idle, blocked, or at a job about its waker.
use mathlib.Core.Path.{◌≡◌, refl, sym, ◌∙◌, subst}
use mathlib.Core.Logic.{◌⊎◌, inl, inr, ◌≢◌}
use mathlib.Core.Bool.{false}
use Prim.Native.Nat.{ℕ, suc}
use Rattle.model.specs.Tables.{Table}
use Rattle.model.specs.Boards.{Board, Job, Phase, Sender, sender_at, message_at, is_consumed, idle, blocked, working}
use Rattle.model.specs.Effects.{Effect, apply}
use Rattle.model.specs.Jobs.{job_end, new_pass}
use Rattle.model.specs.Demands.{SameButSignal}
use Rattle.model.proofs.Jobs.{job-end-by}
use Rattle.model.proofs.AtWork.{AtWork}
use Rattle.alone.proofs.Calm.{Next}

pub data Exit (t : Table) (b : Board) (i h : ℕ) : Type 0 where
  to_idle : (sender_at b i).state ≡ idle → Exit t b i h
  to_blocked : (sender_at b i).state ≡ blocked → Exit t b i h
  to_waker : (v : ℕ) → (sender_at b i).waker ≡ suc v → is_consumed (message_at b v).status ≡ false → v ≢ h
      → (sender_at b i).state ≡ working (new_pass t b.messages v 0) → Exit t b i h

-- the job was on h
pub record Ended (t : Table) (b : Board) (i h : ℕ) : Type 0 where
  pub exit : Exit t b i h
  pub subject : (suc h ≡ (sender_at b i).own) ⊎ (suc h ≡ (sender_at b i).waker)

-- d: the sender at the job's end, perhaps with a match remembered
module _ {t : Table} {b : Board} {i : ℕ} {w : Job} {p : Phase} {e : Effect} (a : AtWork t b i w p) (x : Next t b i e)
    {h : ℕ} (sub : w.subject ≡ h) (d : Sender)
    (is : e.sender ≡ job_end t (apply b i e).messages d w.subject) (waker : d.waker ≡ (sender_at b i).waker) where
  abbrev b' : Board
  b' = apply b i e

  left : SameButSignal (job_end t b'.messages d w.subject) (sender_at b' i)
  left = subst (λ (y : Sender). SameButSignal y (sender_at b' i)) is x.passage.own

  same-waker : (sender_at b' i).waker ≡ (sender_at b i).waker
  same-waker =
      left.waker
      ∙ job-end-by t b'.messages d w.subject (λ y. y.waker ≡ d.waker) (λ s. refl) (λ s m z. refl)
      (λ s z. refl) (λ s v z f ne. refl)
      ∙ waker

  pub ended : Ended t b' i h
  ended = subst (Ended t b' i) sub (record {
    exit =
        job-end-by t b'.messages d w.subject
        (λ y. SameButSignal y (sender_at b' i) → Exit t b' i w.subject)
        (λ s q. to_idle q.state) (λ s m z q. to_idle q.state) (λ s z q. to_blocked q.state)
        (λ s v z f ne q. to_waker v (q.waker ∙ z) f ne q.state) left;
    subject = hand a.job.subject_is;
  })
    where
      hand : (suc w.subject ≡ (sender_at b i).own) ⊎ (suc w.subject ≡ (sender_at b i).waker)
          → (suc w.subject ≡ (sender_at b' i).own) ⊎ (suc w.subject ≡ (sender_at b' i).waker)
      hand (inl y) = inl (y ∙ sym x.own)
      hand (inr y) = inr (y ∙ sym same-waker)
