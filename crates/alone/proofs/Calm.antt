-- A sender in peace: what its steps keep, and coming to rest within so many of them.
use mathlib.Core.Path.{◌≡◌, ◌∙◌, ap, subst, subst⁻¹}
use mathlib.Core.Logic.{◌⊎◌, inl, inr, ◌≢◌}
use mathlib.Core.Bool.{Bool, true, false}
use Prim.Native.Nat.{ℕ, zero, suc, ◌-◌, ◌≤◌, ◌<◌}
use native.Mathlib.Omega.{arith}
use Rattle.model.specs.Tables.{Table}
use Rattle.model.specs.Boards.{Board, Job, Phase, State, sender_at, working, idle, blocked}
use Rattle.model.specs.Effects.{Effect, Outcome, does, apply}
use Rattle.model.specs.Steps.{step_by, state_step, blocked_step, job_step, resume_step}
use Rattle.model.specs.Holdings.{Holds}
use Rattle.model.specs.Pools.{steps, step_answer, can_step}
use Rattle.model.proofs.Tests.{same?}
use Rattle.model.proofs.Frame.{messages-count}
use Rattle.model.proofs.Passage.{Passage, step-passage}
use Rattle.model.proofs.Holding.{Holding}
use Rattle.model.proofs.Owners.{Owning, keeps_own, new_own}
use Rattle.model.proofs.AcceptedChords.{TableOk}
use Rattle.model.proofs.Invariant.{Inv}
use Rattle.model.proofs.AtWork.{AtWork}
use Rattle.model.proofs.StepBy.{OutcomeOwes, step-owes, at-work}
use Rattle.model.proofs.Schedule.{call-inv}
use Rattle.model.proofs.QuietExactly.{under-32}
use Rattle.alone.specs.Alone.{InPeace, HoldsAll, stepped_alone}
use Rattle.alone.proofs.Rests.{Bounded, call-bounded}

-- no other sender holds a message exactly if every claimed one is sender i's
module _ {t : Table} {b : Board} (i : ℕ) (h : Holding t b) where
  pub peace_there : InPeace t b i → HoldsAll t b i
  peace_there p n e = let r = h.has_holder n e in mine r.0 r.1 (same? r.0 i)
    where
      mine : (j : ℕ) → Holds t (sender_at b j).state n → (j ≡ i) ⊎ (j ≢ i) → Holds t (sender_at b i).state n
      mine j x (inl z) = subst (λ (k : ℕ). Holds t (sender_at b k).state n) z x
      mine j x (inr z) = absurd (p j n z x)

  pub peace_back : HoldsAll t b i → InPeace t b i
  peace_back f j n ne x = ne (h.one_holder j i n x (f n (h.claimed_is j n x)))

pub record Calm (t : Table) (b : Board) (i : ℕ) : Type 0 where
  pub table : TableOk t
  pub number : i < 32
  pub inv : Inv t b
  pub bounded : Bounded b
  pub peace : HoldsAll t b i

-- whether sender i has a step after n steps alone
abbrev pub moving : Table → Board → ℕ → ℕ → Bool
moving t b i n = can_step (sender_at (stepped_alone t b i n) i).state (sender_at (stepped_alone t b i n) i).signalled

-- it has none within n steps
pub record Within (t : Table) (b : Board) (i n : ℕ) : Type 0 where
  pub count : ℕ
  pub few : count ≤ n
  pub no_step : moving t b i count ≡ false

pub within_more : {t : Table} {b : Board} {i n m : ℕ} → n ≤ m → Within t b i n → Within t b i m
within_more l w = record { count = w.count; few = omega (arith, w.few); no_step = w.no_step }

module _ {t : Table} {b : Board} {i n : ℕ} where
  pub now-idle : (sender_at b i).state ≡ idle → Within t b i n
  now-idle e = record {
    count = 0;
    few = omega arith;
    no_step = ap (λ (s : State). can_step s (sender_at b i).signalled) e;
  }

  pub now-blocked : (sender_at b i).state ≡ blocked → (sender_at b i).signalled ≡ false → Within t b i n
  now-blocked e f = record {
    count = 0;
    few = omega arith;
    no_step = ap (λ (s : State). can_step s (sender_at b i).signalled) e ∙ f;
  }

  pub later : {e : Effect} → step_by t b i ≡ does e → Within t (apply b i e) i n → Within t b i (suc n)
  later z w = record {
    count = suc w.count;
    few = omega (arith, w.few);
    no_step = subst⁻¹ (λ (o : Outcome). moving t (step_answer b i o).board i w.count ≡ false) z w.no_step;
  }

-- the board after a step of sender i
pub record Next (t : Table) (b : Board) (i : ℕ) (e : Effect) : Type 0 where
  pub calm : Calm t (apply b i e) i
  pub passage : Passage b (apply b i e) i e.change e.sender
  pub own : (sender_at (apply b i e) i).own ≡ (sender_at b i).own

module _ {t : Table} {b : Board} {i : ℕ} {e : Effect} (c : Calm t b i) (z : step_by t b i ≡ does e) where
  owes : OutcomeOwes t b i (does e)
  owes = subst (OutcomeOwes t b i) z (step-owes t b i c.inv)

  passage' : Passage b (apply b i e) i e.change e.sender
  passage' = step-passage b i e (omega (arith, owes.0, c.inv.senders)) owes.1.lawful

  inv' : Inv t (apply b i e)
  inv' = subst (λ (o : Outcome). Inv t (step_answer b i o).board) z (call-inv t b (steps i) c.inv)

  -- another sender that holds a message held it before the step, against the peace
  peace' : HoldsAll t (apply b i e) i
  peace' =
      peace_there i inv'.holding (λ j n ne x.
      peace_back i c.inv.holding c.peace j n ne
      (subst (λ (s : State). Holds t s n) (passage'.others j ne).state x))

  own' : (sender_at (apply b i e) i).own ≡ (sender_at b i).own
  own' = go (owes.1.owners inv'.notes).owning
    where
      go : Owning b (apply b i e) i e.sender → (sender_at (apply b i e) i).own ≡ (sender_at b i).own
      go (keeps_own x y) = passage'.own.own ∙ x
      go (new_own x y u v) = absurd (omega (arith, v, messages-count b i e))

  pub next : Next t b i e
  next = record {
    calm = record {
      table = c.table;
      number = c.number;
      inv = inv';
      bounded = subst (λ (o : Outcome). Bounded (step_answer b i o).board) z
          (call-bounded t b (steps i) c.table c.inv c.bounded);
      peace = peace';
    };
    passage = passage';
    own = own';
  }

-- what the step of a sender at work, or blocked, is
module _ {t : Table} {b : Board} {i : ℕ} (c : Calm t b i) where
  pub working-at : {w : Job} {p : Phase} → (sender_at b i).state ≡ working w → w.phase ≡ p → AtWork t b i w p
  working-at {w} {p} st ph = at-work t b i c.inv c.number w p st ph

  pub work_step : {w : Job} {p : Phase} → AtWork t b i w p → step_by t b i ≡ does (job_step t b (sender_at b i) w p)
  work_step {w} {p} a =
      under-32 t b i c.number
      ∙ ap (state_step t b (sender_at b i)) a.state
      ∙ ap (λ (x : Phase). does (job_step t b (sender_at b i) w x)) a.phase

  pub blocked-step : (sender_at b i).state ≡ blocked → (sender_at b i).signalled ≡ true
      → step_by t b i ≡ does (resume_step t b (sender_at b i))
  blocked-step e f =
      under-32 t b i c.number ∙ ap (state_step t b (sender_at b i)) e ∙ ap (blocked_step t b (sender_at b i)) f

pub goes_on : {t : Table} {b : Board} {i : ℕ} {e : Effect} {w : Job} {p : Phase} → Next t b i e
    → e.sender.state ≡ working w → w.phase ≡ p → AtWork t (apply b i e) i w p
goes_on x st ph = working-at x.calm (x.passage.own.state ∙ st) ph

-- Stages. R b n: n steps are enough from b; a step leaves R with one fewer, or leads to where it is known.
pub data Goes (t : Table) (b : Board) (i : ℕ) (R : Board → ℕ → Type 0) (n : ℕ) : Type 0 where
  enough : Within t b i n → Goes t b i R n
  goes : (e : Effect) → step_by t b i ≡ does e → 1 ≤ n → R (apply b i e) (n - 1) → Goes t b i R n

pub runs : (t : Table) (i : ℕ) (R : Board → ℕ → Type 0)
    → ((b : Board) (n : ℕ) → Calm t b i → R b n → Goes t b i R n)
    → (n : ℕ) (b : Board) → Calm t b i → R b n → Within t b i n
runs t i R f zero b c r = go (f b 0 c r)
  where
    go : Goes t b i R 0 → Within t b i 0
    go (enough w) = w
    go (goes e z l x) = absurd (omega arith)
runs t i R f (suc n) b c r = go (f b (suc n) c r) (λ e z x. runs t i R f n (apply b i e) (next c z).calm x)
  where
    go : Goes t b i R (suc n)
        → ((e : Effect) → step_by t b i ≡ does e → R (apply b i e) n → Within t (apply b i e) i n) → Within t b i (suc n)
    go (enough w) ih = w
    go (goes e z l x) ih = later z (ih e z (subst (R (apply b i e)) (omega arith) x))
