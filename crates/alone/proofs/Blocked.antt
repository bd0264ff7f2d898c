-- A blocked sender in peace: answered, resumed, or blocked for good.
use mathlib.Core.Path.{◌≡◌, refl, ◌∙◌, ap, subst}
use mathlib.Core.Logic.{◌≢◌}
use mathlib.Core.Bool.{Bool, true, false}
use Prim.Native.Nat.{ℕ, suc, ◌-◌}
use borrow.Author.Tests.{eq-eqb}
use native.Mathlib.Omega.{arith}
use Rattle.model.specs.Basics.{pick}
use Rattle.model.specs.Tables.{Table}
use Rattle.model.specs.Boards.{Board, Sender, Status, sender_at, message_at, pending, claimed, woken, consumed, blocked}
use Rattle.model.specs.Effects.{apply, does}
use Rattle.model.specs.Steps.{step_by, resume_step, resume_by, stays_blocked}
use Rattle.model.proofs.Frame.{senders-at}
use Rattle.alone.proofs.Calm.{Calm, Within, now-idle, now-blocked, later, next, blocked-step}

-- X steps are left once it has resumed
module _ {t : Table} {b : Board} {i : ℕ} (c : Calm t b i) (st : (sender_at b i).state ≡ blocked) (X : ℕ)
    (resumes : (message_at b ((sender_at b i).own - 1)).status ≡ woken
    → step_by t b i ≡ does (resume_by t b (sender_at b i) ((sender_at b i).own - 1) woken)
    → Within t (apply b i (resume_by t b (sender_at b i) ((sender_at b i).own - 1) woken)) i X) where
  stays : step_by t b i ≡ does (stays_blocked (sender_at b i)) → Within t b i (suc X)
  stays y = later y (now-blocked (next c y).passage.own.state
      (ap (λ (d : Sender). d.signalled)
      (senders-at b i (stays_blocked (sender_at b i)) i (omega (arith, c.inv.senders, c.number)))
      ∙ ap (λ (u : Bool). (pick u (stays_blocked (sender_at b i)).sender (sender_at b i)).signalled) (eq-eqb i i refl)))

  by-status : (s : Status) → (message_at b ((sender_at b i).own - 1)).status ≡ s
      → step_by t b i ≡ does (resume_by t b (sender_at b i) ((sender_at b i).own - 1) s) → Within t b i (suc X)
  by-status pending e y = stays y
  by-status claimed e y = stays y
  by-status woken e y = later y (resumes e y)
  by-status consumed e y = later y (now-idle (next c y).passage.own.state)

  pub when-blocked : Within t b i (suc X)
  unfolding resume_step
  when-blocked = go (sender_at b i).signalled refl
    where
      go : (u : Bool) → (sender_at b i).signalled ≡ u → Within t b i (suc X)
      go false e = now-blocked st e
      go true e = by-status (message_at b ((sender_at b i).own - 1)).status refl (blocked-step c st e)

-- with its own message not woken it has one step at most
pub blocked-unwoken : {t : Table} {b : Board} {i o : ℕ} → Calm t b i → (sender_at b i).state ≡ blocked
    → (sender_at b i).own ≡ suc o → (message_at b o).status ≢ woken → Within t b i 1
blocked-unwoken {t} {b} {i} {o} c st e f =
    when-blocked c st 0 (λ z y. absurd (f (subst (λ (n : ℕ). (message_at b n).status ≡ woken) (omega (arith, e)) z)))
