-- A pass with an asynchronous subject, the sender's own message or its waker. It may wake the sender's own message,
-- which is then resumed once.
use mathlib.Core.Path.{◌≡◌, sym, ◌∙◌, subst}
use mathlib.Core.Logic.{◌⊎◌, inl, inr}
use mathlib.Core.Bool.{true, false}
use Prim.Native.Nat.{ℕ, suc}
use native.Mathlib.Omega.{arith}
use Rattle.model.specs.Tables.{Table, is_sync}
use Rattle.model.specs.Boards.{Board, sender_at, message_at, channel_of, pending}
use Rattle.model.proofs.Tests.{never}
use Rattle.alone.proofs.Calm.{Calm, Within, now-idle}
use Rattle.alone.proofs.Ended.{Ended, Exit, to_idle, to_blocked, to_waker}
use Rattle.alone.proofs.Finish.{Stage}
use Rattle.alone.proofs.Fresh.{Starts, fresh_pass}
use Rattle.alone.proofs.Hands.{Hand, hand_on, async-few}
use Rattle.alone.proofs.OwnPass.{blocked-any}

module _ (t : Table) (i h : ℕ) where
  exit : {b : Board} → Calm t b i → Hand t h false b → Ended t b i h → Within t b i 554
  exit {b} c q x = go x.exit
    where
      go : Exit t b i h → Within t b i 554
      go (to_idle st) = now-idle st
      go (to_blocked st) = blocked-any c st
      go (to_waker v e f d st) = hand x.subject
        where
          -- a sender that has a waker is synchronous, so the subject was the waker
          hand : (suc h ≡ (sender_at b i).own) ⊎ (suc h ≡ (sender_at b i).waker) → Within t b i 554
          hand (inl y) = never (sym q.sync
              ∙ subst (λ (n : ℕ). is_sync t (channel_of b n) ≡ true) (omega (arith, y))
              ((c.inv.locals i).waker_is v e).3)
          hand (inr y) = absurd (d (omega (arith, y, e)))

  abbrev stage : Stage t i h 554 1
  stage = record {
    Kept = Hand t h false;
    keeps = λ x calm n q. hand_on x q;
    wakes = λ a x q. hand_on x q;
    tells = λ q e f l m. async-few q e f m;
    exit = λ c q x how. exit c q x;
  }

  pub async-pass : {b : Board} (k : ℕ) → Calm t b i → Starts t b i h k → (message_at b h).status ≡ pending
      → Hand t h false b → Within t b i 827
  async-pass {b} k c st pend q =
      fresh_pass t i h 554 1 (omega arith) stage (record {
        Come = λ r. Hand t h false;
        unmoved = λ x e q. hand_on x q;
        skips = λ q. q;
        missed = λ a sub free e q. q;
        found = λ q. q;
        failed = λ c ge q x. exit c q x;
      }) k c st pend q
