-- A pass on the sender's own message, a synchronous one: it ends matched, or the message meets nothing; then comes the
-- last pass, with the waker.
use mathlib.Core.Path.{◌≡◌, refl, sym, ◌∙◌, ap, subst, subst⁻¹}
use mathlib.Core.Logic.{◌⊎◌, inl, inr, ◌≢◌}
use mathlib.Core.Bool.{true, false}
use Prim.Native.Nat.{ℕ, suc, ◌-◌, ◌≤◌, ◌<◌}
use lib.ListN.{length, get_or}
use native.Mathlib.Omega.{arith}
use Rattle.model.specs.Tables.{Table, is_sync}
use Rattle.model.specs.Boards.{Board, sender_at, message_at, no_message, channel_of, pending, woken, consumed}
use Rattle.model.specs.Boards.{is_open, blocked, working}
use Rattle.model.specs.Effects.{Effect, Change, apply, does, none, turn, messages_after, resumes, status_after}
use Rattle.model.specs.Jobs.{pass_from}
use Rattle.model.specs.Steps.{step_by, resume_by}
use Rattle.model.proofs.Tests.{never}
use Rattle.model.proofs.Grows.{apart}
use Rattle.model.proofs.Passage.{After, same, turned_by, on_board}
use Rattle.model.proofs.Phases.{is_resume}
use Rattle.model.proofs.Local.{StateOk, Waits}
use Rattle.alone.proofs.Calm.{Calm, Within, within_more, now-idle, Next, next}
use Rattle.alone.proofs.Ended.{Ended, Exit, to_idle, to_blocked, to_waker}
use Rattle.alone.proofs.Finish.{Stage, seven-tells}
use Rattle.alone.proofs.Fresh.{Starts, fresh_pass}
use Rattle.alone.proofs.NoMeet.{NoMeet, no-meet-less, no-meet-zero, no-meet-shut, no-meet-on, no-meet-skips}
use Rattle.alone.proofs.NoMeet.{no-meet-missed}
use Rattle.alone.proofs.Blocked.{blocked-unwoken, when-blocked}
use Rattle.alone.proofs.Hands.{Hand, hand_on, taken}
use Rattle.alone.proofs.LastPass.{last_pass}

module _ (t : Table) (i h : ℕ) where
  -- at chord r: the message is pending and meets no chord before r
  record Unmet (r : ℕ) (b : Board) : Type 0 where
    hand : Hand t h true b
    none_before : NoMeet t h r b
    pend : (message_at b h).status ≡ pending

  unmoved : {b : Board} {r : ℕ} {e : Effect} → Next t b i e → e.change ≡ none → Unmet r b → Unmet r (apply b i e)
  unfolding apply messages_after
  unmoved {b} {r} {e} x z q = record {
    hand = hand_on x q.hand;
    none_before = no-meet-on x (ap is_resume z) q.none_before;
    pend = ap (λ (ch : Change). (get_or (messages_after ch b.messages) h no_message).status) z ∙ q.pend;
  }

  own_is : {b : Board} → Calm t b i → Hand t h true b → Ended t b i h → (sender_at b i).own ≡ suc h
  own_is {b} c q x = go x.subject
    where
      go : (suc h ≡ (sender_at b i).own) ⊎ (suc h ≡ (sender_at b i).waker) → (sender_at b i).own ≡ suc h
      go (inl y) = sym y
      go (inr y) = never (sym ((c.inv.locals i).waker_is h (sym y)).1 ∙ q.sync)

  exit : {b : Board} → Calm t b i → Hand t h true b → Ended t b i h → NoMeet t h (length t.chords) b
      → (message_at b h).status ≢ woken → Within t b i 274
  exit {b} c q x nothing un = go x.exit
    where
      go : Exit t b i h → Within t b i 274
      go (to_idle st) = now-idle st
      go (to_blocked st) = within_more (omega arith) (blocked-unwoken c st (own_is c q x) un)
      go (to_waker v e f d st) =
          let k = taken c e f st in
          last_pass t i v h d 0 c st k.pend
          (record { hand = k.hand; own = own_is c q x; none = nothing; unwoken = un })

  consumed_exit : {b : Board} → Calm t b i → Hand t h true b → Ended t b i h
      → ((message_at b h).status ≡ consumed) ⊎ (is_sync t (channel_of b h) ≡ false) → Within t b i 274
  consumed_exit {b} c q x (inl e) =
      exit c q x (no-meet-shut t h (length t.chords) b (ap is_open e)) (λ z. apart refl (sym e ∙ z))
  consumed_exit c q x (inr e) = never (sym e ∙ q.sync)

  abbrev stage : Stage t i h 274 7
  stage = record {
    Kept = Hand t h true;
    keeps = λ x calm n q. hand_on x q;
    wakes = λ a x q. hand_on x q;
    tells = λ q e f l m. seven-tells f l;
    exit = consumed_exit;
  }

  pub own_pass : {b : Board} (k : ℕ) → Calm t b i → Starts t b i h k → (message_at b h).status ≡ pending
      → Hand t h true b → Within t b i 553
  own_pass {b} k c st pend q =
      fresh_pass t i h 274 7 (omega arith) stage (record {
        Come = Unmet;
        unmoved = unmoved;
        skips = λ q. record { hand = q.hand; none_before = no-meet-skips q.none_before; pend = q.pend };
        missed = λ {b} {w} a sub free e q. record {
          hand = q.hand;
          none_before = subst (λ (n : ℕ). NoMeet t n (suc w.chord) b) sub (no-meet-missed a free e
              (subst⁻¹ (λ (n : ℕ). NoMeet t n w.chord b) sub q.none_before));
          pend = q.pend;
        };
        found = λ q. q.hand;
        failed = λ c ge q x.
            exit c q.hand x (no-meet-less ge q.none_before) (λ z. apart refl (sym q.pend ∙ z));
      }) k c st pend (record { hand = q; none_before = no-meet-zero t h b; pend = pend })

-- a blocked sender may be woken, and then has such a pass before it
pub blocked-any : {t : Table} {b : Board} {i : ℕ} → Calm t b i → (sender_at b i).state ≡ blocked → Within t b i 554
blocked-any {t} {b} {i} c st = when-blocked c st 553 resumed
  where
    ready : (1 ≤ (sender_at b i).own) × Waits t b (sender_at b i).own × ((sender_at b i).matched ≡ 0)
    ready = subst (StateOk t b (sender_at b i).own (sender_at b i).waker (sender_at b i).matched) st
        (c.inv.locals i).state_is

    resumed : (message_at b ((sender_at b i).own - 1)).status ≡ woken
        → step_by t b i ≡ does (resume_by t b (sender_at b i) ((sender_at b i).own - 1) woken)
        → Within t (apply b i (resume_by t b (sender_at b i) ((sender_at b i).own - 1) woken)) i 553
    resumed e y =
        own_pass t i ((sender_at b i).own - 1) 0 x.calm
        (x.passage.own.state
        ∙ ap (λ (z : ℕ). working (pass_from t ((sender_at b i).own - 1) z 0 false 0))
        (sym (x.passage.kept _ on).channel))
        (now (x.passage.after ((sender_at b i).own - 1))) (hand_on x (record { on = on; sync = ready.1 }))
      where
        x : Next t b i (resume_by t b (sender_at b i) ((sender_at b i).own - 1) woken)
        x = next c y

        on : (sender_at b i).own - 1 < length b.messages
        on = on_board b ((sender_at b i).own - 1) woken e (apart refl)

        now : After b (apply b i (resume_by t b (sender_at b i) ((sender_at b i).own - 1) woken))
            (turn ((sender_at b i).own - 1) resumes) ((sender_at b i).own - 1)
            → (message_at (apply b i (resume_by t b (sender_at b i) ((sender_at b i).own - 1) woken))
            ((sender_at b i).own - 1)).status ≡ pending
        now (same z s m v) = absurd (z resumes (refl, refl, refl))
        now (turned_by τ z o s r m v) = r ∙ ap status_after (sym z.2)
