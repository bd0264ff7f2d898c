-- From any state that a schedule leaves it in, a sender in peace is at rest within 1,628 steps.
use mathlib.Core.Path.{◌≡◌, refl, sym, ◌∙◌, ap, subst, subst⁻¹}
use mathlib.Core.Bool.{Bool, true, false, ◌&&◌}
use Prim.Native.Nat.{ℕ, suc, ◌≤◌, ◌<◌}
use lib.ListN.{length}
use native.Mathlib.Omega.{arith}
use Rattle.model.specs.Tables.{Table, is_sync}
use Rattle.model.specs.Boards.{Board, Job, Phase, State, Status, sender_at, message_at, channel_of, backoff_at, is_open}
use Rattle.model.specs.Boards.{pending, claimed, woken, consumed, idle, working, blocked, look, claim, revert, consume}
use Rattle.model.specs.Boards.{tell, wake, free, signal, pass_end, backoff}
use Rattle.model.specs.Effects.{Effect, apply, messages_after, does, claims, frees, consumes, wakes_by, resumes}
use Rattle.model.specs.Steps.{step_by, pass_end_step, pass_end_by, rests_then, more}
use Rattle.model.proofs.Tests.{never, both}
use Rattle.model.proofs.Passage.{After, same, turned_by}
use Rattle.model.proofs.Phases.{is_resume}
use Rattle.model.proofs.Covers.{subject-of, not-resume}
use Rattle.model.proofs.AtWork.{AtWork}
use Rattle.alone.proofs.Rests.{rests_in, rests_of}
use Rattle.alone.proofs.Calm.{Calm, Within, within_more, now-idle, later, Next, next, working-at, work_step}
use Rattle.alone.proofs.Ended.{Ended, Exit, to_idle, to_blocked, to_waker, ended}
use Rattle.alone.proofs.Finish.{plain-stage, Finishing, consuming, telling, waking, freeing, signalling, finish}
use Rattle.alone.proofs.Passes.{none_claimed, open-pending}
use Rattle.alone.proofs.Fresh.{Starts}
use Rattle.alone.proofs.Stale.{Lossy, Stale, looking, claiming, reverting, begins, stale}
use Rattle.alone.proofs.Hands.{taken}
use Rattle.alone.proofs.OwnPass.{own_pass, blocked-any}
use Rattle.alone.proofs.AsyncPass.{async-pass}
use Rattle.alone.proofs.Backoff.{rests-to, backing-off}

module _ (t : Table) (i : ℕ) where
  -- a job that ends leaves a pass with the waker at most, and what may follow it
  exit : (h : ℕ) (b : Board) → Calm t b i → Ended t b i h → Within t b i 827
  exit h b c x = go x.exit
    where
      go : Exit t b i h → Within t b i 827
      go (to_idle st) = now-idle st
      go (to_blocked st) = within_more (omega arith) (blocked-any c st)
      go (to_waker v e f d st) = let k = taken c e f st in async-pass t i v 0 c st k.pend k.hand

  -- a new pass on a pending subject
  restart : (h : ℕ) (b : Board) (k : ℕ) → Calm t b i → Starts t b i h k → (message_at b h).status ≡ pending
      → Within t b i 827
  restart h b k c st pend = go (is_sync t (channel_of b h)) refl
    where
      on : h < length b.messages
      on = subst (λ (n : ℕ). n < length b.messages) (subject-of t h (channel_of b h) 0 k false)
          (working-at c st refl).job.subject_in

      go : (u : Bool) → is_sync t (channel_of b h) ≡ u → Within t b i 827
      go true e = within_more (omega arith) (own_pass t i h k c st pend (record { on = on; sync = e }))
      go false e = async-pass t i h k c st pend (record { on = on; sync = e })

  -- the end of a pass: `again`, rests and a new pass; or the job ends
  module _ {h : ℕ} {b : Board} {w : Job} (c : Calm t b i) (a : AtWork t b i w pass_end) (sub : w.subject ≡ h) where
    over : step_by t b i ≡ does (pass_end_by t b (sender_at b i) w false) → Within t b i 828
    unfolding apply messages_after
    over y = let x = next c y in later y (exit h _ x.calm (ended a x sub (sender_at b i) refl refl))

    again : step_by t b i ≡ does (pass_end_by t b (sender_at b i) w true)
        → is_open (message_at b w.subject).status ≡ true → Within t b i 892
    unfolding apply messages_after
    again y e =
        within_more (omega (arith, c.bounded.table (more w.retries)))
        (later y (rests-to t i h 827 (λ s. s ≡ pending) (restart h) (backoff_at b.backoffs (more w.retries)) b
        (more w.retries) x.calm pend refl
        (x.passage.own.state ∙ ap (λ (o : ℕ). working (rests_then t b o (more w.retries)
        (backoff_at b.backoffs (more w.retries)))) sub)))
      where
        x : Next t b i (pass_end_by t b (sender_at b i) w true)
        x = next c y

        pend : (message_at b h).status ≡ pending
        pend = subst (λ (n : ℕ). (message_at b n).status ≡ pending) sub
            (open-pending _ e (none_claimed c a (λ j z. z) w.subject))

    ends-any : Within t b i 892
    unfolding pass_end_step
    ends-any = go (w.retry && is_open (message_at b w.subject).status) refl (work_step c a)
      where
        go : (u : Bool) → (w.retry && is_open (message_at b w.subject).status) ≡ u
            → step_by t b i ≡ does (pass_end_by t b (sender_at b i) w u) → Within t b i 892
        go true e y = again y (both {t = w.retry} e).1
        go false e y = within_more (omega arith) (over y)

    ends-gone : is_open (message_at b h).status ≡ false → Within t b i 828
    unfolding pass_end_step
    ends-gone e = over (work_step c a ∙ ap (λ (u : Bool). does (pass_end_by t b (sender_at b i) w u)) (shut w.retry))
      where
        shut : (u : Bool) → (u && is_open (message_at b w.subject).status) ≡ false
        shut true = subst⁻¹ (λ (n : ℕ). is_open (message_at b n).status ≡ false) sub e
        shut false = refl

  -- a pass on a subject that is gone, woken or consumed: it stays so until the sender resumes
  gone-on : (h : ℕ) {b : Board} {e : Effect} → Next t b i e → is_resume e.change ≡ false
      → is_open (message_at b h).status ≡ false → is_open (message_at (apply b i e) h).status ≡ false
  gone-on h {b} {e} x calm q = go (x.passage.after h)
    where
      go : After b (apply b i e) e.change h → is_open (message_at (apply b i e) h).status ≡ false
      go (same f s m w) = ap is_open s ∙ q
      go (turned_by claims f on s y m w) = never (sym q ∙ ap is_open s)
      go (turned_by frees f on s y m w) = never (sym q ∙ ap is_open s)
      go (turned_by (consumes k) f on s y m w) = never (sym q ∙ ap is_open s)
      go (turned_by (wakes_by v) f on s y m w) = never (sym q ∙ ap is_open s)
      go (turned_by resumes f on s y m w) = absurd (not-resume e.change calm f)

  abbrev gone : (h : ℕ) → Lossy t i h 827 828
  gone h = record {
    Kept = λ b. is_open (message_at b h).status ≡ false;
    keeps = gone-on h;
    more = λ q e. never (sym q ∙ e);
    exit = exit h;
    ends = λ c q a sub. ends-gone c a sub q;
  }

  gone-pass : (h : ℕ) (b : Board) (k : ℕ) → Calm t b i → Starts t b i h k → is_open (message_at b h).status ≡ false
      → Within t b i 1564
  gone-pass h b k c st q =
      stale t i h 827 828 (gone h) c q
      (begins t i h 827 828 (gone h) 1564 h (channel_of b h) 0 k false c st refl (omega (arith, c.table.chords_few))
      (omega arith))

  -- any job
  abbrev any : (h : ℕ) → Lossy t i h 827 892
  any h = record {
    Kept = λ b. Unit {0};
    keeps = λ x calm q. tt;
    more = λ q e. omega arith;
    exit = exit h;
    ends = λ c q a sub. ends-any c a sub;
  }

  module _ {b : Board} (c : Calm t b i) (w : Job) (st : (sender_at b i).state ≡ working w) where
    passing : Stale t i w.subject 827 892 (any w.subject) b 1628 → Within t b i 1628
    passing x = stale t i w.subject 827 892 (any w.subject) c tt x

    finishing : Finishing t i w.subject 827 7 (plain-stage t i w.subject 827 (exit w.subject)) b 1628
        → Within t b i 1628
    finishing x = finish t i w.subject 827 7 (plain-stage t i w.subject 827 (exit w.subject)) c tt x

    resting : {r : ℕ} → suc r ≤ 64 → AtWork t b i w (backoff r) → (s : Status) → (message_at b w.subject).status ≡ s
        → Within t b i 1628
    resting {r} le a s e = go s e
      where
        off : is_open (message_at b w.subject).status ≡ false → Within t b i 1628
        off z = within_more (omega (arith, le))
            (backing-off t i w.subject 1564 (λ s. is_open s ≡ false) (gone-pass w.subject) c z a refl)

        go : (s : Status) → (message_at b w.subject).status ≡ s → Within t b i 1628
        go pending z = within_more (omega (arith, le))
            (backing-off t i w.subject 827 (λ s. s ≡ pending) (restart w.subject) c z a refl)
        go claimed z = absurd (none_claimed c a (λ j x. x) w.subject z)
        go woken z = off (ap is_open z)
        go consumed z = off (ap is_open z)

    few : length t.chords ≤ 32
    few = c.table.chords_few

    by-phase : (p : Phase) → w.phase ≡ p → Within t b i 1628
    by-phase (look k) e = passing (looking w (working-at c st e) refl (omega (arith, few)))
    by-phase (claim k) e = passing (claiming w (working-at c st e) refl (omega (arith, few)))
    by-phase (revert k m) e = passing (reverting w (working-at c st e) refl (omega (arith, few)))
    by-phase (consume k m) e = finishing (consuming w (working-at c st e) refl (omega arith))
    by-phase (tell k) e = finishing (telling w (working-at c st e) refl (omega arith))
    by-phase wake e = finishing (waking w (working-at c st e) refl (omega arith))
    by-phase (free k) e = finishing (freeing w (working-at c st e) refl (omega arith))
    by-phase signal e = finishing (signalling w (working-at c st e) refl (omega arith))
    by-phase pass_end e = within_more (omega arith) (ends-any c (working-at c st e) refl)
    by-phase (backoff r) e = resting few-left (working-at c st e) (message_at b w.subject).status refl
      where
        few-left : suc r ≤ 64
        few-left = subst (λ (p : Phase). rests_in p ≤ 64) e
            (subst (λ (x : State). rests_of x ≤ 64) st (c.bounded.rests i))

pub in-peace : {t : Table} {b : Board} {i : ℕ} → Calm t b i → Within t b i 1628
in-peace {t} {b} {i} c = go (sender_at b i).state refl
  where
    go : (x : State) → (sender_at b i).state ≡ x → Within t b i 1628
    go idle st = now-idle st
    go (working w) st = by-phase t i c w st w.phase refl
    go blocked st = within_more (omega arith) (blocked-any c st)
