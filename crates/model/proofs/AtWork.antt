-- A sender at work in some phase, and what two common kinds of step owe: the job goes on, or it ends. A change is tame
-- if it consumes, wakes and resumes no message and records no match.
use mathlib.Core.Path.{◌≡◌, refl, sym, ◌∙◌, ap, subst, subst⁻¹}
use mathlib.Core.Logic.{◌⊎◌, inl, inr, ◌≢◌}
use mathlib.Core.Bool.{Bool, true, false}
use mathlib.Core.List.{List}
use Prim.Native.Nat.{ℕ, ◌-◌, ◌<◌, ◌≤◌, suc, zero}
use lib.ListN.{length, get_or}
use native.Mathlib.Omega.{arith}
use Rattle.model.specs.Basics.{is_in}
use Rattle.model.specs.Tables.{Table, is_sync}
use Rattle.model.specs.Boards.{Board, Job, Phase, sender_at, working, claimed, State, channel_of, is_idle}
use Rattle.model.specs.Boards.{Sender, message_at, consumed, woken, Message}
use Rattle.model.specs.Effects.{Change, none, turn, claims, frees, consumes, wakes_by, resumes, records}
use Rattle.model.specs.Effects.{signals, Turn, Effect, apply}
use Rattle.model.specs.Jobs.{pass_from, in_job, job_end}
use Rattle.model.specs.Steps.{rests_then}
use Rattle.model.specs.Holdings.{HeldPlace, Holds, HoldsAt}
use Rattle.model.proofs.Tests.{never}
use Rattle.model.proofs.Words.{is_record}
use Rattle.model.proofs.Frame.{messages-count}
use Rattle.model.proofs.Grows.{Turns, status_before, Lawful, Grows, apart}
use Rattle.model.proofs.Passage.{TurnsTo, grows, step-passage}
use Rattle.model.proofs.Phases.{turn-wakes, is_resume, still, signalling}
use Rattle.model.proofs.Local.{JobAt, PlacedAt, pass-ok, rests-ok, SenderOk, sender-on, with-state, ends-ok}
use Rattle.model.proofs.Holding.{HoldingKept}
use Rattle.model.proofs.Places.{inert, none-held, ends-empty}
use Rattle.model.proofs.Notes.{NotesKept, NotesOk, woken-waits}
use Rattle.model.proofs.Matches.{WillConsume, still-not, not-consuming}
use Rattle.model.proofs.Owners.{WillSignal, OwnersKept, keeps_own}
use Rattle.model.proofs.Obligation.{Case, Covers, Obliged}
use Rattle.model.proofs.Covers.{go_on, end-it}
use Rattle.model.proofs.Answering.{no-tell, WillTell, WillTellAt, OwnAnswer, AnsweringKept, JobEnded}
use Rattle.model.proofs.Answering.{job-ended}
use Rattle.model.proofs.Invariant.{Inv, StepOwes, no-record}

pub record AtWork (t : Table) (b : Board) (i : ℕ) (w : Job) (p : Phase) : Type 0 where
  pub inv : Inv t b
  pub in_senders : i < length b.senders
  pub state : (sender_at b i).state ≡ working w
  pub phase : w.phase ≡ p
  pub own_some : 1 ≤ (sender_at b i).own
  pub job : JobAt t b (sender_at b i).own (sender_at b i).waker w p

abbrev pub is_tame : Change → Bool
is_tame none = true
is_tame (turn n claims) = true
is_tame (turn n frees) = true
is_tame (turn n (consumes m)) = false
is_tame (turn n (wakes_by h)) = false
is_tame (turn n resumes) = false
is_tame (records n m) = false
is_tame (signals n) = true

record Tame (c : Change) : Type 0 where
  calm : is_record c ≡ false
  no_wake : turn-wakes c ≡ false
  no_resume : is_resume c ≡ false
  no_note : (t : Table) (b : Board) → NotesKept t b c

tame : (c : Change) → is_tame c ≡ true → Tame c
tame none e = record { calm = refl; no_wake = refl; no_resume = refl; no_note = λ t b. tt }
tame (turn n claims) e = record { calm = refl; no_wake = refl; no_resume = refl; no_note = λ t b. tt }
tame (turn n frees) e = record { calm = refl; no_wake = refl; no_resume = refl; no_note = λ t b. tt }
tame (turn n (consumes m)) e = never e
tame (turn n (wakes_by h)) e = never e
tame (turn n resumes) e = never e
tame (records n m) e = never e
tame (signals n) e = record { calm = refl; no_wake = refl; no_resume = refl; no_note = λ t b. tt }

pub not-waking : (c : Change) {n h : ℕ} → turn-wakes c ≡ false → TurnsTo c n (wakes_by h) → ⊥
not-waking none e f = never f.0
not-waking (turn m τ) e f = never (sym e ∙ ap (λ (σ : Turn). turn-wakes (turn m σ)) f.2)
not-waking (records m r) e f = never (ap (λ (σ : Turn). turn-wakes (turn m σ)) f.2)
not-waking (signals m) e f = never f.0

module _ {t : Table} {b : Board} {i : ℕ} {w : Job} {p : Phase} (c : AtWork t b i w p) where
  -- a message that the job holds, and one that it drops
  pub held-claimed : (j : ℕ) → HeldPlace t w.chord p (length w.chosen) j
      → (message_at b (get_or w.chosen j 0)).status ≡ claimed
  held-claimed j h =
      c.inv.holding.claimed_is i _
      (subst⁻¹ (λ (z : State). Holds t z (get_or w.chosen j 0)) c.state (record {
        place = j;
        held = subst⁻¹ (λ (q : Phase). HeldPlace t w.chord q (length w.chosen) j) c.phase h;
        is = refl;
      }))

  pub drops : (τ : Turn) → claimed ≡ status_before τ → (j : ℕ) → HeldPlace t w.chord p (length w.chosen) j
      → get_or w.chosen j 0 < length b.messages → Turns b (get_or w.chosen j 0) τ
  drops τ s j h l = record { on_board = l; from = held-claimed j h ∙ s }

  -- what the job holds, by its phase
  pub from-work : (x : Change) (A : ℕ → Type 0) → HoldingKept x (HoldsAt t w.chord w.chosen p) A
      → HoldingKept x (Holds t (sender_at b i).state) A
  from-work x A k = subst⁻¹ (λ (z : State). HoldingKept x (Holds t z) A) c.state
      (subst⁻¹ (λ (q : Phase). HoldingKept x (HoldsAt t w.chord w.chosen q) A) c.phase k)

  pub no-consume : still p ≡ true → (n : ℕ) → WillConsume (sender_at b i).state n → ⊥
  no-consume e n x = still-not (sender_at b i).state w p c.state c.phase e n x

  pub no-tell-now : still p ≡ true → (n : ℕ) → WillTell t b (sender_at b i).state n → ⊥
  no-tell-now e n x = no-tell t b w n p e
      (subst (λ (q : Phase). WillTellAt t b w n q) c.phase (subst (λ (z : State). WillTell t b z n) c.state x))

  pub no-signal : signalling p ≡ false → (n : ℕ) → WillSignal t (sender_at b i).state n → ⊥
  no-signal e n x =
      never (sym e ∙ ap signalling (sym c.phase) ∙ (subst (λ (z : State). WillSignal t z n) c.state x).0)

  -- jobs of the same subject
  pub job-at : (q : Phase) (chosen : List ℕ) (retry : Bool) (k : ℕ)
      → PlacedAt t b w.subject w.chord chosen retry q
      → JobAt t b (sender_at b i).own (sender_at b i).waker
      (record { subject = w.subject; chord = w.chord; phase = q; chosen = chosen; retry = retry; retries = k }) q
  job-at q chosen retry k x = record { subject_in = c.job.subject_in; subject_is = c.job.subject_is; placed = x }

  pub pass-at : (from k : ℕ) (retry : Bool)
      → JobAt t b (sender_at b i).own (sender_at b i).waker
      (pass_from t w.subject (channel_of b w.subject) from retry k)
      (pass_from t w.subject (channel_of b w.subject) from retry k).phase
  pass-at from k retry = pass-ok t b _ _ w.subject from k retry c.job.subject_in c.job.subject_is

  pub rests-at : (k rests : ℕ)
      → JobAt t b (sender_at b i).own (sender_at b i).waker (rests_then t b w.subject k rests)
      (rests_then t b w.subject k rests).phase
  rests-at k rests = rests-ok t b _ _ w.subject k rests c.job.subject_in c.job.subject_is

  module _ (s : Effect) (l : Lawful b s.change) where
    abbrev b' : Board
    b' = apply b i s

    pub grown : Grows b b'
    grown = grows (step-passage b i s c.in_senders l)

    -- the sender goes on with job w'
    module _ (w' : Job) (d : s.sender.state ≡ working w') (own : s.sender.own ≡ (sender_at b i).own)
        (signal : s.sender.signalled ≡ (sender_at b i).signalled) where
      pub job-owners :
          ((n : ℕ) → WillSignal t (sender_at b i).state n → WillSignal t (working w') n ⊎ (s.change ≡ signals n))
          → ((n h : ℕ) → TurnsTo s.change n (wakes_by h) → WillSignal t (working w') n)
          → OwnersKept t b b' i s.change s.sender
      job-owners f g = record {
        owning = keeps_own own (messages-count b i s);
        goes-idle = λ z. never (sym (ap is_idle d) ∙ z);
        signal_kept = λ z n o o'. inl (signal ∙ z);
        signalling_kept = λ n x. subst⁻¹ (λ (q : State). WillSignal t q n ⊎ (s.change ≡ signals n)) d (f n x);
        signalling_new = λ n h x. subst⁻¹ (λ (q : State). WillSignal t q n) d (g n h x);
      }

      pub job-answer : (n : ℕ) → (1 ≤ (sender_at b i).matched → 1 ≤ s.sender.matched)
          → (WillConsume (sender_at b i).state n → (1 ≤ s.sender.matched) ⊎ WillConsume (working w') n)
          → OwnAnswer t b b' i s.sender n
      job-answer n f g = record {
        not_idle = ap is_idle c.state;
        goes-idle = λ z. never (sym (ap is_idle d) ∙ z);
        match_kept = f;
        signal_kept = λ z q e. signal ∙ q;
        consumes_on = λ x. subst⁻¹ (λ (q : State). (1 ≤ s.sender.matched) ⊎ WillConsume q n) d (g x);
      }

      pub plain-answering : still p ≡ true → is_record s.change ≡ false → s.sender.matched ≡ (sender_at b i).matched
          → AnsweringKept t b b' i s.change s.sender
      plain-answering st e m = record {
        own = λ n o o'. job-answer n (λ z. omega (arith, m)) (λ x. absurd (no-consume st n x));
        tells_on = λ n h wt x. absurd (no-tell-now st n x);
        tells_new = λ x m z. never (sym e ∙ ap is_record z);
      }

    pub job-local : (w' : Job) → s.sender ≡ in_job (sender_at b i) w'
        → JobAt t b (sender_at b i).own (sender_at b i).waker w' w'.phase → SenderOk t b' s.sender
    job-local w' d j = sender-on t b b' grown s.sender
        (subst⁻¹ (SenderOk t b) d
        (with-state t b (sender_at b i) (working w') (sender_at b i).signalled (c.inv.locals i) (c.own_some, j)))

    pub job-goes-on : (w' : Job) → s.sender ≡ in_job (sender_at b i) w'
        → is_tame s.change ≡ true → still p ≡ true → signalling p ≡ false
        → JobAt t b (sender_at b i).own (sender_at b i).waker w' w'.phase
        → HoldingKept s.change (HoldsAt t w.chord w.chosen p) (Holds t (working w'))
        → w'.subject ≡ w.subject
        → ((q : ℕ) (ns : List ℕ) → Case t b b' i s.change s.sender q ns → is_in w.subject ns ≡ true → Covers w q
        → Covers w' q ⊎ Obliged t b' q ns)
        → StepOwes t b i s
    job-goes-on w' d e st sg j k h f =
        let x = tame s.change e in
        let state = ap (λ (z : Sender). z.state) d in
        let own = ap (λ (z : Sender). z.own) d in
        let signal = ap (λ (z : Sender). z.signalled) d in
        record {
          lawful = l;
          local = job-local w' d j;
          holding =
              subst⁻¹ (λ (z : Sender). HoldingKept s.change (Holds t (sender_at b i).state) (Holds t z.state)) d
              (from-work s.change _ k);
          notes = x.no_note t b';
          matches = not-consuming b b' i s.change s.sender (no-consume st) x.calm;
          owners = λ n. job-owners w' state own signal (λ m y. absurd (no-signal sg m y))
              (λ m a y. absurd (not-waking s.change x.no_wake y));
          obligation =
              λ q ns y.
              go_on y w c.state x.no_resume w' state own (ap (λ (z : Sender). z.waker) d) h (f q ns y);
          answering = plain-answering w' state own signal st x.calm (ap (λ (z : Sender). z.matched) d);
          recorded = no-record t b s x.calm;
        }

    -- the job ends; e is its sender, with a match of its own message remembered if there is one
    module _ (e : Sender) (d : s.sender ≡ job_end t b'.messages e w.subject) (own : e.own ≡ (sender_at b i).own)
        (signal : e.signalled ≡ (sender_at b i).signalled) where
      ended : JobEnded t b'.messages e s.sender
      ended = subst⁻¹ (JobEnded t b'.messages e) d (job-ended t b'.messages e w.subject)

      own_is : (n : ℕ) → (sender_at b i).own ≡ suc n → e.own - 1 ≡ n
      own_is n o = omega (arith, own, o)

      replied : is_idle s.sender.state ≡ true → (n : ℕ) → (sender_at b i).own ≡ suc n
          → is_sync t (channel_of b' n) ≡ true
          → (1 ≤ s.sender.reply) × (1 ≤ e.matched)
      replied z n o wt = ended.replies z (subst⁻¹ (λ (m : ℕ). is_sync t (channel_of b' m) ≡ true) (own_is n o) wt)

      pub end-owners : SenderOk t b' s.sender → NotesOk t b'
          → ((n : ℕ) → WillSignal t (sender_at b i).state n → s.change ≡ signals n) → turn-wakes s.change ≡ false
          → OwnersKept t b b' i s.change s.sender
      end-owners ok notes' f calm = record {
        owning = keeps_own (ended.own ∙ own) (messages-count b i s);
        goes-idle = λ z n o. gone z n o (is_sync t (channel_of b' n)) refl;
        signal_kept = λ z n o o'. kept z n o (is_idle s.sender.state) refl;
        signalling_kept = λ n x. inr (f n x);
        signalling_new = λ n h x. absurd (not-waking s.change calm x);
      }
        where
          own-matched : (n m : ℕ) → (sender_at b i).own ≡ suc n → s.sender.matched ≡ m → 1 ≤ m
              → (message_at b' n).status ≡ consumed
          own-matched n zero o y z = absurd (omega arith)
          own-matched n (suc m) o y z = subst (λ (k : ℕ). (message_at b' k).status ≡ consumed)
              (omega (arith, ended.own, own, o)) (ok.matched_is m y).1

          gone : is_idle s.sender.state ≡ true → (n : ℕ) → (sender_at b i).own ≡ suc n
              → (u : Bool) → is_sync t (channel_of b' n) ≡ u → (u ≡ false) ⊎ ((message_at b' n).status ≡ consumed)
          gone z n o false y = inl refl
          gone z n o true y =
              inr (own-matched n s.sender.matched o refl (omega (arith, ended.matched, (replied z n o y).1)))

          kept : (sender_at b i).signalled ≡ true → (n : ℕ) → (sender_at b i).own ≡ suc n → (u : Bool)
              → is_idle s.sender.state ≡ u
              → (s.sender.signalled ≡ true) ⊎ ((message_at b' n).status ≢ woken)
          kept z n o false y = inl (ended.signalled y ∙ signal ∙ z)
          kept z n o true y = inr (λ q. go q (gone y n o (is_sync t (channel_of b' n)) refl))
            where
              go : (message_at b' n).status ≡ woken
                  → (is_sync t (channel_of b' n) ≡ false) ⊎ ((message_at b' n).status ≡ consumed) → ⊥
              go q (inl x) = never (sym x ∙ woken-waits t b' notes' n q)
              go q (inr x) = apart refl (sym x ∙ q)

      pub end-answer : (n : ℕ) → (sender_at b i).own ≡ suc n → (1 ≤ (sender_at b i).matched → 1 ≤ e.matched)
          → (WillConsume (sender_at b i).state n → 1 ≤ e.matched) → OwnAnswer t b b' i s.sender n
      end-answer n o f g = record {
        not_idle = ap is_idle c.state;
        goes-idle = λ z wt. (replied z n o wt).0;
        match_kept = λ z. omega (arith, ended.matched, f z);
        signal_kept = λ z q x. ended.signalled z ∙ signal ∙ q;
        consumes_on = λ x. inl (omega (arith, ended.matched, g x));
      }

    -- a job that ends in a phase that consumes and tells nothing
    pub job-ends : is_tame s.change ≡ true → still p ≡ true
        → s.sender ≡ job_end t b.messages (sender_at b i) w.subject
        → b'.messages ≡ b.messages
        → inert s.change ≡ true
        → ((j : ℕ) → HeldPlace t w.chord p (length w.chosen) j → ⊥)
        → ((n : ℕ) → WillSignal t (sender_at b i).state n → s.change ≡ signals n)
        → ((q : ℕ) (ns : List ℕ) → Case t b b' i s.change s.sender q ns → is_in w.subject ns ≡ true → Covers
        w q → Obliged t b' q ns)
        → StepOwes t b i s
    job-ends e st d unmoved idle-hands k sg f =
        let x = tame s.change e in
        let d' = d ∙ ap (λ (is : List Message). job_end t is (sender_at b i) w.subject) (sym unmoved) in
        record {
          lawful = l;
          local = local;
          holding = from-work s.change _ (none-held s.change _ _ idle-hands (λ n y. k y.place y.held)
              (λ n y. ends-empty t b.messages (sender_at b i) w.subject n
              (subst (λ (z : Sender). Holds t z.state n) d y)));
          notes = x.no_note t b';
          matches = not-consuming b b' i s.change s.sender (no-consume st) x.calm;
          owners = λ n. end-owners (sender_at b i) d' refl refl local n sg x.no_wake;
          obligation = λ q ns y. end-it y w c.state x.no_resume (sender_at b i) d' refl refl (f q ns y);
          answering = record {
            own = λ n o o'. end-answer (sender_at b i) d' refl refl n o (λ z. z) (λ y. absurd (no-consume st n y));
            tells_on = λ n h wt y. absurd (no-tell-now st n y);
            tells_new = λ y m z. never (sym x.calm ∙ ap is_record z);
          };
          recorded = no-record t b s x.calm;
        }
      where
        local : SenderOk t b' s.sender
        local = sender-on t b b' grown s.sender
            (subst⁻¹ (SenderOk t b) d (ends-ok t b (sender_at b i) w.subject (c.inv.locals i) c.own_some))
