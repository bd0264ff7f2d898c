-- A blocked sender with a signal keeps the invariant: it is answered, it resumes, or it stays blocked.
use mathlib.Core.Path.{◌≡◌, subst, ap, subst⁻¹, sym, ◌∙◌, refl}
use mathlib.Core.Logic.{◌≢◌, inr, inl}
use mathlib.Core.Bool.{false, true}
use mathlib.Core.List.{List}
use Prim.Native.Nat.{ℕ, ◌-◌, ◌<◌, ◌≤◌, suc}
use borrow.Author.Tests.{eq-eqb}
use lib.ListN.{length}
use native.Mathlib.Omega.{arith}
use Rattle.model.specs.Basics.{is_in}
use Rattle.model.specs.Tables.{Table}
use Rattle.model.specs.Boards.{Board, sender_at, blocked, State, message_at, woken, is_idle, consumed, Message}
use Rattle.model.specs.Boards.{Status, match_at, pending, claimed}
use Rattle.model.specs.Effects.{Effect, apply, resumes}
use Rattle.model.specs.Jobs.{new_pass}
use Rattle.model.specs.Steps.{stays_blocked, resume_by, resume_step}
use Rattle.model.specs.Holdings.{Holds}
use Rattle.model.proofs.Tests.{never}
use Rattle.model.proofs.Words.{is_record}
use Rattle.model.proofs.Frame.{messages-count, message_after, messages-at}
use Rattle.model.proofs.Grows.{Lawful, apart, Turns}
use Rattle.model.proofs.Passage.{grows, step-passage, TurnsTo}
use Rattle.model.proofs.Phases.{turn-wakes, blocked-not}
use Rattle.model.proofs.Local.{SenderOk, Waits, StateOk, sender-on, with-state, pass-ok}
use Rattle.model.proofs.Holding.{HoldingKept}
use Rattle.model.proofs.Places.{inert, none-held, pass-empty}
use Rattle.model.proofs.Notes.{NotesKept}
use Rattle.model.proofs.Matches.{not-consuming, WillConsume}
use Rattle.model.proofs.Owners.{keeps_own, WillSignal}
use Rattle.model.proofs.Obligation.{Case, ObligationKept, by_subject, by_waker}
use Rattle.model.proofs.Covers.{blocked-obligation, subject-of, covers-ahead, names-it}
use Rattle.model.proofs.Answering.{WillTell}
use Rattle.model.proofs.Invariant.{Inv, StepOwes, no-record}
use Rattle.model.proofs.AtWork.{not-waking}

module _ (t : Table) (b : Board) (i : ℕ) (v : Inv t b) (in_senders : i < length b.senders)
    (st : (sender_at b i).state ≡ blocked) where
  d-ok : SenderOk t b (sender_at b i)
  d-ok = v.locals i

  waits : (1 ≤ (sender_at b i).own) × Waits t b (sender_at b i).own × ((sender_at b i).matched ≡ 0)
  waits = subst (StateOk t b (sender_at b i).own (sender_at b i).waker (sender_at b i).matched) st d-ok.state_is

  abbrev n : ℕ
  n = (sender_at b i).own - 1

  in-messages : n < length b.messages
  in-messages = omega (arith, waits.0, d-ok.own_in)

  -- what the three ways owe alike
  module _ (s : Effect) (l : Lawful b s.change) (calm : is_record s.change ≡ false)
      (no_wake : turn-wakes s.change ≡ false)
      (idle-hands : inert s.change ≡ true) where
    abbrev b' : Board
    b' = apply b i s

    blocked-owes : SenderOk t b s.sender
        → ((m : ℕ) → Holds t s.sender.state m → ⊥)
        → NotesKept t b' s.change
        → s.sender.own ≡ (sender_at b i).own
        → s.sender.matched ≡ (sender_at b i).matched
        → (message_at b' n).status ≢ woken
        → (is_idle s.sender.state ≡ true → ((message_at b' n).status ≡ consumed) × (1 ≤ s.sender.reply))
        → ((message_at b n).status ≡ consumed → is_idle s.sender.state ≡ true)
        → ((q : ℕ) (ns : List ℕ) → Case t b b' i s.change s.sender q ns → ObligationKept t b b' i
        s.change q ns)
        → StepOwes t b i s
    blocked-owes ok empty notes own matched not-woken is-idle goes-idle seen = record {
      lawful = l;
      local = sender-on t b b' (grows (step-passage b i s in_senders l)) s.sender ok;
      holding = subst⁻¹ (λ (x : State). HoldingKept s.change (Holds t x) (Holds t s.sender.state)) st
          (none-held s.change _ _ idle-hands (λ m x. x) empty);
      notes = notes;
      matches = not-consuming b b' i s.change s.sender (λ m x. subst (λ (z : State). WillConsume z m) st x) calm;
      owners = λ y. record {
        owning = keeps_own own (messages-count b i s);
        goes-idle = λ z m o. inr (subst (λ (k : ℕ). (message_at b' k).status ≡ consumed) (own_is m o) (is-idle z).0);
        signal_kept = λ z m o o'. inr (subst (λ (k : ℕ). (message_at b' k).status ≢ woken) (own_is m o) not-woken);
        signalling_kept = λ m x. absurd (subst (λ (z : State). WillSignal t z m) st x);
        signalling_new = λ m a x. absurd (not-waking s.change no_wake x);
      };
      obligation = seen;
      answering = record {
        own = λ m o o'. record {
          not_idle = ap is_idle st;
          goes-idle = λ z wt. (is-idle z).1;
          match_kept = λ z. omega (arith, matched);
          signal_kept = λ z q e. never (sym z
              ∙ goes-idle (subst⁻¹ (λ (k : ℕ). (message_at b k).status ≡ consumed) (own_is m o) e));
          consumes_on = λ x. absurd (subst (λ (z : State). WillConsume z m) st x);
        };
        tells_on = λ m h wt x. absurd (subst (λ (z : State). WillTell t b z m) st x);
        tells_new = λ x m z. never (sym calm ∙ ap is_record z);
      };
      recorded = no-record t b s calm;
    }
      where
        own_is : (m : ℕ) → (sender_at b i).own ≡ suc m → n ≡ m
        own_is m o = omega (arith, o)

    status-now : (message_at b' n).status ≡ (message_after s.change n (message_at b n)).status
    status-now = ap (λ (y : Message). y.status) (messages-at b i s n in-messages)

  -- neither woken nor consumed
  stays : (x : Status) → (message_at b n).status ≡ x → x ≢ woken → x ≢ consumed
      → StepOwes t b i (stays_blocked (sender_at b i))
  stays x e nw nc =
      blocked-owes _ tt refl refl refl (with-state t b (sender_at b i) blocked false d-ok waits) (λ m y. y) tt refl refl
      (λ z. nw (sym e ∙ sym (status-now _ tt refl refl refl) ∙ z)) (λ z. never z) (λ z. absurd (nc (sym e ∙ z)))
      (λ q ns y. blocked-obligation t b _ i _ q ns st refl)

  -- its message is consumed: `answered`
  answered : (message_at b n).status ≡ consumed → StepOwes t b i (resume_by t b (sender_at b i) n consumed)
  answered e =
      blocked-owes _ tt refl refl refl
      (record {
        own_in = d-ok.own_in;
        waker_is = d-ok.waker_is;
        reply_is = reply;
        matched_is = d-ok.matched_is;
        state_is = tt;
      })
      (λ m y. y) tt refl refl (λ z. apart refl (sym now ∙ z))
      (λ z. (now, omega (arith, (v.notes.match n e).1))) (λ z. refl)
      (λ q ns y. blocked-obligation t b _ i _ q ns st refl)
    where
      now : (message_at (apply b i (resume_by t b (sender_at b i) n consumed)) n).status ≡ consumed
      now = status-now (resume_by t b (sender_at b i) n consumed) tt refl refl refl ∙ e

      reply : (k : ℕ) → (message_at b n).match ≡ suc k
          → (1 ≤ (sender_at b i).own) × Waits t b (sender_at b i).own × (k < length b.matches)
          × (is_in n (match_at b k).messages ≡ true)
      reply k z =
          let r = v.notes.match n e in
          let y : r.0 ≡ k = omega (arith, z, r.1) in
          (waits.0, waits.1, omega (arith, r.2, y), rw y at r.3)

  -- its message is woken: `resumed`, the message is the subject anew and its waker the sender's
  module _ (e : (message_at b n).status ≡ woken) where
    abbrev r : Effect
    r = resume_by t b (sender_at b i) n woken

    turns : Turns b n resumes
    turns = record { on_board = in-messages; from = e }

    module _ (q : ℕ) (ns : List ℕ) (x : Case t b (apply b i r) i r.change r.sender q ns) where
      here : (m : ℕ) → TurnsTo r.change m resumes → is_in m ns ≡ true → is_in n ns ≡ true
      here m f a = ap (λ (y : ℕ). is_in y ns) f.1 ∙ a

      seen : ObligationKept t b (apply b i r) i r.change q ns
      seen = record {
        subject = λ w f. absurd (blocked-not st f);
        waker = λ w y f. absurd (blocked-not st f);
        resumed = λ m f a. by_subject i (new_pass t b.messages n 0) x.passage.own.state
            (ap (λ (y : ℕ). is_in y ns) (subject-of t n _ 0 0 false) ∙ here m f a)
            (covers-ahead t n _ 0 0 q false x.meets.chord-in (omega arith) (names-it x n (here m f a)));
        noted = λ m y f k a. by_waker i (new_pass t b.messages n 0) y x.passage.own.state
            (ap suc (subject-of t n _ 0 0 false) ∙ (omega (arith, waits.0)) ∙ sym x.passage.own.own)
            (x.passage.own.waker ∙ ap (λ (z : ℕ). (message_at b z).waker) f.1 ∙ k) a;
      }

    resumed-owes : StepOwes t b i (resume_by t b (sender_at b i) n woken)
    resumed-owes =
        blocked-owes r turns refl refl refl
        (record {
          own_in = d-ok.own_in;
          waker_is = λ x z. let y = v.notes.waker_is n x z in (y.0, y.1, waits.0, waits.1);
          reply_is = d-ok.reply_is;
          matched_is = d-ok.matched_is;
          state_is =
              (waits.0, pass-ok t b (sender_at b i).own _ n 0 0 false in-messages (inl (omega (arith, waits.0))));
        })
        (λ m y. pass-empty t n _ 0 0 false m y) tt refl refl
        (λ z. apart refl (sym (rw (status-now r turns refl refl refl, eq-eqb n n refl) at z))) (λ z. never z)
        (λ z. absurd (apart refl (sym e ∙ z))) seen

  pub resume-owes : StepOwes t b i (resume_step t b (sender_at b i))
  unfolding resume_step
  resume-owes = go (message_at b n).status refl
    where
      go : (x : Status) → (message_at b n).status ≡ x → StepOwes t b i (resume_by t b (sender_at b i) n x)
      go pending e = stays pending e (apart refl) (apart refl)
      go claimed e = stays claimed e (apart refl) (apart refl)
      go woken e = resumed-owes e
      go consumed e = answered e
