-- Telling keeps the invariant: each synchronous message of the match, other than the subject, has its sender signalled.
use mathlib.Core.Path.{sym, ap, ◌∙◌, subst, ◌≡◌, refl, subst⁻¹}
use mathlib.Core.Logic.{◌⊎◌, ◌≢◌, inl, inr}
use mathlib.Core.Bool.{true, false, Bool}
use mathlib.Core.List.{List}
use Prim.Native.Nat.{ℕ, ◌<◌, suc, ◌≤◌}
use lib.Dec.{eqb}
use lib.ListN.{get_or, length}
use native.Mathlib.Omega.{arith}
use Rattle.model.specs.Basics.{is_in}
use Rattle.model.specs.Tables.{Table}
use Rattle.model.specs.Boards.{Board, Job, tell, sender_at, State, Sender, consumed, message_at, Phase}
use Rattle.model.specs.Boards.{Message}
use Rattle.model.specs.Effects.{Effect, Told, signals, apply, messages_after}
use Rattle.model.specs.Jobs.{in_job, in_phase, job_end}
use Rattle.model.specs.Steps.{to_tell, told_to, tell_step}
use Rattle.model.specs.Holdings.{Holds}
use Rattle.model.proofs.Tests.{never, same?, tests}
use Rattle.model.proofs.Lists.{is_in-nth, nth-is_in}
use Rattle.model.proofs.Words.{is_record}
use Rattle.model.proofs.Phases.{is_tell}
use Rattle.model.proofs.Local.{AtTell, SenderOk, sender-on, ends-ok}
use Rattle.model.proofs.Places.{none-held, ends-empty}
use Rattle.model.proofs.Matches.{WillConsume, MatchesKept, not-consuming}
use Rattle.model.proofs.Covers.{go_on, covered, end-it}
use Rattle.model.proofs.Answering.{tell-chosen, WillTell, WillTellAt}
use Rattle.model.proofs.Invariant.{StepOwes, no-record}
use Rattle.model.proofs.AtWork.{AtWork, job-local, job-at, from-work, job-owners, no-signal, not-waking}
use Rattle.model.proofs.AtWork.{job-answer, end-owners, end-answer, grown}

module _ {t : Table} {b : Board} {i : ℕ} {w : Job} {k : ℕ} (c : AtWork t b i w (tell k)) where
  p : AtTell t b w.subject w.chord w.chosen k
  p = c.job.placed

  abbrev ns : List ℕ
  ns = to_tell t b.messages w.subject w.chosen

  no-consuming : (n : ℕ) → WillConsume (sender_at b i).state n → ⊥
  no-consuming n x = never (sym (ap is_tell (sym c.phase ∙ (subst (λ (z : State). WillConsume z n) c.state x).ph)))

  abbrev tells : Sender → Effect
  tells x = record { said = Told (get_or ns k 0); change = signals (get_or ns k 0); sender = x }

  module _ (x : Sender) (unmoved : (apply b i (tells x)).messages ≡ b.messages) where
    abbrev s : Effect
    s = tells x

    is-consumed : (q n : ℕ) → q < length ns → get_or ns q 0 ≡ n → (message_at b n).status ≡ consumed
    is-consumed q n h z =
        let r = is_in-nth n w.chosen (tell-chosen t b.messages w.subject n w.chosen
        (subst (λ (y : ℕ). is_in y ns ≡ true) z (nth-is_in ns q h))) in
        subst (λ (y : ℕ). (message_at b y).status ≡ consumed) r.2 (p.done r.0 (omega (arith, r.1, p.full.all)))

    -- one that is to be told is told now, or later
    tells_on : ((q n : ℕ) → suc k ≤ q → q < length ns → get_or ns q 0 ≡ n → WillTell t (apply b i s) x.state n)
        → (n : ℕ) → WillTell t b (sender_at b i).state n
        → WillTell t (apply b i s) x.state n ⊎ ((s.change ≡ signals n) × ((message_at b n).status ≡ consumed))
    tells_on f n y = at r.0 r.1 r.2 r.3 (same? r.0 k)
      where
        r : (q : ℕ) × (k ≤ q) × (q < length ns) × (get_or ns q 0 ≡ n)
        r =
            subst (λ (z : Phase). WillTellAt t b w n z) c.phase
            (subst (λ (z : State). WillTell t b z n) c.state y)

        at : (q : ℕ) → k ≤ q → q < length ns → get_or ns q 0 ≡ n → (q ≡ k) ⊎ (q ≢ k)
            → WillTell t (apply b i s) x.state n ⊎ ((s.change ≡ signals n) × ((message_at b n).status ≡ consumed))
        at q lo hi z (inl e) = inr (ap signals (ap (λ (y : ℕ). get_or ns y 0) (sym e) ∙ z), is-consumed q n hi z)
        at q lo hi z (inr e) = inl (f q n (omega arith) hi z)

    matches-kept : MatchesKept b (apply b i s) i s.change x
    matches-kept = not-consuming b (apply b i s) i s.change x no-consuming refl

    next : eqb (suc k) (length ns) ≡ false → x ≡ in_job (sender_at b i) (in_phase w (tell (suc k))) → StepOwes t b i s
    next z e =
        let state = ap (λ (y : Sender). y.state) e in
        let own = ap (λ (y : Sender). y.own) e in
        let signal = ap (λ (y : Sender). y.signalled) e in
        record {
          lawful = tt;
          local = job-local c s tt _ e (job-at c _ _ _ _ (record {
            full = p.full;
            to_match = p.to_match;
            at = omega (tests, p.at);
            done = p.done;
          }));
          holding = from-work c _ _ (none-held _ _ _ refl (λ n y. y.held)
              (λ n y. (subst (λ (r : Sender). Holds t r.state n) e y).held));
          notes = tt;
          matches = matches-kept;
          owners = λ n. job-owners c s tt _ state own signal (λ m y. absurd (no-signal c refl m y))
              (λ m h y. absurd (not-waking s.change refl y));
          obligation = λ q l y. go_on y w c.state refl _ state own (ap (λ (y : Sender). y.waker) e) refl
              (λ a v. absurd (covered w q (tell k) c.phase v));
          answering = record {
            own =
                λ n o o'.
                job-answer c s tt _ state own signal n (λ q. omega (arith, ap (λ (y : Sender). y.matched) e))
                (λ y. absurd (no-consuming n y));
            tells_on = λ n l wt y. tells_on later n y;
            tells_new = λ y m q. never (ap is_record q);
          };
          recorded = no-record t b s refl;
        }
      where
        later : (q n : ℕ) → suc k ≤ q → q < length ns → get_or ns q 0 ≡ n → WillTell t (apply b i s) x.state n
        later q n lo hi z = subst⁻¹ (λ (y : Sender). WillTell t (apply b i s) y.state n) e
            (subst⁻¹ (λ (is : List Message). (p : ℕ) × (suc k ≤ p) × (p < length (to_tell t is w.subject w.chosen))
            × (get_or (to_tell t is w.subject w.chosen) p 0 ≡ n)) unmoved (q, lo, hi, z))

    ends : eqb (suc k) (length ns) ≡ true → x ≡ job_end t (apply b i s).messages (sender_at b i) w.subject
        → StepOwes t b i s
    ends z e = record {
      lawful = tt;
      local = local;
      holding = from-work c _ _ (none-held _ _ _ refl (λ n y. y.held)
          (λ n y. ends-empty t _ (sender_at b i) w.subject n (subst (λ (r : Sender). Holds t r.state n) e y)));
      notes = tt;
      matches = matches-kept;
      owners = λ n. end-owners c s tt (sender_at b i) e refl refl local n (λ m y. absurd (no-signal c refl m y)) refl;
      obligation =
          λ q l y.
          end-it y w c.state refl (sender_at b i) e refl refl (λ a v. absurd (covered w q (tell k) c.phase v));
      answering = record {
        own = λ n o o'. end-answer c s tt (sender_at b i) e refl refl n o (λ q. q) (λ y. absurd (no-consuming n y));
        tells_on = λ n l wt y. tells_on (λ q m lo hi v. absurd (omega tests)) n y;
        tells_new = λ y m q. never (ap is_record q);
      };
      recorded = no-record t b s refl;
    }
      where
        local : SenderOk t (apply b i s) x
        local = sender-on t b (apply b i s) (grown c s tt) x
            (subst⁻¹ (SenderOk t b) (e ∙ ap (λ (is : List Message). job_end t is (sender_at b i) w.subject) unmoved)
            (ends-ok t b (sender_at b i) w.subject (c.inv.locals i) c.own_some))

  told : (x : Sender) (last : Bool) → eqb (suc k) (length ns) ≡ last → (apply b i (tells x)).messages ≡ b.messages
      → x ≡ told_to t (apply b i (tells x)).messages (sender_at b i) w k last → StepOwes t b i (tells x)
  told x false z unmoved e = next x unmoved z e
  told x true z unmoved e = ends x unmoved z e

  pub tell-owes : StepOwes t b i (tell_step t b (sender_at b i) w k)
  unfolding tell_step apply messages_after
  tell-owes = told _ (eqb (suc k) (length ns)) refl refl refl
