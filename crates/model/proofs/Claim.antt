-- A claim keeps the invariant: it is lost, it goes on to the next claim or to waking, or it records a match.
use mathlib.Core.Path.{refl, ◌≡◌, ap, ◌∙◌, sym, subst}
use mathlib.Core.Logic.{inl, ◌≢◌, ◌⊎◌, inr}
use mathlib.Core.Bool.{true, false, Bool}
use Prim.Native.Nat.{ℕ, ◌<◌, zero, suc}
use lib.Dec.{eqb}
use lib.ListN.{length, get_or}
use native.Mathlib.Omega.{arith}
use Rattle.model.specs.Basics.{is_in}
use Rattle.model.specs.Tables.{Table, size, wakes, is_sync}
use Rattle.model.specs.Boards.{Board, Job, claim, sender_at, revert, is_pending, message_at, wake, channel_of}
use Rattle.model.specs.Boards.{Match, consume}
use Rattle.model.specs.Effects.{none, claims, Effect, apply, records, Change}
use Rattle.model.specs.Jobs.{in_phase}
use Rattle.model.specs.Steps.{loses, claims_to, fires, claimed_by, claim_step}
use Rattle.model.proofs.Tests.{tests, never}
use Rattle.model.proofs.Lists.{is_in-nth}
use Rattle.model.proofs.Frame.{records-count, records-last}
use Rattle.model.proofs.Grows.{Turns, is-pending, Grows}
use Rattle.model.proofs.Phases.{match_of}
use Rattle.model.proofs.Local.{Full, SenderOk, with-state, sender-on, JobAt, job-on}
use Rattle.model.proofs.Places.{none-held, pass-empty, keep-places, take-place}
use Rattle.model.proofs.Matches.{WillConsumeIn, Unmatched, fresh-match}
use Rattle.model.proofs.Covers.{subject-of, covers-retrying, covered, go_on, unmatched-of, full-subject}
use Rattle.model.proofs.Invariant.{StepOwes}
use Rattle.model.proofs.AtWork.{AtWork, job-goes-on, pass-at, job-at, grown, from-work, no-consume, job-owners}
use Rattle.model.proofs.AtWork.{no-signal, not-waking, job-answer, no-tell-now}

module _ {t : Table} {b : Board} {i : ℕ} {w : Job} {k : ℕ} (c : AtWork t b i w (claim k)) where
  full : Full t b w.subject w.chord w.chosen
  full = c.job.placed.0

  in-chosen : k < length w.chosen
  in-chosen = omega (arith, full.all, c.job.placed.1)

  lost : (n : ℕ) → StepOwes t b i (loses t b (sender_at b i) w k n)
  lost n = go k c
    where
      go : (k : ℕ) → AtWork t b i w (claim k) → StepOwes t b i (loses t b (sender_at b i) w k n)
      go zero c = job-goes-on c _ tt _ refl refl refl refl (pass-at c _ _ _)
          (none-held _ _ _ refl (λ m x. omega (arith, x.held)) (λ m x. pass-empty t _ _ _ _ _ m x))
          (subject-of t w.subject _ _ _ _) (λ q ns y a x. inl (covers-retrying t w.subject _ _ _ q true refl))
      go (suc k) c =
          job-goes-on c _ tt _ refl refl refl refl (job-at c _ _ _ _ (full, omega arith, c.job.placed.1, refl))
          (keep-places t w.chord w.chosen (claim (suc k)) (revert 0 (suc k)) none refl
          (λ j x. x.1) (λ j x. (omega arith, x)))
          refl (λ q ns y a x. inl (inl refl))

  module _ (pend : is_pending (message_at b (get_or w.chosen k 0)).status ≡ true) where
    takes : Turns b (get_or w.chosen k 0) claims
    takes = record { on_board = full.selection.inside k in-chosen; from = is-pending _ pend }

    claims-next : eqb (suc k) (size t w.chord) ≡ false
        → StepOwes t b i (claims_to (sender_at b i) w (get_or w.chosen k 0) (claim (suc k)))
    claims-next e =
        job-goes-on c _ takes _ refl refl refl refl (job-at c _ _ _ _ (full, omega (tests, c.job.placed.1)))
        (take-place t w.chord w.chosen (claim k) (claim (suc k)) _ k (refl, refl, refl) (omega arith)
        (λ j x ne. omega arith) (λ j x. omega arith))
        refl (λ q ns y a x. inl (covered w q (claim k) c.phase x))

    claims-all : eqb (suc k) (size t w.chord) ≡ true → wakes t w.chord (channel_of b w.subject) ≡ true
        → StepOwes t b i (claims_to (sender_at b i) w (get_or w.chosen k 0) wake)
    claims-all e x =
        job-goes-on c _ takes _ refl refl refl refl (job-at c _ _ _ _ (record { full = full; to-wake = x }))
        (take-place t w.chord w.chosen (claim k) wake _ k (refl, refl, refl) in-chosen
        (λ j y ne. omega (tests, full.all)) (λ j y. omega (arith, in-chosen)))
        refl (λ q ns y a z. inl tt)

    -- a match
    module _ (e : eqb (suc k) (size t w.chord) ≡ true)
        (no_wake : wakes t w.chord (channel_of b w.subject) ≡ false) where
      abbrev s : Effect
      s = fires b (sender_at b i) w (get_or w.chosen k 0)

      abbrev m : Match
      m = record { chord = w.chord; messages = w.chosen }

      g : Grows b (apply b i s)
      g = grown c s takes

      local : SenderOk t (apply b i s) s.sender
      local = with-state t (apply b i s) (sender_at b i) _ (sender_at b i).signalled
          (sender-on t b (apply b i s) g (sender_at b i) (c.inv.locals i)) (
            c.own_some,
            record {
              subject_in = up.subject_in;
              subject_is = up.subject_is;
              placed = record {
                full = up.placed.0;
                at = omega (arith, c.job.placed.1);
                to_match = rw (g.kept w.subject c.job.subject_in).channel no_wake;
                match-in = omega (arith, records-count b i s _ m refl);
                match = λ n z. rw (records-last b i s _ m refl n (omega arith));
                some = omega arith;
                done = λ j h. absurd (omega arith);
              };
            },
          )
        where
          up : JobAt t (apply b i s) (sender_at b i).own (sender_at b i).waker w (claim k)
          up = job-on t b (apply b i s) g (sender_at b i).own (sender_at b i).waker w (claim k) c.job

      begins : (n : ℕ) → is_in n w.chosen ≡ true
          → WillConsumeIn (in_phase w (consume 0 (suc (length b.matches)))) n × Unmatched b n
          × (n < length b.messages)
      begins n y =
          let r = is_in-nth n w.chosen y in (
            record {
              at = 0;
              match = suc (length b.matches);
              place = r.0;
              ph = refl;
              low = omega arith;
              high = r.1;
              is = r.2;
            },
            fresh-match t b i w k c.state c.phase (omega (tests, full.all)) (is-pending _ pend)
                c.inv.holding c.inv.matches n y,
            rw r.2 at (full.selection.inside r.0 r.1),
          )

      -- the subject of a match that tells is the sender's own message, or an asynchronous one
      not-subject : (n : ℕ) → is_sync t (channel_of b n) ≡ true → suc n ≢ (sender_at b i).own
          → (suc w.subject ≡ (sender_at b i).own) ⊎ (suc w.subject ≡ (sender_at b i).waker) → n ≢ w.subject
      not-subject n wt ne (inl z) q = ne (ap suc q ∙ z)
      not-subject n wt ne (inr z) q =
          never (sym ((c.inv.locals i).waker_is w.subject (sym z)).1
          ∙ ap (λ (x : ℕ). is_sync t (channel_of b x)) (sym q)
          ∙ wt)

      messages-of : {x : ℕ} {r : Match} → s.change ≡ records x r → w.chosen ≡ r.messages
      messages-of {x} {r} z = ap (λ (y : Change). (match_of r y).messages) z

      fires-owes : StepOwes t b i (fires b (sender_at b i) w (get_or w.chosen k 0))
      fires-owes = record {
        lawful = takes;
        local = local;
        holding = from-work c _ _ (take-place t w.chord w.chosen (claim k) (consume 0 _) _ k (refl, refl, refl)
            (omega arith, in-chosen) (λ j x ne. omega (tests, x.1, full.all))
            (λ j x. (omega arith, omega (arith, in-chosen))));
        notes = tt;
        matches = record {
          goes_on = λ n x. absurd (no-consume c refl n x);
          begins = λ x r z n y. begins n (rw (← (messages-of z)) at y);
        };
        owners = λ n. job-owners c s takes _ refl refl refl (λ j x. absurd (no-signal c refl j x))
            (λ j h x. absurd (not-waking s.change refl x));
        obligation = λ q ns x. go_on x w c.state refl _ refl refl refl refl (λ a z.
            never (sym (unmatched-of x w.subject a (length b.matches)
            (omega (arith, records-count b i s _ m refl)))
            ∙ ap (λ (r : Match). is_in w.subject r.messages)
            (records-last b i s _ m refl (length b.matches) refl)
            ∙ full-subject t b w.subject w.chord w.chosen full));
        answering = record {
          own = λ n o o'. job-answer c s takes _ refl refl refl n (λ z. z) (λ x. absurd (no-consume c refl n x));
          tells_on = λ n l wt x. absurd (no-tell-now c refl n x);
          tells_new = λ x r z n p wt ne. (rw (← (messages-of z)) at p, not-subject n wt ne c.job.subject_is);
        };
        recorded = record {
          number = λ x r z. refl;
          subject = λ x r z. (
            w.subject,
            subst (λ (y : Match). Full t b w.subject y.chord y.messages) (ap (match_of r) z) full,
          );
        };
      }

  claimed : (pend last wk full : Bool)
      → is_pending (message_at b (get_or w.chosen k 0)).status ≡ pend
      → eqb (suc k) (size t w.chord) ≡ last
      → wakes t w.chord (channel_of b w.subject) ≡ wk
      → StepOwes t b i (claimed_by t b (sender_at b i) w k (get_or w.chosen k 0) pend last wk full)
  claimed false last wk full p l x = lost _
  claimed true false wk full p l x = claims-next p l
  claimed true true true full p l x = claims-all p l x
  claimed true true false true p l x = lost _
  claimed true true false false p l x = fires-owes p l x

  pub claim-owes : StepOwes t b i (claim_step t b (sender_at b i) w k)
  unfolding claim_step
  claim-owes = claimed _ _ _ _ refl refl refl
