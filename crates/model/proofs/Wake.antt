-- Waking keeps the invariant: the woken message notes its waker, the others are put back, and its sender is signalled.
use mathlib.Core.Path.{refl, ◌≡◌, ap, subst}
use mathlib.Core.Logic.{◌≢◌, ◌⊎◌, inl, inr}
use mathlib.Core.Bool.{Bool, true, false}
use Prim.Native.Nat.{ℕ, ◌<◌, ◌≤◌, suc}
use borrow.Author.Tests.{eq-eqb}
use lib.Dec.{leb, eqb}
use lib.ListN.{length, get_or}
use native.Mathlib.Omega.{arith}
use Rattle.model.specs.Basics.{pick}
use Rattle.model.specs.Tables.{Table, first_sync}
use Rattle.model.specs.Boards.{Board, Job, Phase, wake, sender_at, free, signal, message_at, woken, State}
use Rattle.model.specs.Effects.{wakes_by, Effect, Woke, turn, apply, Freed, frees, messages_after, signals}
use Rattle.model.specs.Jobs.{in_job, in_phase}
use Rattle.model.specs.Steps.{skip, woken_of, wake_step, free_step, signal_step}
use Rattle.model.specs.Holdings.{HoldsAt, HeldPlace}
use Rattle.model.proofs.Tests.{tests}
use Rattle.model.proofs.Chords.{wakes-first, skipped, first-waits}
use Rattle.model.proofs.Frame.{messages-at}
use Rattle.model.proofs.Grows.{Turns, Grows}
use Rattle.model.proofs.Phases.{signalling}
use Rattle.model.proofs.Local.{AtWake, PlacedAt}
use Rattle.model.proofs.Holding.{HoldingKept}
use Rattle.model.proofs.Places.{drop-place, last-drop}
use Rattle.model.proofs.Matches.{not-consuming}
use Rattle.model.proofs.Owners.{WillSignal}
use Rattle.model.proofs.Obligation.{by_noted}
use Rattle.model.proofs.Covers.{go_on, covered}
use Rattle.model.proofs.Invariant.{StepOwes, no-record}
use Rattle.model.proofs.AtWork.{AtWork, drops, grown, job-local, job-at, from-work, no-consume, job-owners}
use Rattle.model.proofs.AtWork.{no-signal, plain-answering, not-waking, job-ends}

module _ {t : Table} {b : Board} {i : ℕ} {w : Job} {p : Phase} (c : AtWork t b i w p)
    (to : AtWake t b w.subject w.chord w.chosen) where
  abbrev f : ℕ
  f = first_sync t w.chord

  first-in-chosen : f < length w.chosen
  first-in-chosen = omega (arith, (wakes-first t w.chord _ to.to-wake).0, to.full.all)

  inside : (j : ℕ) → j < length w.chosen → get_or w.chosen j 0 < length b.messages
  inside j l = to.full.selection.inside j l

-- `woke N`
module _ {t : Table} {b : Board} {i : ℕ} {w : Job} (c : AtWork t b i w wake) where
  to : AtWake t b w.subject w.chord w.chosen
  to = c.job.placed

  abbrev n : ℕ
  n = get_or w.chosen (first_sync t w.chord) 0

  fw : first_sync t w.chord < length w.chosen
  fw = first-in-chosen c to

  wakes-it : Turns b n (wakes_by w.subject)
  wakes-it = drops c (wakes_by w.subject) refl (first_sync t w.chord) fw (inside c to _ fw)

  module _ (many : Bool) (e : leb 2 (length w.chosen) ≡ many) where
    abbrev s : Effect
    s = record {
      said = Woke n;
      change = turn n (wakes_by w.subject);
      sender = in_job (sender_at b i) (in_phase w (pick many (free 0) signal));
    }

    g : Grows b (apply b i s)
    g = grown c s wakes-it

    placed : (u : Bool) → leb 2 (length w.chosen) ≡ u
        → PlacedAt t b w.subject w.chord w.chosen w.retry (pick u (free 0) signal)
    placed true z = (to, omega (tests, to.full.all))
    placed false z = to

    holds : (u : Bool) → leb 2 (length w.chosen) ≡ u
        → HoldingKept (turn n (wakes_by w.subject)) (HoldsAt t w.chord w.chosen wake)
        (HoldsAt t w.chord w.chosen (pick u (free 0) signal))
    holds true z =
        drop-place t w.chord w.chosen wake (free 0) _ (first_sync t w.chord) (_, (refl, refl, refl), refl) fw
        (λ j x. (x.2, x.0)) (λ j x ne. (ne, low j ne (skipped (first_sync t w.chord) 0), x))
        (λ j x y. to.full.selection.one j (first_sync t w.chord) x fw y)
      where
        low : (j : ℕ) → j ≢ first_sync t w.chord
            → ((0 < first_sync t w.chord) × (skip (first_sync t w.chord) 0 ≡ 0))
            ⊎ ((first_sync t w.chord ≤ 0) × (skip (first_sync t w.chord) 0 ≡ 1))
            → skip (first_sync t w.chord) 0 ≤ j
        low j ne (inl x) = omega (arith, x.1)
        low j ne (inr x) = omega (arith, x.1, x.0)
    holds false z =
        last-drop t w.chord w.chosen wake _ _ (first_sync t w.chord) (_, (refl, refl, refl), refl) fw
        (λ j x. omega (tests, fw))
        (λ m x. x.held)

    on : (u : Bool) → signalling (pick u (free 0) signal) ≡ true
    on true = refl
    on false = refl

    now : ((message_at (apply b i s) n).status ≡ woken) × ((message_at (apply b i s) n).waker ≡ suc w.subject)
    now = rw (messages-at b i s n wakes-it.on_board, eq-eqb n n refl) (refl, refl)

    woke : StepOwes t b i s
    unfolding woken_of
    woke = record {
      lawful = wakes-it;
      local = job-local c s wakes-it _ refl (job-at c _ _ _ _ (placed many e));
      holding = from-work c _ _ (holds many e);
      notes = (
        omega (arith, c.job.subject_in, g.messages_more),
        rw (g.kept w.subject c.job.subject_in).channel (wakes-first t w.chord _ to.to-wake).1,
        rw ((g.kept n wakes-it.on_board).channel, to.full.selection.kinds (first_sync t w.chord) fw)
            (first-waits t w.chord (wakes-first t w.chord _ to.to-wake).0),
      );
      matches = not-consuming b (apply b i s) i _ _ (no-consume c refl) refl;
      owners =
          λ x. job-owners c s wakes-it _ refl refl refl (λ m y. absurd (no-signal c refl m y))
          (λ m h y. (on many, y.1));
      obligation = λ q ns x.
          go_on x w c.state refl _ refl refl refl refl (λ a y. inr (by_noted n w.subject now.0 now.1 a));
      answering = plain-answering c s wakes-it _ refl refl refl refl refl refl;
      recorded = no-record t b s refl;
    }

  pub wake-owes : StepOwes t b i (wake_step t b (sender_at b i) w)
  unfolding wake_step woken_of
  wake-owes = woke (leb 2 (length w.chosen)) refl

-- `freed N`
module _ {t : Table} {b : Board} {i : ℕ} {w : Job} {k : ℕ} (c : AtWork t b i w (free k)) where
  to_free : AtWake t b w.subject w.chord w.chosen
  to_free = c.job.placed.0

  abbrev first : ℕ
  first = first_sync t w.chord

  first-in : first < length w.chosen
  first-in = first-in-chosen c to_free

  abbrev Skips : ℕ → Type 0
  Skips j = ((j < first) × (skip first j ≡ j)) ⊎ ((first ≤ j) × (skip first j ≡ suc j))

  more-chosen : suc k < length w.chosen
  more-chosen = omega (arith, c.job.placed.1, to_free.full.all)

  held-now : Skips k → HeldPlace t w.chord (free k) (length w.chosen) (skip first k)
  held-now (inl x) = (λ z. omega (arith, x.0, x.1, z), omega arith, omega (arith, x.1, more-chosen))
  held-now (inr x) = (λ z. omega (arith, x.0, x.1, z), omega arith, omega (arith, x.1, more-chosen))

  only : Skips k → suc (suc k) ≡ length w.chosen → (j : ℕ) → HeldPlace t w.chord (free k) (length w.chosen) j
      → j ≡ skip first k
  only (inl x) z j y = omega (arith, x.0, x.1, z, y.0, y.1, y.2, first-in)
  only (inr x) z j y = omega (arith, x.0, x.1, z, y.0, y.1, y.2, first-in)

  fewer : Skips k → Skips (suc k) → (j : ℕ) → HeldPlace t w.chord (free (suc k)) (length w.chosen) j
      → HeldPlace t w.chord (free k) (length w.chosen) j × (j ≢ skip first k)
  fewer (inl x) (inl r) j y = ((y.0, omega (arith, x.1, r.1, y.1), y.2), λ z. omega (arith, x.1, r.1, y.1, z))
  fewer (inl x) (inr r) j y = ((y.0, omega (arith, x.1, r.1, y.1), y.2), λ z. omega (arith, x.1, r.1, y.1, z))
  fewer (inr x) (inl r) j y = absurd (omega (arith, x.0, r.0))
  fewer (inr x) (inr r) j y = ((y.0, omega (arith, x.1, r.1, y.1), y.2), λ z. omega (arith, x.1, r.1, y.1, z))

  rest : Skips k → Skips (suc k) → (j : ℕ) → HeldPlace t w.chord (free k) (length w.chosen) j → j ≢ skip first k
      → HeldPlace t w.chord (free (suc k)) (length w.chosen) j
  rest (inl x) (inl r) j y ne = (y.0, omega (arith, x.1, r.1, y.1, ne), y.2)
  rest (inl x) (inr r) j y ne = (y.0, omega (arith, x.0, r.0, x.1, r.1, y.0, y.1, ne), y.2)
  rest (inr x) (inl r) j y ne = absurd (omega (arith, x.0, r.0))
  rest (inr x) (inr r) j y ne = (y.0, omega (arith, x.1, r.1, y.1, ne), y.2)

  module _ (last : Bool) (e : eqb (suc (suc k)) (length w.chosen) ≡ last) where
    abbrev s' : Effect
    s' = record {
      said = Freed (get_or w.chosen (skip first k) 0);
      change = turn (get_or w.chosen (skip first k) 0) frees;
      sender = in_job (sender_at b i) (in_phase w (pick last signal (free (suc k))));
    }

    puts_back : Turns b (get_or w.chosen (skip first k) 0) frees
    puts_back =
        drops c frees refl (skip first k) (held-now (skipped first k))
        (inside c to_free _ (held-now (skipped first k)).2)

    placed_on : (u : Bool) → eqb (suc (suc k)) (length w.chosen) ≡ u
        → PlacedAt t b w.subject w.chord w.chosen w.retry (pick u signal (free (suc k)))
    placed_on true z = to_free
    placed_on false z = (to_free, omega (tests, more-chosen, to_free.full.all))

    holds_on : (u : Bool) → eqb (suc (suc k)) (length w.chosen) ≡ u
        → HoldingKept (turn (get_or w.chosen (skip first k) 0) frees) (HoldsAt t w.chord w.chosen (free k))
        (HoldsAt t w.chord w.chosen (pick u signal (free (suc k))))
    holds_on true z =
        last-drop t w.chord w.chosen (free k) _ _ (skip first k) (_, (refl, refl, refl), refl)
        (held-now (skipped first k))
        (only (skipped first k) (omega tests)) (λ m x. x.held)
    holds_on false z =
        drop-place t w.chord w.chosen (free k) (free (suc k)) _ (skip first k) (_, (refl, refl, refl), refl)
        (held-now (skipped first k)) (fewer (skipped first k) (skipped first (suc k)))
        (rest (skipped first k) (skipped first (suc k)))
        (λ j x y. to_free.full.selection.one j (skip first k) x.2 (held-now (skipped first k)).2 y)

    still-on : (u : Bool) → signalling (pick u signal (free (suc k))) ≡ true
    still-on true = refl
    still-on false = refl

    freed : StepOwes t b i s'
    unfolding woken_of
    freed = record {
      lawful = puts_back;
      local = job-local c s' puts_back _ refl (job-at c _ _ _ _ (placed_on last e));
      holding = from-work c _ _ (holds_on last e);
      notes = tt;
      matches = not-consuming b (apply b i s') i _ _ (no-consume c refl) refl;
      owners = λ x. job-owners c s' puts_back _ refl refl refl
          (λ m y. inl (still-on last, (subst (λ (z : State). WillSignal t z m) c.state y).1))
          (λ m h y. absurd (not-waking s'.change refl y));
      obligation = λ q ns x.
          go_on x w c.state refl _ refl refl refl refl (λ a y. absurd (covered w q (free k) c.phase y));
      answering = plain-answering c s' puts_back _ refl refl refl refl refl refl;
      recorded = no-record t b s' refl;
    }

  pub free-owes : StepOwes t b i (free_step t b (sender_at b i) w k)
  unfolding free_step
  free-owes = freed (eqb (suc (suc k)) (length w.chosen)) refl

-- `signalled N`
pub signal-owes : {t : Table} {b : Board} {i : ℕ} {w : Job} → AtWork t b i w signal
    → StepOwes t b i (signal_step t b (sender_at b i) w)
unfolding signal_step apply messages_after
signal-owes {t} {b} {i} {w} c =
    job-ends c _ tt refl refl refl refl refl (λ j x. x)
    (λ n x. ap signals (subst (λ (z : State). WillSignal t z n) c.state x).1)
    (λ q ns y a x. absurd (covered w q signal c.phase x))
