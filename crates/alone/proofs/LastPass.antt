-- The last pass: about the waker, and the sender's own message is not woken and meets nothing, so this pass cannot
-- wake it.
use mathlib.Core.Path.{◌≡◌, refl, sym, ◌∙◌, ap}
use mathlib.Core.Logic.{◌⊎◌, inl, inr, ◌≢◌}
use mathlib.Core.Bool.{false}
use Prim.Native.Nat.{ℕ, suc}
use lib.ListN.{length}
use native.Mathlib.Omega.{arith}
use Rattle.model.specs.Tables.{Table}
use Rattle.model.specs.Boards.{Board, Job, sender_at, message_at, pending, woken, wake}
use Rattle.model.specs.Effects.{Effect, apply, claims, frees, consumes, wakes_by, resumes, turn}
use Rattle.model.specs.Steps.{wake_step, woken_of}
use Rattle.model.proofs.Grows.{apart}
use Rattle.model.proofs.Passage.{After, same, turned_by}
use Rattle.model.proofs.Phases.{is_resume, turn-wakes}
use Rattle.model.proofs.AtWork.{AtWork, not-waking}
use Rattle.alone.proofs.Calm.{Calm, Within, now-idle, Next}
use Rattle.alone.proofs.Ended.{Ended, Exit, to_idle, to_blocked, to_waker}
use Rattle.alone.proofs.Finish.{Stage}
use Rattle.alone.proofs.Fresh.{Starts, fresh_pass}
use Rattle.alone.proofs.NoMeet.{NoMeet, no-meet-on, wakes-other}
use Rattle.alone.proofs.Blocked.{blocked-unwoken}
use Rattle.alone.proofs.Hands.{Hand, hand_on, async-few}

module _ (t : Table) (i h o : ℕ) (ne : h ≢ o) where
  pub record Hopeless (b : Board) : Type 0 where
    pub hand : Hand t h false b
    pub own : (sender_at b i).own ≡ suc o
    pub none : NoMeet t o (length t.chords) b
    pub unwoken : (message_at b o).status ≢ woken

  module _ {b : Board} {e : Effect} (x : Next t b i e) (calm : is_resume e.change ≡ false) (q : Hopeless b) where
    hopeless_on : (message_at (apply b i e) o).status ≢ woken → Hopeless (apply b i e)
    hopeless_on f = record {
      hand = hand_on x q.hand;
      own = x.own ∙ q.own;
      none = no-meet-on x calm q.none;
      unwoken = f;
    }

    keeps : turn-wakes e.change ≡ false → Hopeless (apply b i e)
    keeps n = hopeless_on (go (x.passage.after o))
      where
        go : After b (apply b i e) e.change o → (message_at (apply b i e) o).status ≢ woken
        go (same f s m w) z = q.unwoken (sym s ∙ z)
        go (turned_by claims f on s y m w) z = apart refl (sym y ∙ z)
        go (turned_by frees f on s y m w) z = apart refl (sym y ∙ z)
        go (turned_by (consumes k) f on s y m w) z = apart refl (sym y ∙ z)
        go (turned_by (wakes_by v) f on s y m w) z = not-waking e.change n f
        go (turned_by resumes f on s y m w) z = apart refl (sym y ∙ z)

  wakes : {b : Board} {w : Job} → AtWork t b i w wake → Next t b i (wake_step t b (sender_at b i) w) → Hopeless b
      → Hopeless (apply b i (wake_step t b (sender_at b i) w))
  unfolding wake_step
  wakes {b} {w} a x q = hopeless_on x refl q (go (x.passage.after o))
    where
      go : After b (apply b i (wake_step t b (sender_at b i) w)) (turn (woken_of t w) (wakes_by w.subject)) o
          → (message_at (apply b i (wake_step t b (sender_at b i) w)) o).status ≢ woken
      go (same f s m v) z = q.unwoken (sym s ∙ z)
      go (turned_by τ f on s y m v) z = wakes-other a q.none f.1

  exit : {b : Board} → Calm t b i → Hopeless b → Ended t b i h → Within t b i 1
  exit {b} c q x = go x.exit
    where
      go : Exit t b i h → Within t b i 1
      go (to_idle st) = now-idle st
      go (to_blocked st) = blocked-unwoken c st q.own q.unwoken
      go (to_waker v e f d st) = hand x.subject
        where
          hand : (suc h ≡ (sender_at b i).own) ⊎ (suc h ≡ (sender_at b i).waker) → Within t b i 1
          hand (inl y) = absurd (ne (omega (arith, y, q.own)))
          hand (inr y) = absurd (d (omega (arith, y, e)))

  abbrev stage : Stage t i h 1 1
  stage = record {
    Kept = Hopeless;
    keeps = λ x calm n q. keeps x calm q n;
    wakes = wakes;
    tells = λ q e f l m. async-few q.hand e f m;
    exit = λ c q x how. exit c q x;
  }

  pub last_pass : {b : Board} (k : ℕ) → Calm t b i → Starts t b i h k → (message_at b h).status ≡ pending
      → Hopeless b → Within t b i 274
  last_pass {b} k c st pend q =
      fresh_pass t i h 1 1 (omega arith) stage (record {
        Come = λ r b. Hopeless b;
        unmoved = λ x e q. keeps x (ap is_resume e) q (ap turn-wakes e);
        skips = λ q. q;
        missed = λ a sub free e q. q;
        found = λ q. q;
        failed = λ c ge q x. exit c q x;
      }) k c st pend q
