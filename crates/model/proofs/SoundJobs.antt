-- The steps of a job on a sound board: each one's change is in range, and it leaves its sender in order.
-- Nothing is asked of statuses, notes or other senders, so it holds where no schedule leads.
use mathlib.Core.Path.{◌≡◌, refl, sym, subst, subst⁻¹}
use mathlib.Core.Logic.{◌⊎◌, inr, inl}
use mathlib.Core.Bool.{Bool, true, false, ◌&&◌}
use mathlib.Core.List.{◌++◌, ◌∷◌, [], List}
use Prim.Native.Nat.{ℕ, ◌<◌, suc, zero, ◌≤◌}
use borrow.Author.Tests.{eqb-true}
use lib.Dec.{eqb, leb}
use lib.ListN.{length, get_or, length-append}
use native.Mathlib.Omega.{arith}
use Rattle.model.specs.Basics.{pick}
use Rattle.model.specs.Tables.{Table, chord_at, naming, size, wakes, first_sync}
use Rattle.model.specs.Boards.{Board, channel_of, Job, Sender, State, wake, blocked, signal}
use Rattle.model.specs.Boards.{message_at, Phase, working, sender_at, look, claim, consume, revert, tell}
use Rattle.model.specs.Boards.{free, pass_end, backoff_at, backoff, is_pending, is_open}
use Rattle.model.specs.Effects.{apply}
use Rattle.model.specs.Jobs.{pass_from, in_state, goes_idle}
use Rattle.model.specs.Jobs.{job_end, in_job, in_phase, next_chord, with_chosen}
use Rattle.model.specs.Looks.{choice, Chosen, the_subject, another, missed_retry}
use Rattle.model.specs.Steps.{rests_then, with_matched, skip, looked_by, loses, fires, claimed_by, reverted_to}
use Rattle.model.specs.Steps.{consumed_to, to_tell, consumed_end, consume_step, told_to, woken_of, pass_end_by, more}
use Rattle.model.specs.Steps.{job_step, look_step, claim_step, revert_step, tell_step, wake_step, free_step}
use Rattle.model.specs.Steps.{signal_step, pass_end_step, backoff_step}
use Rattle.model.specs.Sound.{to_wake}
use Rattle.model.proofs.Tests.{tests}
use Rattle.model.proofs.Lists.{is_in-nth, nth-is_in, snoc-all}
use Rattle.model.proofs.Chords.{names-yes, skipped, wakes-first}
use Rattle.model.proofs.Jobs.{pass-by, job-end-by}
use Rattle.model.proofs.Frame.{records-count}
use Rattle.model.proofs.Choice.{choice-some}
use Rattle.model.proofs.Answering.{tell-chosen}
use Rattle.model.proofs.SoundFacts.{JobFacts, SenderFacts, StateFacts, Below, PlaceOk, AllChosen, AtChord}
use Rattle.model.proofs.SoundFrame.{Becomes, Wider, sender-wider, job-wider, StepFacts, owes}
use Rattle.model.proofs.SoundFrame.{wider-after, wake-wider}

-- a pass begun on subject h
module _ {t : Table} {b : Board} {o v : ℕ} (h : ℕ) (l : h < length b.messages) (i : (suc h ≡ o) ⊎ (suc h ≡ v)) where
  pub passes : (from k : ℕ) (retry : Bool)
      → JobFacts t b o v (pass_from t h (channel_of b h) from retry k) (pass_from t h (channel_of b h) from retry k).phase
  passes from k retry =
      pass-by t h (channel_of b h) from retry k (λ w. JobFacts t b o v w w.phase)
      (λ m.
      let c = names-yes t (channel_of b h) from m in
      let named = is_in-nth (channel_of b h) (chord_at t (naming t (channel_of b h) from)).channels c in
      search arith)
      (λ m. search arith)

  rests-so : (k rests : ℕ) → JobFacts t b o v (rests_then t b h k rests) (rests_then t b h k rests).phase
  rests-so k zero = passes 0 k false
  rests-so k (suc rests) = search arith

-- a sender in another state, and a job's end
module _ {t : Table} {b : Board} {d : Sender} (f : SenderFacts t b d) where
  pub in-state : (x : State) (g : Bool) → StateFacts t b d.own d.waker x → Becomes t b d (in_state d x g)
  in-state x g z = search

  pub goes-idle : (l : ℕ) → l ≤ length b.matches → Becomes t b d (goes_idle d l)
  goes-idle l q = search

  notes-match : (m : ℕ) → m ≤ length b.matches → SenderFacts t b (with_matched true d m)
  notes-match m l = search

  module _ (some : 1 ≤ d.own) (h : ℕ) where
    job-ends : Becomes t b d (job_end t b.messages d h)
    job-ends =
        job-end-by t b.messages d h (Becomes t b d) (λ s. goes-idle 0 (omega arith))
        (λ s m e. goes-idle (suc m) (omega (arith, e, f.matched-in))) (λ s e. in-state blocked d.signalled some)
        (λ s v e x ne.
        in-state _ d.signalled (some, passes v (omega (arith, f.waker_in, e)) (inr (sym e)) 0 0 false))

-- a sender at work, and where its job may go
pub record Working (t : Table) (b : Board) (d : Sender) (w : Job) (p : Phase) : Type 0 where
  pub facts : SenderFacts t b d
  pub some : 1 ≤ d.own
  pub job : JobFacts t b d.own d.waker w p

module _ {t : Table} {b : Board} {d : Sender} {w : Job} {p : Phase} (a : Working t b d w p) where
  to-job : (x : Job) → JobFacts t b d.own d.waker x x.phase → Becomes t b d (in_job d x)
  to-job x j = in-state a.facts (working x) d.signalled (a.some, j)

  -- the same subject
  goes_on : (x : Job) → x.subject ≡ w.subject → Below (length b.messages) x.chosen → PlaceOk t b x x.phase
      → Becomes t b d (in_job d x)
  goes_on x e l z =
      let i = subst⁻¹ (λ (h : ℕ). (suc h ≡ d.own) ⊎ (suc h ≡ d.waker)) e a.job.subject_is in
      to-job x (search arith)

  to-phase : (q : Phase) → PlaceOk t b (in_phase w q) q → Becomes t b d (in_job d (in_phase w q))
  to-phase q z = goes_on (in_phase w q) refl a.job.chosen_in z

  next-chord : (retry : Bool) → Becomes t b d (in_job d (next_chord t b w retry))
  next-chord retry =
      to-job _ (passes w.subject a.job.subject_in a.job.subject_is (suc w.chord) w.retries retry)

  ends : Becomes t b d (job_end t b.messages d w.subject)
  ends = job-ends a.facts a.some w.subject

  -- the message chosen for a member
  at-member : AllChosen t b w → (k : ℕ) → k < size t w.chord → get_or w.chosen k 0 < length b.messages
  at-member c k l = a.job.chosen_in k (omega (arith, c.counted))

still-working : {t : Table} {b b' : Board} {d : Sender} {w : Job} {p : Phase} → Wider b b' → Working t b d w p
    → Working t b' d w p
still-working {t = t} g a = record { facts = sender-wider t g a.facts; some = a.some; job = job-wider t g a.job }

skip-le : (f k : ℕ) → skip f k ≤ suc k
skip-le f k = go (skipped f k)
  where
    go : ((k < f) × (skip f k ≡ k)) ⊎ ((f ≤ k) × (skip f k ≡ suc k)) → skip f k ≤ suc k
    go (inl p) = omega (arith, p.1)
    go (inr p) = omega (arith, p.1)

module _ (t : Table) (b : Board) (i : ℕ) (w : Job) where
  abbrev d : Sender
  d = sender_at b i

  looked : (k : ℕ) → Working t b d w (look k) → (c : ℕ) → choice t b w k ≡ c → StepFacts t b i (looked_by t b d w k c)
  looked k a zero e = owes tt (next-chord a (missed_retry t b w k))
  looked k a (suc n) e =
      owes tt (goes_on a _ refl
      (snoc-all (λ j x. x < length b.messages) w.chosen n 0 a.job.chosen_in
      (on_board (choice-some t b w k n e)))
      (by w.phase (eqb (suc k) (size t w.chord)) refl))
    where
      on_board : Chosen t b w k n → n < length b.messages
      on_board (the_subject p z) = omega (arith, a.job.subject_in, z)
      on_board (another p l o) = l

      now : (c : ℕ) → suc k ≡ c → AtChord t b w.subject w.chord (w.chosen ++ (n ∷ [])) c
      now c z = let l = length-append w.chosen (n ∷ []) in search arith

      by : (p : Phase) (u : Bool) → eqb (suc k) (size t w.chord) ≡ u
          → PlaceOk t b (with_chosen w (w.chosen ++ (n ∷ [])) p) (pick u (claim 0) (look (suc k)))
      by p true z = (now (size t w.chord) (eqb-true _ _ z), omega (arith, a.job.place.1))
      by p false z = (now (suc k) refl, omega (tests, a.job.place.1))

  module _ (k : ℕ) (a : Working t b d w (claim k)) where
    abbrev n : ℕ
    n = get_or w.chosen k 0

    on_board : n < length b.messages
    on_board = at-member a a.job.place.0 k a.job.place.1

    lost : (m : ℕ) → m < size t w.chord → StepFacts t b i (loses t b d w m n)
    lost zero l = owes tt (next-chord a true)
    lost (suc m) l = owes tt (goes_on a _ refl a.job.chosen_in (a.job.place.0, omega arith, l))

    fired : to_wake t b w ≡ false → length b.matches < 1024 → StepFacts t b i (fires b d w n)
    fired e l =
        let g = wider-after b i (fires b d w n) in
        let q = still-working g a in
        let r = to-phase q (consume 0 (suc (length b.matches))) (
          q.job.place.0,
          omega (arith, a.job.place.1),
          omega arith,
          omega (arith, records-count b i (fires b d w n) n _ refl),
          wake-wider t g w a.job.subject_in e,
        ) in
        record {
          in-range = (on_board, l, search, a.job.place.0.counted);
          sender-ok = r.0;
          own_kept = r.1;
        }

    claimed-by : (pending last wakes full : Bool) → eqb (suc k) (size t w.chord) ≡ last → to_wake t b w ≡ wakes
        → leb 1024 (length b.matches) ≡ full → StepFacts t b i (claimed_by t b d w k n pending last wakes full)
    claimed-by false last wakes full x y z = lost k a.job.place.1
    claimed-by true false wakes full x y z =
        owes (on_board, tt) (to-phase a (claim (suc k)) (a.job.place.0, omega (tests, a.job.place.1)))
    claimed-by true true true full x y z = owes (on_board, tt) (to-phase a wake (a.job.place.0, y))
    claimed-by true true false true x y z = lost k a.job.place.1
    claimed-by true true false false x y z = fired y (omega tests)

  reverted : (k m : ℕ) → Working t b d w (revert k m) → (u : Bool) → eqb (suc k) m ≡ u
      → Becomes t b d (in_job d (reverted_to t b w k m u))
  reverted k m a true e = next-chord a w.retry
  reverted k m a false e =
      let q = a.job.place in to-phase a (revert (suc k) m) (q.0, omega (tests, q.1), q.2)

  consumed-to : {x : Board} {e : Sender} (k m : ℕ) → Working t x e w (consume k m) → (last : Bool)
      → eqb (suc k) (length w.chosen) ≡ last → Becomes t x e (consumed_to t x.messages e w k m last)
  consumed-to k m a false z =
      let q = a.job.place in
      to-phase a (consume (suc k) m) (q.0, omega (tests, q.1, q.0.counted), q.2, q.3, q.4)
  consumed-to {x} {e} k m a true z = go (to_tell t x.messages w.subject w.chosen) refl
    where
      go : (ns : List ℕ) → to_tell t x.messages w.subject w.chosen ≡ ns
          → Becomes t x e (consumed_end t x.messages e w ns)
      go [] y = ends a
      go (n ∷ ns) y =
          let q = a.job.place in
          to-phase a (tell 0) (q.0, subst⁻¹ (λ (c : List ℕ). 0 < length c) y (omega arith), q.4)

  consumes-one : (k m : ℕ) → Working t b d w (consume k m) → StepFacts t b i (consume_step t b d w k m)
  unfolding consume_step apply
  consumes-one k m a =
      let q = a.job.place in
      let g = wider-after b i (consume_step t b d w k m) in
      let r = go (still-working g a) (eqb (suc (get_or w.chosen k 0)) d.own) in
      record { in-range = (at-member a q.0 k q.1, (q.2, q.3)); sender-ok = r.0; own_kept = r.1 }
    where
      go : {x : Board} → Working t x d w (consume k m) → (u : Bool)
          → Becomes t x d (consumed_to t x.messages (with_matched u d m) w k m (eqb (suc k) (length w.chosen)))
      go c false = consumed-to k m c _ refl
      go c true =
          let f = notes-match c.facts m c.job.place.3 in
          consumed-to {e = with_matched true d m} k m (record { facts = f; some = c.some; job = c.job }) _ refl

  told_in : (k : ℕ) → Working t b d w (tell k)
      → get_or (to_tell t b.messages w.subject w.chosen) k 0 < length b.messages
  told_in k a =
      let ns = to_tell t b.messages w.subject w.chosen in
      let r = is_in-nth (get_or ns k 0) w.chosen
      (tell-chosen t b.messages w.subject (get_or ns k 0) w.chosen (nth-is_in ns k a.job.place.1)) in
      subst (λ (x : ℕ). x < length b.messages) r.2 (a.job.chosen_in r.0 r.1)

  told : (k : ℕ) → Working t b d w (tell k) → (u : Bool)
      → eqb (suc k) (length (to_tell t b.messages w.subject w.chosen)) ≡ u
      → Becomes t b d (told_to t b.messages d w k u)
  told k a false e = let q = a.job.place in to-phase a (tell (suc k)) (q.0, omega (tests, q.1), q.2)
  told k a true e = ends a

  woken-in : {p : Phase} → Working t b d w p → AllChosen t b w → to_wake t b w ≡ true
      → woken_of t w < length b.messages
  unfolding woken_of
  woken-in a c e = at-member a c (first_sync t w.chord) (wakes-first t w.chord _ e).0

  woke : Working t b d w wake → (u : Bool) → leb 2 (length w.chosen) ≡ u
      → Becomes t b d (in_job d (in_phase w (pick u (free 0) signal)))
  woke a true e = let q = a.job.place in to-phase a (free 0) (q.0, q.1, omega (tests, q.0.counted))
  woke a false e = to-phase a signal a.job.place

  freed : (k : ℕ) → Working t b d w (free k) → (u : Bool) → eqb (suc (suc k)) (length w.chosen) ≡ u
      → Becomes t b d (in_job d (in_phase w (pick u signal (free (suc k)))))
  freed k a true e = to-phase a signal (a.job.place.0, a.job.place.1)
  freed k a false e =
      let q = a.job.place in to-phase a (free (suc k)) (q.0, q.1, omega (tests, q.2, q.0.counted))

  rested : {p : Phase} → Working t b d w p → (k rests : ℕ)
      → Becomes t b d (in_job d (rests_then t b w.subject k rests))
  rested a k rests = to-job a _ (rests-so w.subject a.job.subject_in a.job.subject_is k rests)

  pass-ended : Working t b d w pass_end → (u : Bool) → StepFacts t b i (pass_end_by t b d w u)
  pass-ended a true = owes tt (rested a _ (backoff_at b.backoffs (more w.retries)))
  pass-ended a false = owes tt (ends a)

  pub job-facts : (p : Phase) → Working t b d w p → StepFacts t b i (job_step t b d w p)
  unfolding look_step claim_step revert_step tell_step wake_step free_step signal_step pass_end_step backoff_step
  job-facts (look k) a = looked k a (choice t b w k) refl
  job-facts (claim k) a =
      claimed-by k a (is_pending (message_at b (get_or w.chosen k 0)).status) (eqb (suc k) (size t w.chord))
      (to_wake t b w) (leb 1024 (length b.matches)) refl refl refl
  job-facts (revert k m) a =
      let q = a.job.place in
      owes (at-member a q.0 k (omega (arith, q.1, q.2)), tt) (reverted k m a _ refl)
  job-facts (consume k m) a = consumes-one k m a
  job-facts (tell k) a = owes (told_in k a) (told k a _ refl)
  job-facts wake a = let q = a.job.place in owes (woken-in a q.0 q.1, a.job.subject_in) (woke a _ refl)
  job-facts (free k) a =
      let q = a.job.place in
      owes (at-member a q.0 _ (omega (arith, skip-le (first_sync t w.chord) k, q.2)), tt) (freed k a _ refl)
  job-facts signal a = let q = a.job.place in owes (woken-in a q.0 q.1) (ends a)
  job-facts pass_end a = pass-ended a (w.retry && is_open (message_at b w.subject).status)
  job-facts (backoff rests) a = owes tt (rested a w.retries rests)
