-- After its last claim a job ends in a few steps: consuming and telling, or waking, freeing and signalling.
use mathlib.Core.Path.{◌≡◌, refl, sym, ◌∙◌, ap, subst, subst⁻¹}
use mathlib.Core.Logic.{◌⊎◌, inl, inr, ◌≢◌}
use mathlib.Core.Bool.{Bool, true, false}
use mathlib.Core.List.{List, [], ◌∷◌}
use Prim.Native.Nat.{ℕ, suc, ◌+◌, ◌-◌, ◌≤◌, ◌<◌}
use lib.Dec.{eqb, leb}
use lib.ListN.{length, get_or}
use native.Mathlib.Omega.{arith}
use Rattle.model.specs.Basics.{pick}
use Rattle.model.specs.Tables.{Table, is_sync, size}
use Rattle.model.specs.Tables as Tables
use Rattle.model.specs.Boards.{Board, Job, Sender, sender_at, message_at, channel_of}
use Rattle.model.specs.Boards.{consumed, consume, tell, wake, free, signal}
use Rattle.model.specs.Effects.{Effect, apply, messages_after, turn, consumes, does, status_after}
use Rattle.model.specs.Jobs.{in_job, in_phase}
use Rattle.model.specs.Steps.{step_by, consume_step, consumed_to, consumed_end, with_matched, to_tell, tell_step}
use Rattle.model.specs.Steps.{told_to, wake_step, free_step, signal_step}
use Rattle.model.proofs.Tests.{same?, tests}
use Rattle.model.proofs.Lists.{is_in-nth}
use Rattle.model.proofs.Chords.{wakes-first}
use Rattle.model.proofs.Phases.{is_resume, turn-wakes}
use Rattle.model.proofs.Passage.{After, same, turned_by, grows}
use Rattle.model.proofs.Local.{Full}
use Rattle.model.proofs.Covers.{full-subject}
use Rattle.model.proofs.AtWork.{AtWork}
use Rattle.alone.proofs.Calm.{Calm, Within, within_more, later, Next, next, work_step, goes_on, Goes, enough}
use Rattle.alone.proofs.Calm.{goes, runs}
use Rattle.alone.proofs.Ended.{Ended, ended}
use Rattle.alone.proofs.Tells.{not-subject}

-- A stage of sender i: what it keeps of the board while it works on h, the tells that a match of h can have, and the X
-- steps that are left when the job ends, with h consumed or, after a wake, asynchronous.
pub record Stage (t : Table) (i h X T : ℕ) : Type 1 where
  pub Kept : Board → Type 0
  pub keeps : {b : Board} {e : Effect} → Next t b i e → is_resume e.change ≡ false → turn-wakes e.change ≡ false
      → Kept b → Kept (apply b i e)
  pub wakes : {b : Board} {w : Job} → AtWork t b i w wake → Next t b i (wake_step t b (sender_at b i) w) → Kept b
      → Kept (apply b i (wake_step t b (sender_at b i) w))
  pub tells : {b : Board} {x r : ℕ} {ns : List ℕ} → Kept b → x ≡ h → Full t b x r ns → length ns ≤ 8
      → Tables.wakes t r (channel_of b x) ≡ false → length (to_tell t b.messages x ns) ≤ T
  pub exit : {b : Board} → Calm t b i → Kept b → Ended t b i h
      → ((message_at b h).status ≡ consumed) ⊎ (is_sync t (channel_of b h) ≡ false) → Within t b i X

-- whatever the subject is, seven others at most are told
pub seven-tells : {t : Table} {b : Board} {x r : ℕ} {ns : List ℕ} → Full t b x r ns → length ns ≤ 8
    → length (to_tell t b.messages x ns) ≤ 7
seven-tells {t} {b} {x} {r} {ns} f l =
    omega (arith, not-subject t b.messages x ns (full-subject t b x r ns f))

-- a stage that keeps nothing
abbrev pub plain-stage : (t : Table) (i h X : ℕ) → ((b : Board) → Calm t b i → Ended t b i h → Within t b i X)
    → Stage t i h X 7
plain-stage t i h X exit = record {
  Kept = λ b. Unit {0};
  keeps = λ x y z q. tt;
  wakes = λ a x q. tt;
  tells = λ q sub f l m. seven-tells f l;
  exit = λ {b} c q x how. exit b c x;
}

matched-waker : (u : Bool) (d : Sender) (m : ℕ) → (with_matched u d m).waker ≡ d.waker
matched-waker true d m = refl
matched-waker false d m = refl

module _ (t : Table) (i h X T : ℕ) (S : Stage t i h X T) where
  pub data Finishing (b : Board) (n : ℕ) : Type 0 where
    consuming : (w : Job) {k m : ℕ} → AtWork t b i w (consume k m) → w.subject ≡ h → X + 8 + T ≤ n + k → Finishing b n
    telling : (w : Job) {k : ℕ} → AtWork t b i w (tell k) → w.subject ≡ h → X + T ≤ n + k → Finishing b n
    waking : (w : Job) → AtWork t b i w wake → w.subject ≡ h → X + 9 ≤ n → Finishing b n
    freeing : (w : Job) {k : ℕ} → AtWork t b i w (free k) → w.subject ≡ h → X + 8 ≤ n + k → Finishing b n
    signalling : (w : Job) → AtWork t b i w signal → w.subject ≡ h → X + 1 ≤ n → Finishing b n

  abbrev KeptOn : Board → ℕ → Type 0
  KeptOn b n = S.Kept b × Finishing b n

  small : {b : Board} {x r : ℕ} {ns : List ℕ} → Calm t b i → Full t b x r ns
      → (length ns ≡ size t r) × (size t r ≤ 8)
  small {b} {x} {r} {ns} c f = (f.all, c.table.chord_few r f.selection.chord-in)

  stops : {b : Board} {n : ℕ} {e : Effect} → step_by t b i ≡ does e → Within t (apply b i e) i X → X + 1 ≤ n
      → Goes t b i KeptOn n
  stops y r l = enough (within_more (omega (arith, l)) (later y r))

  module _ {b : Board} (n : ℕ) (c : Calm t b i) (q : S.Kept b) (w : Job) (sub : w.subject ≡ h) where
    consumes_on : {k m : ℕ} → AtWork t b i w (consume k m) → X + 8 + T ≤ n + k → Goes t b i KeptOn n
    unfolding consume_step apply messages_after
    consumes_on {k} {m} a le = go (eqb (suc k) (length w.chosen)) refl refl
      where
        s : Effect
        s = consume_step t b (sender_at b i) w k m

        b' : Board
        b' = apply b i (consume_step t b (sender_at b i) w k m)

        y : step_by t b i ≡ does (consume_step t b (sender_at b i) w k m)
        y = work_step c a

        x : Next t b i (consume_step t b (sender_at b i) w k m)
        x = next c y

        q' : S.Kept b'
        q' = S.keeps x refl refl q

        e : Sender
        e = with_matched (eqb (suc (get_or w.chosen k 0)) (sender_at b i).own) (sender_at b i) m

        f : Full t b w.subject w.chord w.chosen
        f = a.job.placed.full

        now : After b b' (turn (get_or w.chosen k 0) (consumes m)) (get_or w.chosen k 0)
            → (message_at b' (get_or w.chosen k 0)).status ≡ consumed
        now (same z o r v) = absurd (z (consumes m) (refl, refl, refl))
        now (turned_by τ z on fr to r v) = to ∙ ap status_after (sym z.2)

        at_place : suc k ≡ length w.chosen → (j : ℕ) → j < length w.chosen → (j ≡ k) ⊎ (j ≢ k)
            → (message_at b' (get_or w.chosen j 0)).status ≡ consumed
        at_place z j jl (inl r) =
            subst⁻¹ (λ (o : ℕ). (message_at b' (get_or w.chosen o 0)).status ≡ consumed) r (now (x.passage.after _))
        at_place z j jl (inr r) =
            ((grows x.passage).stays_consumed (get_or w.chosen j 0) (f.selection.inside j jl)
            (a.job.placed.done j (omega arith)).0).0

        gone : suc k ≡ length w.chosen → (message_at b' h).status ≡ consumed
        gone z =
            let r = is_in-nth w.subject w.chosen (full-subject t b w.subject w.chord w.chosen f) in
            subst (λ (o : ℕ). (message_at b' o).status ≡ consumed) (r.2 ∙ sub)
            (at_place z r.0 r.1 (same? r.0 k))

        tells : (ns : List ℕ) → suc k ≡ length w.chosen
            → (consume_step t b (sender_at b i) w k m).sender ≡ consumed_end t b'.messages e w ns
            → Goes t b i KeptOn n
        tells [] z o =
            stops y (S.exit x.calm q'
            (ended a x sub e o
            (matched-waker (eqb (suc (get_or w.chosen k 0)) (sender_at b i).own) (sender_at b i) m)) (inl (gone z)))
            (omega (arith, le, (small c f).0, (small c f).1, z))
        tells (r ∷ rs) z o =
            goes s y (omega (arith, le, (small c f).0, (small c f).1, z)) (
              q',
              telling _ (goes_on x (ap (λ (d : Sender). d.state) o) refl) sub
                  (omega (arith, le, (small c f).0, (small c f).1, z)),
            )

        go : (u : Bool) → eqb (suc k) (length w.chosen) ≡ u
            → (consume_step t b (sender_at b i) w k m).sender ≡ consumed_to t b'.messages e w k m u
            → Goes t b i KeptOn n
        go false z o =
            goes s y (omega (arith, le, (small c f).1, a.job.placed.at)) (
              q',
              consuming _ (goes_on x (ap (λ (d : Sender). d.state) o) refl) sub
                  (omega (arith, le, (small c f).1, a.job.placed.at)),
            )
        go true z o = tells (to_tell t b'.messages w.subject w.chosen) (omega tests) o

    tells_on : {k : ℕ} → AtWork t b i w (tell k) → X + T ≤ n + k → Goes t b i KeptOn n
    unfolding tell_step apply messages_after
    tells_on {k} a le = go (eqb (suc k) (length (to_tell t b.messages w.subject w.chosen))) refl
      where
        y : step_by t b i ≡ does (tell_step t b (sender_at b i) w k)
        y = work_step c a

        x : Next t b i (tell_step t b (sender_at b i) w k)
        x = next c y

        q' : S.Kept (apply b i (tell_step t b (sender_at b i) w k))
        q' = S.keeps x refl refl q

        f : Full t b w.subject w.chord w.chosen
        f = a.job.placed.full

        few : length (to_tell t b.messages w.subject w.chosen) ≤ T
        few = S.tells q sub f (omega (arith, (small c f).0, (small c f).1)) a.job.placed.to_match

        gone : (message_at b h).status ≡ consumed
        gone =
            let r = is_in-nth w.subject w.chosen (full-subject t b w.subject w.chord w.chosen f) in
            subst (λ (o : ℕ). (message_at b o).status ≡ consumed) (r.2 ∙ sub)
            (a.job.placed.done r.0 (omega (arith, r.1, f.all)))

        go : (u : Bool)
            → (tell_step t b (sender_at b i) w k).sender ≡ told_to t b.messages (sender_at b i) w k u
            → Goes t b i KeptOn n
        go false o =
            goes (tell_step t b (sender_at b i) w k) y (omega (arith, le, few, a.job.placed.at)) (
              q',
              telling _ (goes_on x (ap (λ (d : Sender). d.state) o) refl) sub
                  (omega (arith, le, few, a.job.placed.at)),
            )
        go true o =
            stops y (S.exit x.calm q' (ended a x sub (sender_at b i) o refl) (inl gone))
            (omega (arith, le, few, a.job.placed.at))

    wakes_on : AtWork t b i w wake → X + 9 ≤ n → Goes t b i KeptOn n
    unfolding wake_step
    wakes_on a le =
        goes (wake_step t b (sender_at b i) w) y (omega (arith, le)) (q', go (leb 2 (length w.chosen)) refl)
      where
        y : step_by t b i ≡ does (wake_step t b (sender_at b i) w)
        y = work_step c a

        x : Next t b i (wake_step t b (sender_at b i) w)
        x = next c y

        q' : S.Kept (apply b i (wake_step t b (sender_at b i) w))
        q' = S.wakes a x q

        go : (u : Bool)
            → (wake_step t b (sender_at b i) w).sender ≡ in_job (sender_at b i) (in_phase w (pick u (free 0) signal))
            → Finishing (apply b i (wake_step t b (sender_at b i) w)) (n - 1)
        go true o = freeing _ (goes_on x (ap (λ (d : Sender). d.state) o) refl) sub (omega (arith, le))
        go false o = signalling _ (goes_on x (ap (λ (d : Sender). d.state) o) refl) sub (omega (arith, le))

    frees_on : {k : ℕ} → AtWork t b i w (free k) → X + 8 ≤ n + k → Goes t b i KeptOn n
    unfolding free_step
    frees_on {k} a le =
        goes (free_step t b (sender_at b i) w k) y
        (omega (arith, le, (small c a.job.placed.0.full).1, a.job.placed.1))
        (S.keeps x refl refl q, go (eqb (suc (suc k)) (length w.chosen)) refl)
      where
        y : step_by t b i ≡ does (free_step t b (sender_at b i) w k)
        y = work_step c a

        x : Next t b i (free_step t b (sender_at b i) w k)
        x = next c y

        go : (u : Bool)
            → (free_step t b (sender_at b i) w k).sender
            ≡ in_job (sender_at b i) (in_phase w (pick u signal (free (suc k))))
            → Finishing (apply b i (free_step t b (sender_at b i) w k)) (n - 1)
        go true o = signalling _ (goes_on x (ap (λ (d : Sender). d.state) o) refl) sub
            (omega (arith, le, (small c a.job.placed.0.full).1, a.job.placed.1))
        go false o = freeing _ (goes_on x (ap (λ (d : Sender). d.state) o) refl) sub
            (omega (arith, le, (small c a.job.placed.0.full).1, a.job.placed.1))

    signals_on : AtWork t b i w signal → X + 1 ≤ n → Goes t b i KeptOn n
    unfolding signal_step apply messages_after
    signals_on a le =
        let x = next c (work_step c a) in
        stops (work_step c a)
        (S.exit x.calm (S.keeps x refl refl q) (ended a x sub (sender_at b i) refl refl)
        (inr (subst (λ (o : ℕ). is_sync t (channel_of b o) ≡ false) sub
        (wakes-first t w.chord _ a.job.placed.to-wake).1)))
        le

  step_on : (b : Board) (n : ℕ) → Calm t b i → KeptOn b n → Goes t b i KeptOn n
  step_on b n c (q, consuming w a sub le) = consumes_on n c q w sub a le
  step_on b n c (q, telling w a sub le) = tells_on n c q w sub a le
  step_on b n c (q, waking w a sub le) = wakes_on n c q w sub a le
  step_on b n c (q, freeing w a sub le) = frees_on n c q w sub a le
  step_on b n c (q, signalling w a sub le) = signals_on n c q w sub a le

  pub finish : {b : Board} {n : ℕ} → Calm t b i → S.Kept b → Finishing b n → Within t b i n
  finish {b} {n} c q f = runs t i KeptOn step_on n b c (q, f)
