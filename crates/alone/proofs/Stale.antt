-- The rest of a pass that a schedule left half done, or a pass whose subject is gone: claims may be lost at every
-- chord, so it takes 23 steps a chord at most.
use mathlib.Core.Path.{◌≡◌, refl, ◌∙◌, ap, subst}
use mathlib.Core.Logic.{◌⊎◌, inl, inr, ◌≢◌}
use mathlib.Core.Bool.{Bool, true, false}
use mathlib.Core.List.{[], ◌∷◌, ◌++◌}
use Prim.Native.Nat.{ℕ, zero, suc, ◌+◌, ◌-◌, ◌*◌, ◌≤◌, ◌<◌}
use lib.Dec.{eqb, leb}
use lib.ListN.{length, get_or}
use native.Mathlib.Omega.{arith}
use Rattle.model.specs.Basics.{pick}
use Rattle.model.specs.Tables.{Table, size, wakes}
use Rattle.model.specs.Boards.{Board, Job, sender_at, message_at, channel_of, is_pending, is_open}
use Rattle.model.specs.Boards.{look, claim, revert, pass_end, working}
use Rattle.model.specs.Effects.{Effect, apply, does}
use Rattle.model.specs.Jobs.{with_chosen, pass_from}
use Rattle.model.specs.Looks.{choice, missed_retry}
use Rattle.model.specs.Steps.{step_by, look_step, looked_by, claim_step, claimed_by, loses, revert_step, reverted_to}
use Rattle.model.proofs.Tests.{same?, tests}
use Rattle.model.proofs.Jobs.{pass-by}
use Rattle.model.proofs.Lists.{is_in-nth}
use Rattle.model.proofs.Chords.{names-le}
use Rattle.model.proofs.Grows.{is-pending}
use Rattle.model.proofs.Phases.{is_resume}
use Rattle.model.proofs.Covers.{full-subject}
use Rattle.model.proofs.AtWork.{AtWork, held-claimed}
use Rattle.alone.proofs.Calm.{Calm, Within, within_more, later, Next, next, working-at, work_step, goes_on, Goes}
use Rattle.alone.proofs.Calm.{enough, goes, runs}
use Rattle.alone.proofs.Ended.{Ended}
use Rattle.alone.proofs.Finish.{Finishing, plain-stage, consuming, waking, finish}
use Rattle.alone.proofs.Passes.{Place, look-place, claim-place, revert-place}

-- What holds on; a job that ends after its last claim has X steps left, a pass that ends has Z. A subject that is
-- gone cannot be claimed; where it is not gone Z allows for the steps after the last claim.
pub record Lossy (t : Table) (i h X Z : ℕ) : Type 1 where
  pub Kept : Board → Type 0
  pub keeps : {b : Board} {e : Effect} → Next t b i e → is_resume e.change ≡ false → Kept b → Kept (apply b i e)
  pub more : {b : Board} → Kept b → is_open (message_at b h).status ≡ true → X + 8 ≤ Z
  pub exit : (b : Board) → Calm t b i → Ended t b i h → Within t b i X
  pub ends : {b : Board} {w : Job} → Calm t b i → Kept b → AtWork t b i w pass_end → w.subject ≡ h → Within t b i Z

-- the last claim is won, so its job has claimed the subject too, or claims it now
subject-open : {t : Table} {b : Board} {i : ℕ} {w : Job} {k : ℕ} → AtWork t b i w (claim k) → suc k ≡ size t w.chord
    → is_pending (message_at b (get_or w.chosen k 0)).status ≡ true
    → is_open (message_at b w.subject).status ≡ true
subject-open {t} {b} {i} {w} {k} a last e =
    let f = full-subject t b w.subject w.chord w.chosen a.job.placed.0 in
    let r = is_in-nth w.subject w.chosen f in
    subst (λ (n : ℕ). is_open (message_at b n).status ≡ true) r.2
    (at r.0 (omega (arith, r.1, last, a.job.placed.0.all)) (same? r.0 k))
  where
    at : (j : ℕ) → j ≤ k → (j ≡ k) ⊎ (j ≢ k) → is_open (message_at b (get_or w.chosen j 0)).status ≡ true
    at j l (inl z) = rw z (ap is_open (is-pending (message_at b (get_or w.chosen k 0)).status e))
    at j l (inr z) = ap is_open (held-claimed a j (omega arith))

module _ (t : Table) (i h X Z : ℕ) (L : Lossy t i h X Z) where
  pub data Stale (b : Board) (n : ℕ) : Type 0 where
    looking : (w : Job) {k : ℕ} → AtWork t b i w (look k) → w.subject ≡ h
        → Z + 23 * length t.chords ≤ n + 23 * w.chord + k → Stale b n
    claiming : (w : Job) {k : ℕ} → AtWork t b i w (claim k) → w.subject ≡ h
        → Z + 23 * length t.chords ≤ n + 23 * w.chord + 8 + k → Stale b n
    reverting : (w : Job) {k m : ℕ} → AtWork t b i w (revert k m) → w.subject ≡ h
        → Z + 23 * length t.chords ≤ n + 23 * w.chord + 16 + k → Stale b n
    at_end : (w : Job) → AtWork t b i w pass_end → w.subject ≡ h → Z ≤ n → Stale b n

  abbrev KeptOn : Board → ℕ → Type 0
  KeptOn b n = L.Kept b × Stale b n

  pub begins : {b : Board} (n x channel from k : ℕ) (retry : Bool) → Calm t b i
      → (sender_at b i).state ≡ working (pass_from t x channel from retry k) → x ≡ h
      → Z + 23 * length t.chords ≤ n + 23 * from → Z ≤ n → Stale b n
  begins {b} n x channel from k retry c st sub le le1 =
      pass-by t x channel from retry k (λ w. (sender_at b i).state ≡ working w → Stale b n)
      (λ l z. looking _ (working-at c z refl) sub (omega (arith, names-le t channel from)))
      (λ l z. at_end _ (working-at c z refl) sub le1) st

  module _ {b : Board} (n : ℕ) (c : Calm t b i) (q : L.Kept b) (w : Job) (sub : w.subject ≡ h) where
    -- the next chord
    goes_next : {e : Effect} (retry : Bool) → step_by t b i ≡ does e → is_resume e.change ≡ false
        → e.sender.state ≡ working
        (pass_from t w.subject (channel_of b w.subject) (suc w.chord) retry w.retries)
        → Z + 23 * length t.chords ≤ n - 1 + 23 * suc w.chord → w.chord < length t.chords → 1 ≤ n
        → Goes t b i KeptOn n
    goes_next {e} retry y calm st le lt some =
        let x = next c y in
        goes e y some (
          L.keeps x calm q,
          begins (n - 1) w.subject (channel_of b w.subject) (suc w.chord) w.retries retry
              x.calm (x.passage.own.state ∙ st) sub le (omega (arith, le, lt)),
        )

    looks_on : {k : ℕ} → AtWork t b i w (look k)
        → Z + 23 * length t.chords ≤ n + 23 * w.chord + k → Goes t b i KeptOn n
    unfolding look_step
    looks_on {k} a le = go (choice t b w k) (work_step c a)
      where
        p : Place t w k
        p = look-place c a

        go : (m : ℕ) → step_by t b i ≡ does (looked_by t b (sender_at b i) w k m) → Goes t b i KeptOn n
        go zero y =
            goes_next (missed_retry t b w k) y refl refl (omega (arith, le, p.small, p.place, p.chord)) p.chord
            (omega (arith, le, p.small, p.place, p.chord))
        go (suc m) y =
            goes _ y (omega (arith, le, p.small, p.place, p.chord))
            (L.keeps x refl q, last (eqb (suc k) (size t w.chord)) refl)
          where
            x : Next t b i (looked_by t b (sender_at b i) w k (suc m))
            x = next c y

            last : (u : Bool) → eqb (suc k) (size t w.chord) ≡ u
                → Stale (apply b i (looked_by t b (sender_at b i) w k (suc m))) (n - 1)
            last true z =
                claiming (with_chosen w (w.chosen ++ (m ∷ [])) (claim 0))
                (goes_on x (ap (λ (v : Bool). working
                (with_chosen w (w.chosen ++ (m ∷ [])) (pick v (claim 0) (look (suc k))))) z) refl) sub
                (omega (arith, le, p.small, p.place, p.chord))
            last false z =
                looking (with_chosen w (w.chosen ++ (m ∷ [])) (look (suc k)))
                (goes_on x (ap (λ (v : Bool). working
                (with_chosen w (w.chosen ++ (m ∷ [])) (pick v (claim 0) (look (suc k))))) z) refl) sub
                (omega (arith, le, p.small, p.place, p.chord))

    -- the last claim is made
    finishes : {e : Effect} → step_by t b i ≡ does e
        → (Next t b i e → Finishing t i h X 7 (plain-stage t i h X L.exit) (apply b i e) (n - 1))
        → 1 ≤ n → Goes t b i KeptOn n
    finishes y f l =
        let x = next c y in
        enough (within_more (omega (arith, l))
        (later y (finish t i h X 7 (plain-stage t i h X L.exit) x.calm tt (f x))))

    claims_on : {k : ℕ} → AtWork t b i w (claim k)
        → Z + 23 * length t.chords ≤ n + 23 * w.chord + 8 + k → Goes t b i KeptOn n
    unfolding claim_step
    claims_on {k} a le =
        go (is_pending (message_at b (get_or w.chosen k 0)).status) (eqb (suc k) (size t w.chord))
        (wakes t w.chord (channel_of b w.subject)) (leb 1024 (length b.matches)) refl refl (work_step c a)
      where
        p : Place t w k
        p = claim-place c a

        lost : (m : ℕ) → m ≡ k → (o : ℕ) → step_by t b i ≡ does (loses t b (sender_at b i) w m o) → Goes t b i KeptOn n
        lost zero e o y =
            goes_next true y refl refl (omega (arith, le, p.small, p.place, p.chord)) p.chord
            (omega (arith, le, p.small, p.place, p.chord))
        lost (suc m) e o y =
            let x = next c y in
            goes _ y (omega (arith, le, p.small, p.place, p.chord))
            (L.keeps x refl q, reverting _ (goes_on x refl refl) sub (omega (arith, le, p.small, p.place, e)))

        wide : eqb (suc k) (size t w.chord) ≡ true → is_pending (message_at b (get_or w.chosen k 0)).status ≡ true
            → X + 8 ≤ Z
        wide e f = L.more q
            (subst (λ (o : ℕ). is_open (message_at b o).status ≡ true) sub (subject-open a (omega tests) f))

        go : (u last wk full : Bool) → is_pending (message_at b (get_or w.chosen k 0)).status ≡ u
            → eqb (suc k) (size t w.chord) ≡ last
            → step_by t b i ≡ does (claimed_by t b (sender_at b i) w k (get_or w.chosen k 0) u last wk full)
            → Goes t b i KeptOn n
        go false last wk full e f y = lost k refl (get_or w.chosen k 0) y
        go true false wk full e f y =
            let x = next c y in
            goes _ y (omega (arith, le, p.small, p.place, p.chord))
            (L.keeps x refl q, claiming _ (goes_on x refl refl) sub (omega (arith, le, p.small, p.place, p.chord)))
        go true true true full e f y =
            finishes y
            (λ x. waking _ (goes_on x refl refl) sub (omega (arith, le, p.small, p.place, p.chord, wide f e)))
            (omega (arith, le, p.small, p.place, p.chord))
        go true true false true e f y = lost k refl (get_or w.chosen k 0) y
        go true true false false e f y =
            finishes y
            (λ x. consuming _ (goes_on x refl refl) sub (omega (arith, le, p.small, p.place, p.chord, wide f e)))
            (omega (arith, le, p.small, p.place, p.chord))

    reverts_on : {k m : ℕ} → AtWork t b i w (revert k m)
        → Z + 23 * length t.chords ≤ n + 23 * w.chord + 16 + k → Goes t b i KeptOn n
    unfolding revert_step
    reverts_on {k} {m} a le = go (eqb (suc k) m) refl
      where
        p : Place t w (suc k)
        p = revert-place c a

        y : step_by t b i ≡ does (revert_step t b (sender_at b i) w k m)
        y = work_step c a

        x : Next t b i (revert_step t b (sender_at b i) w k m)
        x = next c y

        go : (u : Bool)
            → (revert_step t b (sender_at b i) w k m).sender.state ≡ working (reverted_to t b w k m u)
            → Goes t b i KeptOn n
        go true st =
            goes_next w.retry y refl st (omega (arith, le, p.small, p.place, p.chord)) p.chord
            (omega (arith, le, p.small, p.place, p.chord))
        go false st =
            goes _ y (omega (arith, le, p.small, p.place, p.chord))
            (L.keeps x refl q, reverting _ (goes_on x st refl) sub (omega (arith, le, p.small, p.place, p.chord)))

  step_on : (b : Board) (n : ℕ) → Calm t b i → KeptOn b n → Goes t b i KeptOn n
  step_on b n c (q, looking w a sub le) = looks_on n c q w sub a le
  step_on b n c (q, claiming w a sub le) = claims_on n c q w sub a le
  step_on b n c (q, reverting w a sub le) = reverts_on n c q w sub a le
  step_on b n c (q, at_end w a sub le) = enough (within_more le (L.ends c q a sub))

  pub stale : {b : Board} {n : ℕ} → Calm t b i → L.Kept b → Stale b n → Within t b i n
  stale {b} {n} c q f = runs t i KeptOn step_on n b c (q, f)
