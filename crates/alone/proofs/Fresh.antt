-- A pass begun in peace, with its subject pending: no claim is lost, no mark is set, and it takes 8 steps a chord at
-- most until its job ends or its last claim is made.
use mathlib.Core.Path.{◌≡◌, refl, sym, ◌∙◌, ap, subst⁻¹}
use mathlib.Core.Logic.{◌≢◌}
use mathlib.Core.Bool.{Bool, true, false, ◌&&◌}
use mathlib.Core.List.{List, [], ◌∷◌, ◌++◌}
use Prim.Native.Nat.{ℕ, zero, suc, ◌+◌, ◌-◌, ◌*◌, ◌≤◌, ◌<◌}
use borrow.Author.Tests.{leb-true}
use lib.Dec.{eqb, leb}
use lib.ListN.{length, get_or}
use native.Mathlib.Omega.{arith}
use Rattle.model.specs.Basics.{pick}
use Rattle.model.specs.Tables.{Table, size, naming, wakes}
use Rattle.model.specs.Boards.{Board, Job, sender_at, message_at, channel_of, is_open}
use Rattle.model.specs.Boards.{pending, claimed, is_pending, look, claim, pass_end, working}
use Rattle.model.specs.Effects.{Effect, apply, messages_after, does, none, turn, claims}
use Rattle.model.specs.Jobs.{with_chosen, pass_from, next_chord}
use Rattle.model.specs.Looks.{choice}
use Rattle.model.specs.Steps.{step_by, look_step, looked_by, claim_step, claimed_by, pass_end_step}
use Rattle.model.specs.Steps.{pass_end_by}
use Rattle.model.proofs.Tests.{never}
use Rattle.model.proofs.Jobs.{pass-by}
use Rattle.model.proofs.Chords.{names-le}
use Rattle.model.proofs.Passage.{After, same, turned_by}
use Rattle.model.proofs.Lists.{snoc-all}
use Rattle.model.proofs.AtWork.{AtWork}
use Rattle.alone.proofs.Room.{room}
use Rattle.alone.proofs.Calm.{Calm, Within, within_more, later, Next, next, working-at, work_step, goes_on, Goes}
use Rattle.alone.proofs.Calm.{enough, goes, runs}
use Rattle.alone.proofs.Ended.{Ended, ended}
use Rattle.alone.proofs.Finish.{Stage, Finishing, consuming, waking, finish}
use Rattle.alone.proofs.Passes.{none_claimed, no-mark, found-pending, Place, look-place, claim-place}

-- what a pass knows of the board when it comes to chord r; if it comes to its end, X steps are left
pub record Pass (t : Table) (i h X T : ℕ) (S : Stage t i h X T) : Type 1 where
  pub Come : ℕ → Board → Type 0
  pub unmoved : {b : Board} {r : ℕ} {e : Effect} → Next t b i e → e.change ≡ none → Come r b
      → Come r (apply b i e)
  pub skips : {b : Board} {r : ℕ} → Come r b → Come (naming t (channel_of b h) r) b
  pub missed : {b : Board} {w : Job} {k : ℕ} → AtWork t b i w (look k) → w.subject ≡ h
      → ((n : ℕ) → (message_at b n).status ≢ claimed) → choice t b w k ≡ 0 → Come w.chord b → Come (suc w.chord) b
  pub found : {b : Board} {r : ℕ} → Come r b → S.Kept b
  pub failed : {b : Board} {r : ℕ} → Calm t b i → length t.chords ≤ r → Come r b → Ended t b i h → Within t b i X

-- sender i begins a pass on h, its k-th retry
abbrev pub Starts : Table → Board → ℕ → ℕ → ℕ → Type 0
Starts t b i h k = (sender_at b i).state ≡ working (pass_from t h (channel_of b h) 0 false k)

-- the chosen messages from place k on are pending
abbrev AllPending : Board → List ℕ → ℕ → Type 0
AllPending b ns k = (j : ℕ) → k ≤ j → j < length ns → (message_at b (get_or ns j 0)).status ≡ pending

module _ (t : Table) (i h X T : ℕ) (some : 1 ≤ T) (S : Stage t i h X T) (P : Pass t i h X T S) where
  data Fresh (b : Board) (n : ℕ) : Type 0 where
    looking : (w : Job) {k : ℕ} → AtWork t b i w (look k) → w.subject ≡ h → w.retry ≡ false
        → (message_at b h).status ≡ pending → AllPending b w.chosen 0 → P.Come w.chord b
        → X + 16 + T + 8 * length t.chords ≤ n + 8 * w.chord + k → Fresh b n
    claiming : (w : Job) {k : ℕ} → AtWork t b i w (claim k) → w.subject ≡ h → AllPending b w.chosen k
        → S.Kept b → X + 16 + T ≤ n + k → Fresh b n
    at_end : (w : Job) {r : ℕ} → AtWork t b i w pass_end → w.subject ≡ h → w.retry ≡ false
        → length t.chords ≤ r → P.Come r b → X + 1 ≤ n → Fresh b n

  begins : {b : Board} (n from k : ℕ) → Calm t b i
      → (sender_at b i).state ≡ working (pass_from t h (channel_of b h) from false k)
      → (message_at b h).status ≡ pending → P.Come from b
      → X + 16 + T + 8 * length t.chords ≤ n + 8 * from → X + 1 ≤ n → Fresh b n
  begins {b} n from k c st pend come le le1 =
      pass-by t h (channel_of b h) from false k (λ w. (sender_at b i).state ≡ working w → Fresh b n)
      (λ l z. looking _ (working-at c z refl) refl refl pend (λ j x y. absurd (omega arith)) (P.skips come)
      (omega (arith, names-le t (channel_of b h) from)))
      (λ l z. at_end _ (working-at c z refl) refl refl l (P.skips come) le1) st

  module _ {b : Board} (n : ℕ) (c : Calm t b i) (w : Job) (sub : w.subject ≡ h) where
    looks_on : {k : ℕ} (a : AtWork t b i w (look k)) → w.retry ≡ false → (message_at b h).status ≡ pending
        → AllPending b w.chosen 0 → P.Come w.chord b
        → X + 16 + T + 8 * length t.chords ≤ n + 8 * w.chord + k → Goes t b i Fresh n
    unfolding look_step apply messages_after
    looks_on {k} a mark pend all come le = go (choice t b w k) refl (work_step c a)
      where
        p : Place t w k
        p = look-place c a

        free : (m : ℕ) → (message_at b m).status ≢ claimed
        free = none_claimed c a (λ j x. x)

        go : (m : ℕ) → choice t b w k ≡ m → step_by t b i ≡ does (looked_by t b (sender_at b i) w k m)
            → Goes t b i Fresh n
        go zero e y =
            goes _ y (omega (arith, le, p.chord, p.small, p.place))
            (begins (n - 1) (suc w.chord) w.retries x.calm st pend
            (P.unmoved x refl (P.missed a sub free e come))
            (omega (arith, le, p.chord, p.small, p.place)) (omega (arith, le, p.chord, p.small, p.place)))
          where
            x : Next t b i (looked_by t b (sender_at b i) w k 0)
            x = next c y

            st : (sender_at (apply b i (looked_by t b (sender_at b i) w k 0)) i).state
                ≡ working (pass_from t h (channel_of b h) (suc w.chord) false w.retries)
            st = x.passage.own.state
                ∙ ap (λ (u : Bool). working (next_chord t b w u)) (no-mark t b w k free mark)
                ∙ ap (λ (o : ℕ). working (pass_from t o (channel_of b o) (suc w.chord) false w.retries)) sub
        go (suc m) e y =
            goes _ y (omega (arith, le, p.chord, p.small, p.place)) (last (eqb (suc k) (size t w.chord)) refl)
          where
            x : Next t b i (looked_by t b (sender_at b i) w k (suc m))
            x = next c y

            chosen : AllPending b (w.chosen ++ (m ∷ [])) 0
            chosen j lo =
                snoc-all (λ j x. (message_at b x).status ≡ pending) w.chosen m 0 (λ j. all j (omega arith))
                (found-pending t b w k m e (subst⁻¹ (λ (o : ℕ). (message_at b o).status ≡ pending) sub pend)) j

            last : (u : Bool) → eqb (suc k) (size t w.chord) ≡ u
                → Fresh (apply b i (looked_by t b (sender_at b i) w k (suc m))) (n - 1)
            last true z =
                claiming (with_chosen w (w.chosen ++ (m ∷ [])) (claim 0))
                (goes_on x (ap (λ (v : Bool). working
                (with_chosen w (w.chosen ++ (m ∷ [])) (pick v (claim 0) (look (suc k))))) z) refl) sub chosen
                (P.found (P.unmoved x refl come)) (omega (arith, le, p.chord, p.small, p.place))
            last false z =
                looking (with_chosen w (w.chosen ++ (m ∷ [])) (look (suc k)))
                (goes_on x (ap (λ (v : Bool). working
                (with_chosen w (w.chosen ++ (m ∷ [])) (pick v (claim 0) (look (suc k))))) z) refl) sub mark pend chosen
                (P.unmoved x refl come) (omega (arith, le, p.chord, p.small, p.place))

    -- the last claim is made
    finishes : {e : Effect} → step_by t b i ≡ does e → (Next t b i e → S.Kept (apply b i e))
        → (Next t b i e → Finishing t i h X T S (apply b i e) (n - 1)) → 1 ≤ n → Goes t b i Fresh n
    finishes y q f l =
        let x = next c y in
        enough (within_more (omega (arith, l)) (later y (finish t i h X T S x.calm (q x) (f x))))

    claims_on : {k : ℕ} (a : AtWork t b i w (claim k)) → AllPending b w.chosen k → S.Kept b
        → X + 16 + T ≤ n + k → Goes t b i Fresh n
    unfolding claim_step
    claims_on {k} a all q le =
        go (is_pending (message_at b (get_or w.chosen k 0)).status) (eqb (suc k) (size t w.chord))
        (wakes t w.chord (channel_of b w.subject)) (leb 1024 (length b.matches)) refl refl (work_step c a)
      where
        p : Place t w k
        p = claim-place c a

        inside : k < length w.chosen
        inside = omega (arith, p.place, a.job.placed.0.all)

        here : (message_at b (get_or w.chosen k 0)).status ≡ pending
        here = all k (omega arith) inside

        -- what is yet to be claimed is pending still
        still : (b' : Board) (j : ℕ) → suc k ≤ j → j < length w.chosen
            → After b b' (turn (get_or w.chosen k 0) claims) (get_or w.chosen j 0)
            → (message_at b' (get_or w.chosen j 0)).status ≡ pending
        still b' j lo hi (same x y r v) = y ∙ all j (omega arith) hi
        still b' j lo hi (turned_by τ x y r v m o) =
            absurd (omega (arith, a.job.placed.0.selection.one k j inside hi x.1))

        go : (u last wk full : Bool) → is_pending (message_at b (get_or w.chosen k 0)).status ≡ u
            → leb 1024 (length b.matches) ≡ full
            → step_by t b i ≡ does (claimed_by t b (sender_at b i) w k (get_or w.chosen k 0) u last wk full)
            → Goes t b i Fresh n
        go false last wk full e r y = never (sym e ∙ ap is_pending here)
        go true false wk full e r y =
            let x = next c y in
            goes _ y (omega (arith, le, p.small, p.place))
            (claiming _ (goes_on x refl refl) sub (λ j lo hi. still _ j lo hi (x.passage.after _))
            (S.keeps x refl refl q) (omega (arith, le, p.small, p.place)))
        go true true true full e r y =
            finishes y (λ x. S.keeps x refl refl q)
            (λ x. waking _ (goes_on x refl refl) sub (omega (arith, le, p.small, p.place, some)))
            (omega (arith, le, p.small, p.place))
        go true true false true e r y =
            absurd (omega (
              arith,
              leb-true 1024 (length b.matches) r,
              room t b c.inv c.bounded (get_or w.chosen k 0) (a.job.placed.0.selection.inside k inside)
                  here,
            ))
        go true true false false e r y =
            finishes y (λ x. S.keeps x refl refl q)
            (λ x. consuming _ (goes_on x refl refl) sub (omega (arith, le, p.small, p.place)))
            (omega (arith, le, p.small, p.place))

    ends_on : {r : ℕ} → AtWork t b i w pass_end → w.retry ≡ false → length t.chords ≤ r → P.Come r b
        → X + 1 ≤ n → Goes t b i Fresh n
    unfolding pass_end_step apply messages_after
    ends_on {r} a mark ge come le =
        go (w.retry && is_open (message_at b w.subject).status) (rw mark) (work_step c a)
      where
        go : (u : Bool) → u ≡ false → step_by t b i ≡ does (pass_end_by t b (sender_at b i) w u) → Goes t b i Fresh n
        go true e y = never (sym e)
        go false e y =
            let x = next c y in
            enough (within_more (omega (arith, le)) (later y (P.failed x.calm ge (P.unmoved x refl come)
            (ended a x sub (sender_at b i) refl refl))))

  step_on : (b : Board) (n : ℕ) → Calm t b i → Fresh b n → Goes t b i Fresh n
  step_on b n c (looking w a sub mark pend all come le) = looks_on n c w sub a mark pend all come le
  step_on b n c (claiming w a sub all q le) = claims_on n c w sub a all q le
  step_on b n c (at_end w a sub mark ge come le) = ends_on n c w sub a mark ge come le

  -- from its first chord
  pub fresh_pass : {b : Board} (k : ℕ) → Calm t b i → Starts t b i h k → (message_at b h).status ≡ pending → P.Come 0 b
      → Within t b i (X + 272 + T)
  fresh_pass {b} k c st pend come =
      runs t i Fresh step_on (X + 272 + T) b c
      (begins (X + 272 + T) 0 k c st pend come (omega (arith, c.table.chords_few)) (omega arith))
