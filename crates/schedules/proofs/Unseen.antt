-- A held sender, message or match is what the model sees of it, with its leftovers.
use mathlib.Core.Path.{◌≡◌, refl, sym, ap, ◌∙◌}
use mathlib.Core.Bool.{Bool}
use mathlib.Core.List.{List, [], ◌∷◌, ◌++◌}
use Prim.Native.Nat.{ℕ, zero, suc, ◌<◌, ◌≤◌}
use native.Mathlib.Omega.{arith}
use lib.ListN.{length, get_or, take, drop, take-append-drop}
use Rattle.model.specs.Tables.{Table}
use Rattle.model.specs.Boards.{Phase, look, claim, revert, consume, tell, wake, free, signal, pass_end, backoff}
use Rattle.model.specs.Boards.{Job, State, idle, working, blocked, Sender}
use Rattle.model.proofs.Grows.{code}
use Rattle.columns.specs.Columns.{status_of}
use Rattle.state.specs.declared.Phase as DP
use Rattle.state.specs.declared.Phase.TheVariants as P
use Rattle.state.specs.declared.State as DS
use Rattle.state.specs.declared.State.TheVariants as S
use Rattle.state.specs.declared.Job as DJ
use Rattle.state.specs.declared.Sender as DD
use Rattle.state.specs.Views.{phase_in, state_in, job_in, sender_in}
use Rattle.refusals.specs.Calls.{SameFrom, SameTo, SameRow}
use Rattle.refusals.proofs.CallLaws.{row_same}
use Rattle.schedules.specs.Outcomes.{chosen_count, LeftoverIn, SameLeftover}

-- Lists

pub joined : {A : Type 0} (n : ℕ) (xs ys : List A) → SameTo n xs ys → SameFrom n xs ys → xs ≡ ys
joined n xs ys e f =
    sym (take-append-drop n xs) ∙ ap (λ r. r ++ drop n xs) e ∙ ap (λ r. take n ys ++ r) f ∙ take-append-drop n ys

-- element by element up to number n
pub same-list : {A : Type 0} (d : A) (n : ℕ) (xs ys : List A) → length xs ≡ length ys
    → ((i : ℕ) → i < n → get_or xs i d ≡ get_or ys i d) → SameFrom n xs ys → xs ≡ ys
same-list d zero xs ys l e f = f
same-list d (suc n) [] [] l e f = refl
same-list d (suc n) [] (y ∷ ys) l e f = absurd (omega (arith, l))
same-list d (suc n) (x ∷ xs) [] l e f = absurd (omega (arith, l))
same-list d (suc n) (x ∷ xs) (y ∷ ys) l e f =
    cc (e 0 (omega arith), same-list d n xs ys (omega (arith, l)) (λ i h. e (suc i) (omega (arith, h))) f)

-- Views, back

pub status-back : (x : ℕ) → x ≤ 3 → code (status_of x) ≡ x
status-back zero l = refl
status-back (suc zero) l = refl
status-back (suc (suc zero)) l = refl
status-back (suc (suc (suc x))) l = omega arith

abbrev phase_back : Phase → DP.Phase
phase_back (look k) = P.Look k
phase_back (claim k) = P.Claim k
phase_back (revert k m) = P.Revert k m
phase_back (consume k m) = P.Consume k m
phase_back (tell k) = P.Tell k
phase_back wake = P.Wake
phase_back (free k) = P.Free k
phase_back signal = P.Signal
phase_back pass_end = P.PassEnd
phase_back (backoff k) = P.Backoff k

phase-back : (p : DP.Phase) → phase_back (phase_in p) ≡ p
phase-back (P.Look k) = refl
phase-back (P.Claim k) = refl
phase-back (P.Revert k m) = refl
phase-back (P.Consume k m) = refl
phase-back (P.Tell k) = refl
phase-back P.Wake = refl
phase-back (P.Free k) = refl
phase-back P.Signal = refl
phase-back P.PassEnd = refl
phase-back (P.Backoff k) = refl

abbrev state_back : State → DS.State
state_back idle = S.Idle
state_back (working w) = S.Working
state_back blocked = S.Blocked

state-back : (u : DS.State) (w : Job) → state_back (state_in u w) ≡ u
state-back S.Idle w = refl
state-back S.Working w = refl
state-back S.Blocked w = refl

abbrev job_back : Job → State → Job
job_back v idle = v
job_back v (working w) = w
job_back v blocked = v

-- Senders

abbrev job_by : ℕ → ℕ → DP.Phase → List ℕ → Bool → ℕ → DJ.Job
job_by s c p ns r n = record { subject = s; chord = c; phase = p; chosen = ns; retry = r; retries = n }

abbrev sender_by : DS.State → Bool → ℕ → ℕ → ℕ → ℕ → DJ.Job → DD.Sender
sender_by u s o w r m j =
    record { state = u; signalled = s; own = o; waker = w; reply = r; matched = m; job = j }

module _ (t : Table) where
  job-same : (i j : DJ.Job) → job_in t i ≡ job_in t j → SameFrom (chosen_count t i) i.chosen j.chosen → i ≡ j
  job-same i j e f = go
    where
      phases : i.phase ≡ j.phase
      phases = sym (phase-back i.phase) ∙ ap (λ (w : Job). phase_back w.phase) e ∙ phase-back j.phase

      chords : i.chord ≡ j.chord
      chords = ap (λ (w : Job). w.chord) e

      counts : chosen_count t j ≡ chosen_count t i
      counts = rw (phases, chords)

      choices : i.chosen ≡ j.chosen
      choices =
          joined (chosen_count t i) i.chosen j.chosen
          (ap (λ (w : Job). w.chosen) e ∙ ap (λ n. take n j.chosen) counts) f

      go : job_by i.subject i.chord i.phase i.chosen i.retry i.retries
          ≡ job_by j.subject j.chord j.phase j.chosen j.retry j.retries
      go =
          cc (
            ap (λ (w : Job). w.subject) e,
            chords,
            phases,
            choices,
            ap (λ (w : Job). w.retry) e,
            ap (λ (w : Job). w.retries) e,
          )

  left-same : (u : DS.State) (i j : DJ.Job) → state_in u (job_in t i) ≡ state_in u (job_in t j)
      → LeftoverIn u (chosen_count t i) i j → i ≡ j
  left-same S.Idle i j e f = f
  left-same S.Working i j e f = job-same i j (ap (job_back (job_in t i)) e) f
  left-same S.Blocked i j e f = f

-- two that are c but for their signals
pub row_is : (c d e : DD.Sender) → SameRow c d → SameRow c e → d.signalled ≡ e.signalled → d ≡ e
row_is c d e p q r = go
  where
    go : sender_by d.state d.signalled d.own d.waker d.reply d.matched d.job
        ≡ sender_by e.state e.signalled e.own e.waker e.reply e.matched e.job
    go =
        cc (
          sym p.state ∙ q.state,
          r,
          sym p.own ∙ q.own,
          sym p.waker ∙ q.waker,
          sym p.reply ∙ q.reply,
          sym p.matched ∙ q.matched,
          sym p.job ∙ q.job,
        )

pub sender-same : (t : Table) (d e : DD.Sender) → sender_in t d ≡ sender_in t e → SameLeftover t d e → d ≡ e
sender-same t d e p f =
    row_is d d e (row_same d)
    (record {
      state = states;
      own = ap (λ (x : Sender). x.own) p;
      waker = ap (λ (x : Sender). x.waker) p;
      reply = ap (λ (x : Sender). x.reply) p;
      matched = ap (λ (x : Sender). x.matched) p;
      job = left-same t d.state d.job e.job
          (ap (λ (x : Sender). x.state) p ∙ ap (λ u. state_in u (job_in t e.job)) (sym states)) f;
    })
    (ap (λ (x : Sender). x.signalled) p)
  where
    states : d.state ≡ e.state
    states =
        sym (state-back d.state (job_in t d.job)) ∙ ap (λ (x : Sender). state_back x.state) p
        ∙ state-back e.state (job_in t e.job)
