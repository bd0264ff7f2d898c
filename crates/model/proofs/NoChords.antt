-- Under a table without chords no schedule ever matches: with no chord to look at, a sender in a job is at the end of
-- its pass or backs off, and neither step records a match.
use mathlib.Core.Path.{◌≡◌, ap, ◌∙◌, subst⁻¹, refl}
use mathlib.Core.Bool.{false, Bool, true, not, ◌&&◌}
use mathlib.Core.List.{[], List, ◌∷◌}
use Prim.Native.Nat.{◌-◌, ℕ, zero, suc}
use lib.Dec.{eqb, leb}
use lib.ListN.{length, get_or, set, replicate}
use native.Mathlib.Omega.{arith}
use Rattle.model.specs.Basics.{every}
use Rattle.model.specs.Tables.{Table}
use Rattle.model.specs.Layout.{count_r, table_of, chords_from, chord_bytes, member_bytes}
use Rattle.model.specs.Boards.{Phase, pass_end, backoff, State, idle, working, blocked, Board, Sender, Message}
use Rattle.model.specs.Boards.{Job, backoff_at, is_open, message_at, Status, pending}
use Rattle.model.specs.Boards.{claimed, woken, consumed, sender_at, idle_sender, empty_board}
use Rattle.model.specs.Effects.{Effect, Outcome, refused, does, apply, word_of}
use Rattle.model.specs.Jobs.{pass_from, job_end}
use Rattle.model.specs.Steps.{rests_then, pass_end_by, more, job_step, pass_end_step, backoff_step, resume_by}
use Rattle.model.specs.Steps.{step_by, resume_step, blocked_step, state_step, sender_step}
use Rattle.model.specs.Adds.{added, add_refusal}
use Rattle.model.specs.Closes.{close_refusal}
use Rattle.model.specs.Pools.{Call, answer_to, adds, add_answer, steps, step_answer, closes, close_answer, after_all}
use Rattle.model.specs.Pools.{history}
use Rattle.model.specs.Demands.{board_after}
use Rattle.model.proofs.Tests.{and}
use Rattle.model.proofs.Jobs.{pass-by, job-end-by}
use Rattle.model.proofs.Words.{is_record, step-speaks, OutcomeSpeaks}
use Rattle.model.proofs.Frame.{matches-kept}
use Rattle.model.proofs.StepFrame.{but-signals}

-- off the chords: the phases and states of a sender that has none to look at
pub data OffPhase : Phase → Type 0 where
  at_end : OffPhase pass_end
  at_rest : (rests : ℕ) → OffPhase (backoff rests)

abbrev pub OffState : State → Type 0
OffState idle = Unit {0}
OffState (working w) = OffPhase w.phase
OffState blocked = Unit {0}

-- an effect that records no match and leaves its sender so
abbrev pub Matchless : Effect → Type 0
Matchless e = (is_record e.change ≡ false) × OffState e.sender.state

abbrev pub MatchlessBy : Outcome → Type 0
MatchlessBy (refused f) = Unit {0}
MatchlessBy (does e) = Matchless e

module _ (t : Table) (chordless : t.chords ≡ []) where
  pass-none : (h channel from : ℕ) (retry : Bool) (k : ℕ) → OffPhase (pass_from t h channel from retry k).phase
  pass-none h channel from retry k =
      pass-by t h channel from retry k (λ w. OffPhase w.phase)
      (λ l. absurd (omega (arith, l, ap length chordless))) (λ l. at_end)

  rests-none : (b : Board) (h k rests : ℕ) → OffPhase (rests_then t b h k rests).phase
  rests-none b h k zero = pass-none _ _ _ _ _
  rests-none b h k (suc rests) = at_rest rests

  end_none : (is : List Message) (d : Sender) (h : ℕ) → OffState (job_end t is d h).state
  end_none is d h =
      job-end-by t is d h (λ e. OffState e.state) (λ s. tt) (λ s m e. tt) (λ s e. tt)
      (λ s v e f ne. pass-none _ _ _ _ _)

  -- the two steps of a job off the chords, and a blocked sender's step
  pass-end-none : (b : Board) (d : Sender) (w : Job) (again : Bool) → Matchless (pass_end_by t b d w again)
  pass-end-none b d w true =
      let k = more w.retries in
      (refl, rests-none b w.subject k (backoff_at b.backoffs k))
  pass-end-none b d w false = (refl, end_none b.messages d w.subject)

  job-none : (b : Board) (d : Sender) (w : Job) {p : Phase} → OffPhase p → Matchless (job_step t b d w p)
  unfolding pass_end_step backoff_step
  job-none b d w at_end = pass-end-none b d w (w.retry && is_open (message_at b w.subject).status)
  job-none b d w (at_rest rests) = (refl, rests-none b w.subject w.retries rests)

  resume-none : (b : Board) (d : Sender) (n : ℕ) (x : Status) → Matchless (resume_by t b d n x)
  resume-none b d n pending = (refl, tt)
  resume-none b d n claimed = (refl, tt)
  resume-none b d n woken = (refl, pass-none _ _ _ _ _)
  resume-none b d n consumed = (refl, tt)

  step-none : (b : Board) (i : ℕ) → OffState (sender_at b i).state → MatchlessBy (step_by t b i)
  unfolding step_by resume_step
  step-none b i n = at (leb 32 i)
    where
      d : Sender
      d = sender_at b i

      by-signal : (g : Bool) → MatchlessBy (blocked_step t b d g)
      by-signal true = resume-none b d (d.own - 1) (message_at b (d.own - 1)).status
      by-signal false = tt

      by : (s : State) → OffState s → MatchlessBy (state_step t b d s)
      by idle m = tt
      by (working w) m = job-none b d w m
      by blocked m = by-signal d.signalled

      at : (u : Bool) → MatchlessBy (sender_step t b i u)
      at true = tt
      at false = by d.state n

-- a board with no match, all of whose senders are off the chords
abbrev pub NoneMatched : Board → Type 0
NoneMatched b = (b.matches ≡ []) × ((j : ℕ) → OffState (sender_at b j).state)

set-states : (ds : List Sender) (i : ℕ) (x : Sender)
    → ((j : ℕ) → OffState (get_or ds j idle_sender).state) → OffState x.state
    → (j : ℕ) → OffState (get_or (set ds i x) j idle_sender).state
set-states [] i x f p j = f j
set-states (d ∷ ds) zero x f p zero = p
set-states (d ∷ ds) zero x f p (suc j) = f (suc j)
set-states (d ∷ ds) (suc i) x f p zero = f 0
set-states (d ∷ ds) (suc i) x f p (suc j) = set-states ds i x (λ k. f (suc k)) p j

applied-none : (b : Board) (i : ℕ) (e : Effect) → NoneMatched b → Matchless e → NoneMatched (apply b i e)
unfolding apply
applied-none b i e v m = (
  matches-kept e.change b.matches m.0 ∙ v.0,
  λ j. subst⁻¹ OffState (but-signals e.change (set b.senders i e.sender) j).state
      (set-states b.senders i e.sender v.1 m.1 j),
)

module _ (t : Table) (chordless : t.chords ≡ []) where
  call_none : (b : Board) (c : Call) → NoneMatched b → NoneMatched (answer_to t b c).board
  unfolding added
  call_none b (adds i x) v = go (add_refusal t b i x)
    where
      go : (f : ℕ) → NoneMatched (add_answer t b i x f).board
      go zero = (v.0, set-states b.senders i _ v.1 (pass-none t chordless _ _ _ _ _))
      go (suc f) = v
  call_none b (steps i) v = go (step_by t b i) (step-none t chordless b i (v.1 i))
    where
      go : (o : Outcome) → MatchlessBy o → NoneMatched (step_answer b i o).board
      go (refused f) m = v
      go (does e) m = applied-none b i e v m
  call_none b (closes day) v = go (close_refusal b day)
    where
      go : (f : ℕ) → NoneMatched (close_answer b day f).board
      go zero = v
      go (suc f) = v

  not-matched : (b : Board) (c : Call) → NoneMatched b → not (eqb (word_of (answer_to t b c).said) 6) ≡ true
  not-matched b (adds i x) v = go (add_refusal t b i x)
    where
      go : (f : ℕ) → not (eqb (word_of (add_answer t b i x f).said) 6) ≡ true
      go zero = refl
      go (suc f) = refl
  not-matched b (steps i) v = go (step_by t b i) (step-none t chordless b i (v.1 i)) (step-speaks t b i)
    where
      go : (o : Outcome) → MatchlessBy o → OutcomeSpeaks o → not (eqb (word_of (step_answer b i o).said) 6) ≡ true
      go (refused f) m s = refl
      go (does e) m s = ap not (s.matched ∙ m.0)
  not-matched b (closes day) v = go (close_refusal b day)
    where
      go : (f : ℕ) → not (eqb (word_of (close_answer b day f).said) 6) ≡ true
      go zero = refl
      go (suc f) = refl

  all_none : (cs : List Call) (b : Board) → NoneMatched b → NoneMatched (after_all t b cs)
  all_none [] b v = v
  all_none (c ∷ cs) b v = all_none cs (answer_to t b c).board (call_none b c v)

  no_word : (cs : List Call) (b : Board)
      → NoneMatched b
      → every (λ e. not (eqb (word_of e.said) 6)) (history t b cs) ≡ true
  no_word [] b v = refl
  no_word (c ∷ cs) b v = and (not-matched b c v) (no_word cs (answer_to t b c).board (call_none b c v))

empty-none : (rests : List ℕ) → NoneMatched (empty_board rests)
empty-none rests = (refl, all-idle 32)
  where
    all-idle : (n j : ℕ) → OffState (get_or (replicate n idle_sender) j idle_sender).state
    all-idle zero j = tt
    all-idle (suc n) zero = tt
    all-idle (suc n) (suc j) = all-idle n j

-- rule 2.2: R is 0
pub no-chords-read : (s : List ℕ) → count_r s ≡ 0 → (table_of s).chords ≡ []
unfolding table_of
no-chords-read s e = ap (λ (n : ℕ). chords_from n (chord_bytes s) (member_bytes s)) e

-- no schedule matches
pub no-chord-no-match : (t : Table) (rests : List ℕ) (cs : List Call)
    → t.chords ≡ []
    → (board_after t rests cs).matches ≡ []
no-chord-no-match t rests cs e = (all_none t e cs (empty_board rests) (empty-none rests)).0

pub no-chord-no-word : (t : Table) (rests : List ℕ) (cs : List Call)
    → t.chords ≡ []
    → every (λ e. not (eqb (word_of e.said) 6)) (history t (empty_board rests) cs) ≡ true
no-chord-no-word t rests cs e = no_word t e cs (empty_board rests) (empty-none rests)
