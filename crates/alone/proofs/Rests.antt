-- What every schedule with a passing backoff table keeps: no sender has more than 64 rests left, and every match has a
-- message.
use mathlib.Core.Path.{◌≡◌, refl, ap, subst, subst⁻¹}
use mathlib.Core.Logic.{◌⊎◌, inl, inr, ◌≢◌}
use mathlib.Core.Bool.{Bool, true, false, ◌&&◌}
use mathlib.Core.List.{List, [], ◌∷◌}
use Prim.Native.Nat.{ℕ, zero, suc, ◌-◌, ◌≤◌, ◌<◌}
use lib.Dec.{eqb, leb}
use lib.ListN.{length, get_or}
use native.Mathlib.Omega.{arith}
use Rattle.model.specs.Basics.{pick}
use Rattle.model.specs.Tables.{Table, size, wakes}
use Rattle.model.specs.Boards.{Board, Job, Phase, State, Sender, Message, Status, Match, idle, working, blocked, look}
use Rattle.model.specs.Boards.{claim, revert, consume, tell, wake, free, signal, pass_end, backoff, sender_at}
use Rattle.model.specs.Boards.{message_at, match_at, backoff_at, channel_of, is_pending, is_open, empty_board}
use Rattle.model.specs.Boards.{pending, claimed, woken, consumed}
use Rattle.model.specs.Effects.{Change, Outcome, refused, does, records, messages_after, turn, consumes, apply}
use Rattle.model.specs.Jobs.{pass_from, job_end}
use Rattle.model.specs.Looks.{choice}
use Rattle.model.specs.Steps.{rests_then, looked_by, look_step, claimed_by, claim_step, lost_at, revert_step, reverted_to}
use Rattle.model.specs.Steps.{consume_step, consumed_to, consumed_end, tell_step, told_to, wake_step, free_step, to_tell}
use Rattle.model.specs.Steps.{signal_step, pass_end_step, pass_end_by, backoff_step, job_step, resume_step, resume_by}
use Rattle.model.specs.Steps.{blocked_step, state_step, sender_step, step_by, more, with_matched}
use Rattle.model.specs.Adds.{added, add_refusal, new_sender}
use Rattle.model.specs.Closes.{close_refusal}
use Rattle.model.specs.Pools.{Call, adds, steps, closes, answer_to, add_answer, step_answer, close_answer, after_all}
use Rattle.model.proofs.Tests.{same?, never}
use Rattle.model.proofs.Jobs.{pass-by, job-end-by}
use Rattle.model.proofs.Words.{is_record}
use Rattle.model.proofs.Passage.{Passage, MatchIs, old_match, new_match, match_is, step-passage}
use Rattle.model.proofs.AcceptedChords.{TableOk}
use Rattle.model.proofs.Invariant.{Inv}
use Rattle.model.proofs.StepBy.{OutcomeOwes, step-owes}
use Rattle.model.proofs.Adds.{added-passage, add-accepted}
use Rattle.model.proofs.Schedule.{call-inv, all-idle}

-- the rests that a sender has before it
abbrev pub rests_in : Phase → ℕ
rests_in (look k) = 0
rests_in (claim k) = 0
rests_in (revert k m) = 0
rests_in (consume k m) = 0
rests_in (tell k) = 0
rests_in wake = 0
rests_in (free k) = 0
rests_in signal = 0
rests_in pass_end = 0
rests_in (backoff rests) = suc rests

abbrev pub rests_of : State → ℕ
rests_of idle = 0
rests_of (working w) = rests_in w.phase
rests_of blocked = 0

pub record Bounded (b : Board) : Type 0 where
  pub rests : (j : ℕ) → rests_of (sender_at b j).state ≤ 64
  pub table : (k : ℕ) → backoff_at b.backoffs k ≤ 64
  pub matches : (k : ℕ) → k < length b.matches → 1 ≤ length (match_at b k).messages

-- a pass begun has none, nor has a sender whose job has ended
pass-none : (t : Table) (h channel from k : ℕ) (retry : Bool) → rests_in (pass_from t h channel from retry k).phase ≡ 0
pass-none t h channel from k retry =
    pass-by t h channel from retry k (λ w. rests_in w.phase ≡ 0) (λ l. refl) (λ l. refl)

end_none : (t : Table) (is : List Message) (d : Sender) (h : ℕ) → rests_of (job_end t is d h).state ≡ 0
end_none t is d h =
    job-end-by t is d h (λ e. rests_of e.state ≡ 0) (λ s. refl) (λ s m e. refl) (λ s e. refl)
    (λ s v e f ne. pass-none t v _ 0 0 false)

rests-as : (t : Table) (b : Board) (h k rests : ℕ) → rests_in (rests_then t b h k rests).phase ≡ rests
rests-as t b h k zero = pass-none t h _ 0 k false
rests-as t b h k (suc rests) = refl

pick-none : (u : Bool) (p q : Phase) → rests_in p ≡ 0 → rests_in q ≡ 0 → rests_in (pick u p q) ≡ 0
pick-none true p q e f = e
pick-none false p q e f = f

-- phase by phase: only the end of a pass gives rests, as the backoff table says, and a rest leaves one fewer
module _ (t : Table) (b : Board) (d : Sender) (w : Job) where
  looked-none : (k n : ℕ) → rests_of (looked_by t b d w k n).sender.state ≡ 0
  looked-none k zero = pass-none t w.subject _ _ _ _
  looked-none k (suc n) = pick-none (eqb (suc k) (size t w.chord)) (claim 0) (look (suc k)) refl refl

  lost-none : (k : ℕ) → rests_in (lost_at t b w k).phase ≡ 0
  lost-none zero = pass-none t w.subject _ _ _ _
  lost-none (suc k) = refl

  claimed-none : (k n : ℕ) (p l x f : Bool) → rests_of (claimed_by t b d w k n p l x f).sender.state ≡ 0
  claimed-none k n false l x f = lost-none k
  claimed-none k n true false x f = refl
  claimed-none k n true true true f = refl
  claimed-none k n true true false true = lost-none k
  claimed-none k n true true false false = refl

  reverted-none : (k m : ℕ) (u : Bool) → rests_in (reverted_to t b w k m u).phase ≡ 0
  reverted-none k m true = pass-none t w.subject _ _ _ _
  reverted-none k m false = refl

  consumed-none : (is : List Message) (e : Sender) (k m : ℕ) (u : Bool)
      → rests_of (consumed_to t is e w k m u).state ≡ 0
  consumed-none is e k m false = refl
  consumed-none is e k m true = go (to_tell t is w.subject w.chosen)
    where
      go : (ns : List ℕ) → rests_of (consumed_end t is e w ns).state ≡ 0
      go [] = end_none t is e w.subject
      go (n ∷ ns) = refl

  told_none : (is : List Message) (k : ℕ) (u : Bool) → rests_of (told_to t is d w k u).state ≡ 0
  told_none is k false = refl
  told_none is k true = end_none t is d w.subject

  ended-few : (u : Bool) → Bounded b → rests_of (pass_end_by t b d w u).sender.state ≤ 64
  ended-few true v =
      let k = more w.retries in
      omega (arith, v.table k, rests-as t b w.subject k (backoff_at b.backoffs k))
  ended-few false v = omega (arith, end_none t b.messages d w.subject)

  job-few : (p : Phase) → rests_in p ≤ 64 → Bounded b → rests_of (job_step t b d w p).sender.state ≤ 64
  unfolding look_step claim_step revert_step consume_step tell_step wake_step free_step signal_step pass_end_step
      backoff_step
  job-few (look k) l v = omega (arith, looked-none k (choice t b w k))
  job-few (claim k) l v =
      omega (
        arith,
        claimed-none k (get_or w.chosen k 0) (is_pending (message_at b (get_or w.chosen k 0)).status)
            (eqb (suc k) (size t w.chord)) (wakes t w.chord (channel_of b w.subject))
            (leb 1024 (length b.matches)),
      )
  job-few (revert k m) l v = omega (arith, reverted-none k m (eqb (suc k) m))
  job-few (consume k m) l v =
      omega (
        arith,
        consumed-none (messages_after (turn (get_or w.chosen k 0) (consumes m)) b.messages)
            (with_matched (eqb (suc (get_or w.chosen k 0)) d.own) d m) k m (eqb (suc k) (length w.chosen)),
      )
  job-few (tell k) l v =
      omega (arith, told_none b.messages k (eqb (suc k) (length (to_tell t b.messages w.subject w.chosen))))
  job-few wake l v = omega (arith, pick-none (leb 2 (length w.chosen)) (free 0) signal refl refl)
  job-few (free k) l v =
      omega (arith, pick-none (eqb (suc (suc k)) (length w.chosen)) signal (free (suc k)) refl refl)
  job-few signal l v = omega (arith, end_none t b.messages d w.subject)
  job-few pass_end l v = ended-few (w.retry && is_open (message_at b w.subject).status) v
  job-few (backoff r) l v = omega (arith, rests-as t b w.subject w.retries r)

resume-none : (t : Table) (b : Board) (d : Sender) (n : ℕ) (s : Status)
    → rests_of (resume_by t b d n s).sender.state ≡ 0
resume-none t b d n pending = refl
resume-none t b d n claimed = refl
resume-none t b d n woken = pass-none t n _ 0 0 false
resume-none t b d n consumed = refl

-- every step
abbrev pub FewAfter : Outcome → Type 0
FewAfter (refused f) = Unit {0}
FewAfter (does e) = rests_of e.sender.state ≤ 64

module _ (t : Table) (b : Board) (i : ℕ) (v : Bounded b) where
  by_state : (x : State) → (sender_at b i).state ≡ x → FewAfter (state_step t b (sender_at b i) x)
  unfolding resume_step
  by_state idle st = tt
  by_state (working w) st =
      job-few t b (sender_at b i) w w.phase (subst (λ (x : State). rests_of x ≤ 64) st (v.rests i)) v
  by_state blocked st = go (sender_at b i).signalled
    where
      go : (u : Bool) → FewAfter (blocked_step t b (sender_at b i) u)
      go true = let n = (sender_at b i).own - 1 in
          omega (arith, resume-none t b (sender_at b i) n (message_at b n).status)
      go false = tt

  step-few : FewAfter (step_by t b i)
  unfolding step_by
  step-few = go (leb 32 i)
    where
      go : (u : Bool) → FewAfter (sender_step t b i u)
      go true = tt
      go false = by_state (sender_at b i).state refl

-- every call, and every list of calls from the empty board
bounded-after : {b b' : Board} {i : ℕ} {c : Change} {d : Sender} → Passage b b' i c d → b'.backoffs ≡ b.backoffs
    → rests_of d.state ≤ 64 → ((x : ℕ) (m : Match) → c ≡ records x m → 1 ≤ length m.messages) → Bounded b
    → Bounded b'
bounded-after {b} {b'} {i} {c} {d} p k r m v = record {
  rests = λ j. rest j (same? j i);
  table = λ n. rw k (v.table n);
  matches = λ n l. some n (match_is p n l);
}
  where
    rest : (j : ℕ) → (j ≡ i) ⊎ (j ≢ i) → rests_of (sender_at b' j).state ≤ 64
    rest j (inl e) = subst⁻¹ (λ (x : ℕ). rests_of (sender_at b' x).state ≤ 64) e (rw p.own.state r)
    rest j (inr e) = rw (p.others j e).state (v.rests j)

    some : (n : ℕ) → MatchIs b b' c n → 1 ≤ length (match_at b' n).messages
    some n (old_match l e) = rw e (v.matches n l)
    some n (new_match x y e z f) = rw f (m x y e)

pub call-bounded : (t : Table) (b : Board) (c : Call) → TableOk t → Inv t b → Bounded b
    → Bounded (answer_to t b c).board
unfolding added apply
call-bounded t b (adds i x) ok v f = go (add_refusal t b i x) refl
  where
    new_none : (is : List Message) (n : ℕ) → rests_of (new_sender t is n).state ≡ 0
    new_none is n = pass-none t n _ 0 0 false

    go : (r : ℕ) → add_refusal t b i x ≡ r → Bounded (add_answer t b i x r).board
    go zero e =
        bounded-after (added-passage t b i x (omega (arith, (add-accepted t b i x e).0, v.senders))) refl
        (omega (arith, new_none (added t b i x).messages (length b.messages))) (λ y m z. never (ap is_record z)) f
    go (suc r) e = f
call-bounded t b (steps i) ok v f = go (step_by t b i) (step-owes t b i v) (step-few t b i f)
  where
    go : (o : Outcome) → OutcomeOwes t b i o → FewAfter o → Bounded (step_answer b i o).board
    go (refused r) x y = f
    go (does e) x y =
        bounded-after (step-passage b i e (omega (arith, x.0, v.senders)) x.1.lawful) refl y
        (λ n m z.
        let r = (x.1.recorded.subject n m z).1 in
        omega (arith, r.all, ok.chord_some m.chord r.selection.chord-in))
        f
call-bounded t b (closes day) ok v f = go (close_refusal b day)
  where
    go : (r : ℕ) → Bounded (close_answer b day r).board
    go zero = record { rests = f.rests; table = f.table; matches = f.matches }
    go (suc r) = f

pub all-bounded : (t : Table) (cs : List Call) (b : Board) → TableOk t → Inv t b → Bounded b → Bounded (after_all t b cs)
all-bounded t [] b ok v f = f
all-bounded t (c ∷ cs) b ok v f =
    all-bounded t cs (answer_to t b c).board ok (call-inv t b c v) (call-bounded t b c ok v f)

pub empty-bounded : (rests : List ℕ) → ((k : ℕ) → backoff_at rests k ≤ 64) → Bounded (empty_board rests)
empty-bounded rests f = record {
  rests = λ j. subst⁻¹ (λ (d : Sender). rests_of d.state ≤ 64) (all-idle rests j) (omega arith);
  table = f;
  matches = λ k l. absurd (omega arith);
}
