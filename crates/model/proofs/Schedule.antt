-- From the empty board on: every call keeps the invariant, boards only grow, and the pool follows.
use mathlib.Core.Path.{◌≡◌, refl, subst, subst⁻¹, ap, ◌∙◌, sym}
use mathlib.Core.Bool.{Bool, true, false}
use mathlib.Core.List.{List, [], ◌∷◌, ◌++◌}
use Prim.Native.Nat.{ℕ, ◌<◌, ◌≤◌, zero, suc}
use borrow.Author.Tests.{ltb-true, ltb-false}
use lib.Dec.{ltb}
use lib.ListN.{get_or, replicate, get_or-replicate, get_or-eq_default, length-replicate}
use native.Mathlib.Omega.{arith}
use Rattle.model.specs.Tables.{Table}
use Rattle.model.specs.Boards.{sender_at, empty_board, Board, idle_sender, Sender}
use Rattle.model.specs.Effects.{Outcome, refused, does}
use Rattle.model.specs.Steps.{step_by}
use Rattle.model.specs.Holdings.{Holds}
use Rattle.model.specs.Adds.{add_refusal}
use Rattle.model.specs.Closes.{close_refusal}
use Rattle.model.specs.Pools.{Pool, empty_pool, Call, answer_to, adds, add_answer, steps, step_answer, closes, played}
use Rattle.model.specs.Pools.{close_answer, match_reads, after_all, played_all, history}
use Rattle.model.specs.Demands.{board_after, pool_after, final_reads}
use Rattle.model.proofs.Tests.{never}
use Rattle.model.proofs.Shares.{none-added, no-tally}
use Rattle.model.proofs.AcceptedChords.{TableOk}
use Rattle.model.proofs.Written.{t}
use Rattle.model.proofs.Words.{step-speaks, OutcomeSpeaks}
use Rattle.model.proofs.Grows.{apart, Grows, grows-refl, grows-trans}
use Rattle.model.proofs.Passage.{waker-on-board, grows, step-passage}
use Rattle.model.proofs.Local.{SenderOk}
use Rattle.model.proofs.Invariant.{Inv, call-keeps, step_call}
use Rattle.model.proofs.StepBy.{step-owes, OutcomeOwes}
use Rattle.model.proofs.PoolMeets.{PoolOk}
use Rattle.model.proofs.PoolRun.{pool-entered, step-pool}
use Rattle.model.proofs.Adds as A
use Rattle.model.proofs.Closes as C

-- the empty board, and the empty pool beside it
pub all-idle : (rests : List ℕ) (i : ℕ) → sender_at (empty_board rests) i ≡ idle_sender
all-idle rests i = go (ltb i 32) refl
  where
    go : (u : Bool) → ltb i 32 ≡ u → get_or (replicate 32 idle_sender) i idle_sender ≡ idle_sender
    go true e = get_or-replicate 32 i idle_sender idle_sender (ltb-true i 32 e)
    go false e =
        get_or-eq_default (replicate 32 idle_sender) idle_sender {n = i}
        (omega (arith, ltb-false i 32 e, length-replicate 32 idle_sender))

pub empty-inv : (t : Table) (rests : List ℕ) → TableOk t → Inv t (empty_board rests)
empty-inv t rests tok = record {
  senders = length-replicate 32 idle_sender;
  locals = λ i. subst⁻¹ (SenderOk t (empty_board rests)) (all-idle rests i) (record {
    own_in = omega arith;
    waker_is = λ v e. absurd (omega arith);
    reply_is = λ k e. absurd (omega arith);
    matched_is = λ k e. absurd (omega arith);
    state_is = tt;
  });
  notes = record {
    waker_is = λ n v e. none (waker-on-board (empty_board rests) n v e);
    match = λ n e. absurd (apart refl e);
    woken_is = λ n e. absurd (apart refl e);
  };
  holding = record {
    claimed_is = λ i n x. absurd (holds-none i n x);
    one_holder = λ i j n x. absurd (holds-none i n x);
    has_holder = λ n e. absurd (apart refl e);
  };
  matches = record { taken = λ n k l. none l; once = λ n j k l. none l; on_board = λ n k l. none l };
  owners = record {
    own_one = λ i j l. absurd (owns_none i l);
    owned = λ n l. none l;
    signal_due = λ n e. absurd (apart refl e);
  };
  obligation = λ q ns m u. none (m.inside 0 (omega (arith, m.all, tok.chord_some q m.chord-in)));
  answering = λ i n k o. absurd (owns_none i (omega (arith, o)));
  shares = none-added;
}
  where
    none : {X : Type 0} {n : ℕ} → n < 0 → X
    none l = absurd (omega arith)

    holds-none : (i n : ℕ) → Holds t (sender_at (empty_board rests) i).state n → ⊥
    holds-none i n x = subst (λ (d : Sender). Holds t d.state n) (all-idle rests i) x

    owns_none : (i : ℕ) → 1 ≤ (sender_at (empty_board rests) i).own → ⊥
    owns_none i l = omega (arith, ap (λ (d : Sender). d.own) (all-idle rests i))

empty-pool : (t : Table) (rests : List ℕ) (last : Board) → PoolOk t last (empty_board rests) empty_pool
empty-pool t rests last = record {
  sents = refl;
  own_count = length-replicate {A = ℕ} 32 0;
  owns = λ i. ap (λ (d : Sender). d.own) (all-idle rests i) ∙ sym (no-tally i);
  inside_is = λ n e. never e;
  is_inside = λ n l. absurd (omega arith);
  number = refl;
  good = refl;
  once_in = refl;
  total = refl;
}

-- one call
pub call-inv : (t : Table) (b : Board) (c : Call) → Inv t b → Inv t (answer_to t b c).board
call-inv t b (adds i x) v = go (add_refusal t b i x) refl
  where
    go : (f : ℕ) → add_refusal t b i x ≡ f → Inv t (add_answer t b i x f).board
    go zero e =
        let a = A.add-accepted t b i x e in
        A.added-keeps t b i x v (omega (arith, a.0, v.senders)) a.1 a.0 a.4
    go (suc f) e = v
call-inv t b (steps i) v = go (step_by t b i) (step-owes t b i v)
  where
    go : (o : Outcome) → OutcomeOwes t b i o → Inv t (step_answer b i o).board
    go (refused f) x = v
    go (does e) x = call-keeps v (step_call t b i e x.0 v x.1)
call-inv t b (closes day) v = go (close_refusal b day)
  where
    go : (f : ℕ) → Inv t (close_answer b day f).board
    go zero = C.closed-inv t b day v
    go (suc f) = v

call-grows : (t : Table) (b : Board) (c : Call) → Inv t b → Grows b (answer_to t b c).board
call-grows t b (adds i x) v = go (add_refusal t b i x) refl
  where
    go : (f : ℕ) → add_refusal t b i x ≡ f → Grows b (add_answer t b i x f).board
    go zero e = A.added-grows t b i x (omega (arith, (A.add-accepted t b i x e).0, v.senders))
    go (suc f) e = grows-refl b
call-grows t b (steps i) v = go (step_by t b i) (step-owes t b i v)
  where
    go : (o : Outcome) → OutcomeOwes t b i o → Grows b (step_answer b i o).board
    go (refused f) x = grows-refl b
    go (does e) x = grows (step-passage b i e (omega (arith, x.0, v.senders)) x.1.lawful)
call-grows t b (closes day) v = go (close_refusal b day)
  where
    go : (f : ℕ) → Grows b (close_answer b day f).board
    go zero = C.closed-grows b day
    go (suc f) = grows-refl b

call-pool : (t : Table) (last b : Board) (p : Pool) (c : Call) → Inv t b → PoolOk t last b p
    → Grows (answer_to t b c).board last
    → PoolOk t last (answer_to t b c).board (played t (match_reads t last) p c (answer_to t b c).said)
call-pool t last b p (adds i x) v ok = go (add_refusal t b i x) refl
  where
    go : (f : ℕ) → add_refusal t b i x ≡ f → Grows (add_answer t b i x f).board last
        → PoolOk t last (add_answer t b i x f).board
        (played t (match_reads t last) p (adds i x) (add_answer t b i x f).said)
    go zero e g = pool-entered t last b p ok i x v (A.add-accepted t b i x e).0 g
    go (suc f) e g = ok
call-pool t last b p (steps i) v ok = go (step_by t b i) (step-owes t b i v) (step-speaks t b i)
  where
    go : (o : Outcome) → OutcomeOwes t b i o → OutcomeSpeaks o → Grows (step_answer b i o).board last
        → PoolOk t last (step_answer b i o).board (played t (match_reads t last) p (steps i) (step_answer b i o).said)
    go (refused f) x m g = ok
    go (does e) x m g = step-pool t last b p ok i e v x.0 x.1 g m.matched
call-pool t last b p (closes day) v ok = go (close_refusal b day)
  where
    go : (f : ℕ) → Grows (close_answer b day f).board last → PoolOk t last (close_answer b day f).board p
    go zero g = C.closed-pool t last b p day ok
    go (suc f) g = ok

-- a list of calls
pub all-inv : (t : Table) (cs : List Call) (b : Board) → Inv t b → Inv t (after_all t b cs)
all-inv t [] b v = v
all-inv t (c ∷ cs) b v = all-inv t cs (answer_to t b c).board (call-inv t b c v)

pub all-grow : (t : Table) (cs : List Call) (b : Board) → Inv t b → Grows b (after_all t b cs)
all-grow t [] b v = grows-refl b
all-grow t (c ∷ cs) b v =
    grows-trans b (answer_to t b c).board (after_all t b (c ∷ cs)) (call-grows t b c v)
    (all-grow t cs (answer_to t b c).board (call-inv t b c v))

-- the pool after the first calls of a schedule that ends at `last`
pub pool-follows : (t : Table) (last : Board) (before rest : List Call) (b : Board) (p : Pool)
    → Inv t b → PoolOk t last b p → after_all t b (before ++ rest) ≡ last
    → PoolOk t last (after_all t b before) (played_all t (match_reads t last) p (history t b before))
pool-follows t last [] rest b p v ok e = ok
pool-follows t last (c ∷ cs) rest b p v ok e =
    pool-follows t last cs rest (answer_to t b c).board _ (call-inv t b c v)
    (call-pool t last b p c v ok
    (subst (Grows (answer_to t b c).board) e (all-grow t (cs ++ rest) (answer_to t b c).board (call-inv t b c v)))) e

pub after-append : (t : Table) (before rest : List Call) (b : Board)
    → after_all t b (before ++ rest) ≡ after_all t (after_all t b before) rest
after-append t [] rest b = refl
after-append t (c ∷ cs) rest b = after-append t cs rest (answer_to t b c).board

-- what holds after the first calls of a schedule
pub record Reached (t : Table) (rests : List ℕ) (cs before : List Call) : Type 0 where
  pub inv : Inv t (board_after t rests before)
  pub grows : Grows (board_after t rests before) (board_after t rests cs)
  pub pool : PoolOk t (board_after t rests cs) (board_after t rests before)
      (pool_after t rests (final_reads t rests cs) before)

pub reached : (t : Table) (rests : List ℕ) (cs before rest : List Call) → TableOk t → cs ≡ before ++ rest
    → Reached t rests cs before
unfolding pool_after
reached t rests cs before rest tok e =
    let v = empty-inv t rests tok in
    let w = all-inv t before (empty_board rests) v in
    record {
      inv = w;
      grows = subst⁻¹ (λ (x : List Call). Grows (board_after t rests before) (board_after t rests x)) e
          (subst⁻¹ (Grows (board_after t rests before)) (after-append t before rest (empty_board rests))
          (all-grow t rest (board_after t rests before) w));
      pool = pool-follows t (board_after t rests cs) before rest (empty_board rests) empty_pool v
          (empty-pool t rests (board_after t rests cs)) (sym (ap (board_after t rests) e));
    }
