-- Demand 3: for every accepted table, every backoff table and every list of calls.
use mathlib.Core.Path.{◌≡◌, refl, ap, sym, ◌∙◌, subst, subst⁻¹}
use mathlib.Core.Logic.{◌≢◌, ◌⊎◌, inl, inr}
use mathlib.Core.Bool.{false, true, Bool}
use mathlib.Core.List.{List, [], ◌∷◌, ◌++◌}
use Prim.Native.Nat.{◌-◌, ℕ, ◌<◌, suc, zero, ◌≤◌}
use borrow.Author.Tests.{ne_eqb}
use lib.Dec.{eqb}
use lib.IntN.{ℤ, ◌+ℤ◌}
use lib.ListN.{length, get_or, get_or-map, length-map}
use native.Mathlib.Omega.{arith}
use Rattle.model.specs.Basics.{is_in, every}
use Rattle.model.specs.Tables.{Table, is_sync, chord_at}
use Rattle.model.specs.Layout.{table_of}
use Rattle.model.specs.Boards.{Board, match_at, no_match, sender_at, Sent, consumed, message_at, pending, is_pending}
use Rattle.model.specs.Boards.{channel_of}
use Rattle.model.specs.Effects.{Answered}
use Rattle.model.specs.Pools.{MatchRead, no_read, times_held, Call, Pool, read_match, steps, answer_to, quiet}
use Rattle.model.specs.Pools.{meets, sent_at, cents_matched, pool_cents}
use Rattle.model.specs.Demands.{board_after, pool_of, final_reads, HoldsOwn, pool_after, RunOf, QuietAt}
use Rattle.model.specs.Demands.{Demand3}
use Rattle.model.proofs.Tests.{never}
use Rattle.model.proofs.Lists.{every-nth}
use Rattle.model.proofs.AcceptedChords.{TableOk, table-ok}
use Rattle.model.proofs.Written.{ms}
use Rattle.model.proofs.Words.{answered-said}
use Rattle.model.proofs.Local.{Waits, StateOk}
use Rattle.model.proofs.Matches.{Unmatched}
use Rattle.model.proofs.Answering.{AnswerDue, has_reply, has_match, has_signal, will_consume, will_tell}
use Rattle.model.proofs.Invariant.{Inv}
use Rattle.model.proofs.Quiet.{consumed-matched, pending-unmatched, none-obliged, not-matched, not-signalled}
use Rattle.model.proofs.Quiet.{none-consumes, none-tell, pending-or}
use Rattle.model.proofs.Cents.{matched-reads, cents-same}
use Rattle.model.proofs.PoolMeets.{PoolOk, as_sent, count, meets-full, sent_of}
use Rattle.model.proofs.Schedule.{Reached, reached}
use Rattle.model.proofs.SoundKept.{sound-exactly}

-- a message that one match holds, and no other

held_none : (n : ℕ) (ms : List MatchRead)
    → ((k : ℕ) → k < length ms → is_in n (get_or ms k no_read).messages ≡ false) → times_held n ms ≡ 0
held_none n [] f = refl
held_none n (m ∷ ms) f = rw (f 0 (omega arith), held_none n ms (λ k l. f (suc k) (omega arith)))

held-once : (n : ℕ) (ms : List MatchRead) (k : ℕ) → k < length ms → is_in n (get_or ms k no_read).messages ≡ true
    → ((j : ℕ) → j < length ms → j ≢ k → is_in n (get_or ms j no_read).messages ≡ false) → times_held n ms ≡ 1
held-once n [] k l e f = absurd (omega arith)
held-once n (m ∷ ms) zero l e f = rw (e, held_none n ms (λ j q. f (suc j) (omega arith) (λ z. absurd (omega arith))))
held-once n (m ∷ ms) (suc k) l e f =
    rw (
      f 0 (omega arith) (λ z. absurd (omega arith)),
      held-once n ms k (omega arith) e
          (λ j q ne. f (suc j) (omega arith) (λ z. ne (omega arith))),
    )

module _ (t : Table) (rests : List ℕ) (cs : List Call) (tok : TableOk t) where
  abbrev b : Board
  b = board_after t rests cs

  abbrev p : Pool
  p = pool_of t rests cs

  append-nil' : (xs : List Call) → xs ≡ xs ++ []
  append-nil' [] = refl
  append-nil' (x ∷ xs) = ap (λ (ys : List Call). x ∷ ys) (append-nil' xs)

  here : Reached t rests cs cs
  here = reached t rests cs cs [] tok (append-nil' cs)

  v : Inv t b
  v = here.inv

  ok : PoolOk t b b p
  ok = here.pool

  abbrev reads : List MatchRead
  reads = final_reads t rests cs

  read_is : (k : ℕ) → get_or reads k no_read ≡ read_match t b (match_at b k)
  read_is k = get_or-map (read_match t b) b.matches k no_match

  -- a match that holds n is the only one
  only-held : (n k : ℕ) → k < length b.matches → is_in n (match_at b k).messages ≡ true → times_held n reads ≡ 1
  only-held n k l e =
      held-once n reads k (omega (arith, length-map b.matches (read_match t b)))
      (rw (read_is k) e)
      (λ j q ne. rw (read_is j) (not-held j (omega (arith, length-map b.matches (read_match t b))) ne))
    where
      not-held : (j : ℕ) → j < length b.matches → j ≢ k → is_in n (match_at b j).messages ≡ false
      not-held j q ne = go (is_in n (match_at b j).messages) refl
        where
          go : (u : Bool) → is_in n (match_at b j).messages ≡ u → is_in n (match_at b j).messages ≡ false
          go false z = z
          go true z = absurd (ne (v.matches.once n j k q l z e))

  -- a sender with a match of its own message, at a board on the way
  holds-own : (before rest : List Call) → cs ≡ before ++ rest → (i k : ℕ)
      → 1 ≤ (sender_at (board_after t rests before) i).own
      → Waits t (board_after t rests before) (sender_at (board_after t rests before) i).own
      → k < length (board_after t rests before).matches
      → is_in ((sender_at (board_after t rests before) i).own - 1) (match_at (board_after t rests before) k).messages ≡ true
      → HoldsOwn t (pool_after t rests reads before) reads i k
  holds-own before rest e i k some waits l m = record {
    message = n;
    own = sym (r.pool.owns i) ∙ is-own;
    sync = subst (λ (x : Sent). is_sync t x.channel ≡ true) (as_sent t b c _ r.pool n) waits;
    held = rw (read_is k) in-last;
    once = only-held n k (omega (arith, r.grows.matches_more)) in-last;
  }
    where
      c : Board
      c = board_after t rests before

      r : Reached t rests cs before
      r = reached t rests cs before rest tok e

      n : ℕ
      n = (sender_at (board_after t rests before) i).own - 1

      is-own : (sender_at (board_after t rests before) i).own ≡ suc ((sender_at (board_after t rests before) i).own - 1)
      is-own = omega arith

      in-last : is_in ((sender_at (board_after t rests before) i).own - 1) (match_at b k).messages ≡ true
      in-last = rw (r.grows.matches_same k l) m

  answered : (before rest : List Call) (i k : ℕ) → cs ≡ before ++ (steps i ∷ rest)
      → (answer_to t (board_after t rests before) (steps i)).said ≡ Answered k
      → HoldsOwn t (pool_after t rests reads before) reads i k
  answered before rest i k e q =
      let a = answered-said t (board_after t rests before) i k q in
      let w = (reached t rests cs before (steps i ∷ rest) tok e).inv in
      let s = subst (StateOk t (board_after t rests before) _ _ _) a.is_blocked (w.locals i).state_is in
      let m =
      w.notes.match ((sender_at (board_after t rests before) i).own - 1) a.is-consumed in
      let same : m.0 ≡ k = omega (arith, m.1, a.match_is) in
      holds-own before (steps i ∷ rest) e i k s.0 s.1 (omega (arith, m.2, same))
      (subst (λ (x : ℕ). is_in ((sender_at (board_after t rests before) i).own - 1)
      (match_at (board_after t rests before) x).messages ≡ true)
      same m.3)

  pub run_of : RunOf t rests cs
  run_of = record {
    all_sound = λ before rest e h. sound-exactly t rests before ∙ h;
    is_run = ok.good;
    no_more = length-map b.matches (read_match t b) ∙ sym ok.number;
    all_kept = sym (count t b b p ok);
    as_sent = as_sent t b b p ok;
    own_is = ok.owns;
    answered = answered;
    replied = λ before rest i k e z. let r = ((reached t rests cs before rest tok e).inv.locals i).reply_is k z in
        holds-own before rest e i k r.0 r.1 r.2 r.3;
  }

  module _ (q : quiet b ≡ true) where
    not-inside : (n : ℕ) → n < length b.messages → (message_at b n).status ≡ consumed → (u : Bool)
        → is_in n p.inside ≡ u → false ≡ u
    not-inside n l e false z = refl
    not-inside n l e true z = absurd (consumed-matched t b v q n l e (ok.inside_is n z).1)

    pending-is : (n : ℕ) → n < length b.messages
        → ((message_at b n).status ≡ pending) ⊎ ((message_at b n).status ≡ consumed)
        → is_pending (message_at b n).status ≡ is_in n p.inside
    pending-is n l (inl e) = ap is_pending e ∙ sym (ok.is_inside n l (pending-unmatched t b v q n e))
    pending-is n l (inr e) = ap is_pending e ∙ not-inside n l e (is_in n p.inside) refl

    none_met : (r : ℕ) (ns : List ℕ) → r < length t.chords → every (λ n. is_in n p.inside) ns ≡ true
        → (u : Bool) → meets (chord_at t r) (sent_at p.sent) ns ≡ u → u ≡ false
    none_met r ns l a false e = refl
    none_met r ns l a true e =
        absurd
        (none-obliged t b v q r ns (meets-full t b b p ok r ns l (λ j h. (in-it j h).0) e) (λ j h. (in-it j h).1))
      where
        in-it : (j : ℕ) → j < length ns → (get_or ns j 0 < length b.messages) × Unmatched b (get_or ns j 0)
        in-it j h = ok.inside_is _ (every-nth (λ n. is_in n p.inside) ns 0 a j h)

    -- a sender whose message is matched has its reply
    has-answer : (i n : ℕ) → AnswerDue t b i n → 1 ≤ (sender_at b i).reply
    has-answer i n (has_reply e x) = x
    has-answer i n (has_match e x) = absurd (not-matched t b v q i e x)
    has-answer i n (has_signal e x c) = absurd (not-signalled t b v q i e x)
    has-answer i n (will_consume e x) = absurd (none-consumes t b v q _ i x)
    has-answer i n (will_tell e j x) = absurd (none-tell t b v q _ j x)

    waits_if : (i n : ℕ) → (sender_at b i).own ≡ suc n → n < length b.messages → is_sync t (channel_of b n) ≡ true
        → ((message_at b n).status ≡ pending) ⊎ ((message_at b n).status ≡ consumed)
        → (k : ℕ) → (sender_at b i).reply ≡ k → eqb k 0 ≡ is_in n p.inside
    waits_if i n o l w (inl e) zero z = sym (ok.is_inside n l (pending-unmatched t b v q n e))
    waits_if i n o l w (inl e) (suc k) z =
        let r = (v.locals i).reply_is k z in
        let same : (sender_at b i).own - 1 ≡ n = omega (arith, o) in
        never (sym (pending-unmatched t b v q n e k r.2)
        ∙ ap (λ (x : ℕ). is_in x (match_at b k).messages) (sym same)
        ∙ r.3)
    waits_if i n o l w (inr e) zero z =
        let r = v.notes.match n e in
        absurd (omega (arith, z, has-answer i n (v.answering i n r.0 o w r.2 r.3)))
    waits_if i n o l w (inr e) (suc k) z =
        ne_eqb (suc k) 0 (λ y. omega arith) ∙ not-inside n l e (is_in n p.inside) refl

    pub quiet_at : QuietAt t rests cs
    quiet_at = record {
      pending = λ n l. pending-is n l (pending-or t b v q n);
      none_met = λ r ns l a. none_met r ns l a _ refl;
      waits = λ i n o w. let own : (sender_at b i).own ≡ suc n = ok.owns i ∙ o in
          waits_if i n own (omega (arith, own, (v.locals i).own_in))
          (subst⁻¹ (λ (x : Sent). is_sync t x.channel ≡ true) (as_sent t b b p ok n) w) (pending-or t b v q n) _ refl;
      cents = ok.total
          ∙ ap (λ (z : ℤ). z +ℤ pool_cents t (sent_of b) p.inside) (sym (matched-reads t b b.matches))
          ∙ ap (λ (z : ℤ). cents_matched reads +ℤ z)
          (cents-same t (sent_of b) (sent_at p.sent) p.inside (λ j l. as_sent t b b p ok _));
    }

pub demand-3 : Demand3
demand-3 = record {
  runs = λ s rests cs e. run_of (table_of s) rests cs (table-ok s e);
  quietly = λ s rests cs e q. quiet_at (table_of s) rests cs (table-ok s e) q;
}
