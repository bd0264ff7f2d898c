-- A close alters nothing that the invariant or the pool speak about.
use mathlib.Core.Path.{◌≡◌, refl}
use mathlib.Core.List.{List}
use Prim.Native.Nat.{ℕ, suc, ◌≤◌}
use borrow.Author.Tests.{leb-true}
use lib.Dec.{leb}
use native.Mathlib.Omega.{arith}
use Rattle.model.specs.Tables.{Table}
use Rattle.model.specs.Boards.{Board, sender_at, State, idle, working, blocked, Job, Phase, look, claim, revert}
use Rattle.model.specs.Boards.{consume, tell, wake, free, signal, pass_end, backoff}
use Rattle.model.specs.Closes.{close_refusal, closed_to}
use Rattle.model.specs.Pools.{Pool}
use Rattle.model.proofs.Tests.{unless-none}
use Rattle.model.proofs.Grows.{Grows}
use Rattle.model.proofs.Local.{sender-on}
use Rattle.model.proofs.Obligation.{Obligation, Obliged, by_subject, by_waker, by_woken, by_noted}
use Rattle.model.proofs.Answering.{AnswerDue, has_reply, has_match, has_signal, will_consume}
use Rattle.model.proofs.Answering.{will_tell, WillTell, WillTellAt}
use Rattle.model.proofs.Invariant.{Inv}
use Rattle.model.proofs.PoolMeets.{PoolOk}

pub close-accepted : (b : Board) (day : ℕ) → close_refusal b day ≡ 0 → b.closed ≤ suc day
unfolding close_refusal
close-accepted b day e = leb-true _ _ (unless-none (leb b.closed (suc day)) 19 0 e).0

pub closed-grows : (b : Board) (day : ℕ) → Grows b (closed_to b day)
closed-grows b day = record {
  messages_more = omega arith;
  kept = λ n h. record { sent = refl; channel = refl };
  stays_consumed = λ n h e. (e, refl);
  matches_more = omega arith;
  matches_same = λ k h. refl;
}

module _ (t : Table) (b : Board) (day : ℕ) (v : Inv t b) where
  abbrev b' : Board
  b' = closed_to b day

  obliged-on : (q : ℕ) (ns : List ℕ) → Obliged t b q ns → Obliged t b' q ns
  obliged-on q ns (by_subject i w s n c) = by_subject i w s n c
  obliged-on q ns (by_waker i w x s o k n) = by_waker i w x s o k n
  obliged-on q ns (by_woken n i s) = by_woken n i s
  obliged-on q ns (by_noted n x s k i) = by_noted n x s k i

  obligation : Obligation t b'
  obligation q ns m u = obliged-on q ns (v.obligation q ns (record {
    chord-in = m.chord-in;
    inside = m.inside;
    all = m.all;
    kinds = m.kinds;
    props = m.props;
    one = m.one;
  }) u)

  tells_at : (w : Job) (n : ℕ) (p : Phase) → WillTellAt t b w n p → WillTellAt t b' w n p
  tells_at w n (look k) x = x
  tells_at w n (claim k) x = x
  tells_at w n (revert k m) x = x
  tells_at w n (consume k m) x = x
  tells_at w n (tell k) x = x
  tells_at w n wake x = x
  tells_at w n (free k) x = x
  tells_at w n signal x = x
  tells_at w n pass_end x = x
  tells_at w n (backoff rests) x = x

  tells_on : (s : State) (n : ℕ) → WillTell t b s n → WillTell t b' s n
  tells_on idle n x = x
  tells_on (working w) n x = tells_at w n w.phase x
  tells_on blocked n x = x

  due-on : (i n : ℕ) → AnswerDue t b i n → AnswerDue t b' i n
  due-on i n (has_reply s r) = has_reply s r
  due-on i n (has_match s m) = has_match s m
  due-on i n (has_signal s g e) = has_signal s g e
  due-on i n (will_consume s w) = will_consume s w
  due-on i n (will_tell s j w) = will_tell s j (tells_on (sender_at b j).state n w)

  pub closed-inv : Inv t b'
  closed-inv = record {
    senders = v.senders;
    locals = λ i. sender-on t b b' (closed-grows b day) (sender_at b i) (v.locals i);
    notes = record { waker_is = v.notes.waker_is; match = v.notes.match; woken_is = v.notes.woken_is };
    holding = record {
      claimed_is = v.holding.claimed_is;
      one_holder = v.holding.one_holder;
      has_holder = v.holding.has_holder;
    };
    matches = record { taken = v.matches.taken; once = v.matches.once; on_board = v.matches.on_board };
    owners = record {
      own_one = v.owners.own_one;
      owned = v.owners.owned;
      signal_due = v.owners.signal_due;
    };
    obligation = obligation;
    answering = λ i n k o s l m. due-on i n (v.answering i n k o s l m);
    shares = v.shares;
  }

pub closed-pool : (t : Table) (last b : Board) (p : Pool) (day : ℕ) → PoolOk t last b p
    → PoolOk t last (closed_to b day) p
closed-pool t last b p day ok = record {
  sents = ok.sents;
  own_count = ok.own_count;
  owns = ok.owns;
  inside_is = ok.inside_is;
  is_inside = ok.is_inside;
  number = ok.number;
  good = ok.good;
  once_in = ok.once_in;
  total = ok.total;
}
