-- The model refuses a call by 26 at most, an add by its first ground.
use mathlib.Core.Path.{◌≡◌, refl}
use mathlib.Core.Bool.{Bool, true, false}
use Prim.Native.Nat.{ℕ, zero, suc, ◌≤◌, ◌<◌}
use native.Mathlib.Omega.{arith}
use borrow.Author.Tests.{le-leb, lt-leb, le-ltb, lt-ltb}
use lib.Dec.{eqb, leb, ltb}
use lib.IntN.{ℤ, pos, negsuc, nat_abs}
use lib.ListN.{length}
use Rattle.model.specs.Basics.{unless}
use Rattle.model.specs.Tables.{Table}
use Rattle.model.specs.Boards.{Board, Sent, State, idle, working, blocked, sender_at, is_idle}
use Rattle.model.specs.Effects.{Said, Outcome, refused, does, number_of, word_of}
use Rattle.model.specs.Effects.{Item, Looked, Claimed, Lost, Reverted, Matched, Consumed, Told, Woke, Freed}
use Rattle.model.specs.Effects.{Signalled, Answered, Refused, Missed, Again, Ended, Rested, Resumed, Closed}
use Rattle.model.specs.Shares.{has_room}
use Rattle.model.specs.Adds.{add_refusal, cents_ok, day_open}
use Rattle.model.specs.Closes.{close_refusal}
use Rattle.model.specs.Steps.{step_by, state_step, sender_step, blocked_step}
use Rattle.model.specs.Pools.{Call, adds, steps, closes, answer_to, add_answer, step_answer, close_answer}
use Rattle.model.specs.Orders.{AddOrder}
use Rattle.model.proofs.Tests.{tests}
use Rattle.model.proofs.Shares.{no_room, is-room}
use Rattle.model.proofs.Words.{OutcomeSpeaks, step-speaks}

-- a word that is no refusal has no number
pub no_number : (x : Said) → eqb (word_of x) 17 ≡ false → number_of x ≡ 0
no_number (Item n) e = refl
no_number (Looked n) e = refl
no_number Missed e = refl
no_number (Claimed n) e = refl
no_number (Lost n) e = refl
no_number (Reverted n) e = refl
no_number (Matched k) e = refl
no_number (Consumed n) e = refl
no_number (Told n) e = refl
no_number (Woke n) e = refl
no_number (Freed n) e = refl
no_number (Signalled n) e = refl
no_number Again e = refl
no_number Ended e = refl
no_number Rested e = refl
no_number (Answered k) e = refl
no_number Resumed e = refl
no_number Closed e = refl
no_number (Refused f) e = absurd (omega tests)

unless-few : (u : Bool) (n next : ℕ) → n ≤ 26 → next ≤ 26 → unless u n next ≤ 26
unless-few true n next l m = m
unless-few false n next l m = l

add-few : (t : Table) (b : Board) (i : ℕ) (x : Sent) → add_refusal t b i x ≤ 26
unfolding add_refusal
add-few t b i x =
    unless-few (ltb i 32) 8 _ (omega arith)
    (unless-few (is_idle (sender_at b i).state) 9 _ (omega arith)
    (unless-few (ltb x.channel (length t.kinds)) 10 _ (omega arith)
    (unless-few (day_open b x.day) 19 _ (omega arith)
    (unless-few (cents_ok x.cents) 11 _ (omega arith)
    (unless-few (has_room b.tallies i) 26 0 (omega arith) (omega arith))))))

close-few : (b : Board) (day : ℕ) → close_refusal b day ≤ 26
unfolding close_refusal
close-few b day = unless-few (leb b.closed (suc day)) 20 0 (omega arith) (omega arith)

cents-in : (z : ℤ) → nat_abs z ≤ 999_999_999_999 → cents_ok z ≡ true
cents-in (pos a) l = le-leb a 999_999_999_999 l
cents-in (negsuc a) l = lt-ltb a 999_999_999_999 l

cents-over : (z : ℤ) → 999_999_999_999 < nat_abs z → cents_ok z ≡ false
cents-over (pos a) l = lt-leb a 999_999_999_999 l
cents-over (negsuc a) l = le-ltb a 999_999_999_999 (omega arith)

pub add-order : (t : Table) (b : Board) (i : ℕ) (x : Sent) → AddOrder t b i x
unfolding add_refusal
add-order t b i x = record {
  no_sender = λ h. rw (le-ltb i 32 h);
  not_idle = λ h s. rw (lt-ltb i 32 h, s);
  no_channel = λ h s k. rw (lt-ltb i 32 h, s, le-ltb x.channel (length t.kinds) k);
  day_closed = λ h s k d. rw (
    lt-ltb i 32 h,
    s,
    lt-ltb x.channel (length t.kinds) k,
    lt-leb b.closed x.day d,
  );
  cents_out = λ h s k d c. rw (
    lt-ltb i 32 h,
    s,
    lt-ltb x.channel (length t.kinds) k,
    le-leb b.closed x.day d,
    cents-over x.cents c,
  );
  no_room = λ h s k d c m n. rw (
    lt-ltb i 32 h,
    s,
    lt-ltb x.channel (length t.kinds) k,
    le-leb b.closed x.day d,
    cents-in x.cents c,
    no_room b.tallies i m n,
  );
  accepted = λ h s k d c n. rw (
    lt-ltb i 32 h,
    s,
    lt-ltb x.channel (length t.kinds) k,
    le-leb b.closed x.day d,
    cents-in x.cents c,
    is-room b.tallies i n,
  );
}

abbrev Few : Outcome → Type 0
Few (refused f) = f ≤ 26
Few (does e) = Unit {0}

step-few : (t : Table) (b : Board) (i : ℕ) → Few (step_by t b i)
unfolding step_by
step-few t b i = at (leb 32 i)
  where
    by-signal : (g : Bool) → Few (blocked_step t b (sender_at b i) g)
    by-signal false = omega arith
    by-signal true = tt

    by : (x : State) → Few (state_step t b (sender_at b i) x)
    by idle = omega arith
    by (working w) = tt
    by blocked = by-signal (sender_at b i).signalled

    at : (u : Bool) → Few (sender_step t b i u)
    at true = omega arith
    at false = by (sender_at b i).state

pub answer-few : (t : Table) (b : Board) (k : Call) → number_of (answer_to t b k).said ≤ 26
answer-few t b (adds i x) = by (add_refusal t b i x) (add-few t b i x)
  where
    by : (n : ℕ) → n ≤ 26 → number_of (add_answer t b i x n).said ≤ 26
    by zero l = omega arith
    by (suc f) l = l
answer-few t b (steps i) = by (step_by t b i) (step-few t b i) (step-speaks t b i)
  where
    by : (o : Outcome) → Few o → OutcomeSpeaks o → number_of (step_answer b i o).said ≤ 26
    by (refused f) l s = l
    by (does e) l s = omega (arith, no_number e.said s.unrefused)
answer-few t b (closes day) = by (close_refusal b day) (close-few b day)
  where
    by : (n : ℕ) → n ≤ 26 → number_of (close_answer b day n).said ≤ 26
    by zero l = omega arith
    by (suc f) l = l
