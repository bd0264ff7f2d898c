-- What a call leaves as it was, for every table and every board: a step alters one message, its sender and signals, and
-- records one match, at most; an add alters its sender with its tally, and no message that was there; a close alters
-- the close day; a refusal alters nothing.
use mathlib.Core.Path.{◌≡◌, refl, ap, sym, subst, subst⁻¹, ◌∙◌}
use mathlib.Core.Logic.{◌≢◌}
use mathlib.Core.Bool.{false}
use mathlib.Core.List.{List, [], ◌∷◌, ◌++◌, append-nil}
use Prim.Native.Nat.{ℕ, ◌≤◌, zero, suc}
use lib.Dec.{eqb}
use lib.ListN.{get_or, set, length, get_or-map}
use lib.Seq.{get_or-set_other}
use native.Mathlib.Omega.{arith}
use Rattle.model.specs.Tables.{Table}
use Rattle.model.specs.Boards.{Match, Message, no_message, Sender, idle_sender, Board, Sent, no_sent, sender_at}
use Rattle.model.specs.Effects.{Change, none, turn, records, signals, messages_after, matches_after, senders_after}
use Rattle.model.specs.Effects.{Effect, apply, refused, Outcome, does, Said, word_of, Refused}
use Rattle.model.specs.Steps.{step_by}
use Rattle.model.specs.Adds.{added, add_refusal, new_message}
use Rattle.model.specs.Closes.{close_refusal}
use Rattle.model.specs.Pools.{answer_to, steps, step_answer, adds, add_answer, closes, close_answer, Call, after_all}
use Rattle.model.specs.Demands.{SameButSignal, StepFrame, AddFrame, CloseFrame, Frame}
use Rattle.model.proofs.Tests.{never}
use Rattle.model.proofs.Written.{t, ms}
use Rattle.model.proofs.Words.{step-speaks, OutcomeSpeaks}
use Rattle.model.proofs.Frame.{senders-each, like, sents-after, messages-count, unaltered}
use Rattle.model.proofs.Closes.{close-accepted}

-- the message that a change turns, 0 for none, and the matches that it records
touched : Change → ℕ
touched none = 0
touched (turn n τ) = n
touched (records n m) = n
touched (signals n) = 0

new_matches : Change → List Match
new_matches none = []
new_matches (turn n τ) = []
new_matches (records n m) = m ∷ []
new_matches (signals n) = []

other_messages : (c : Change) (is : List Message) (n : ℕ)
    → n ≢ touched c
    → get_or (messages_after c is) n no_message ≡ get_or is n no_message
unfolding touched messages_after
other_messages none is n ne = refl
other_messages (turn k τ) is n ne = get_or-set_other is k n _ no_message ne
other_messages (records k m) is n ne = get_or-set_other is k n _ no_message ne
other_messages (signals k) is n ne = refl

matches-appended : (c : Change) (ms : List Match) → matches_after c ms ≡ ms ++ new_matches c
unfolding matches_after new_matches
matches-appended none ms = sym (append-nil ms)
matches-appended (turn n τ) ms = sym (append-nil ms)
matches-appended (records n m) ms = refl
matches-appended (signals n) ms = sym (append-nil ms)

one-match : (c : Change) → length (new_matches c) ≤ 1
unfolding new_matches
one-match none = omega arith
one-match (turn n τ) = omega arith
one-match (records n m) = omega arith
one-match (signals n) = omega arith

pub but-signals : (c : Change) (ds : List Sender) (j : ℕ)
    → SameButSignal (get_or ds j idle_sender) (get_or (senders_after c ds) j idle_sender)
but-signals c ds j = subst⁻¹ (SameButSignal (get_or ds j idle_sender)) (senders-each c ds j) (like c _)

step-applied : (b : Board) (i : ℕ) (e : Effect) → StepFrame b (apply b i e) i
unfolding apply
step-applied b i e = record {
  message = touched e.change;
  other_messages = other_messages e.change b.messages;
  as_sent = λ n. sym (get_or-map (λ (x : Message). x.sent) (apply b i e).messages n no_message)
      ∙ ap (λ (xs : List Sent). get_or xs n no_sent) (sents-after b i e)
      ∙ get_or-map (λ (x : Message). x.sent) b.messages n no_message;
  count = messages-count b i e;
  recorded = new_matches e.change;
  matches = matches-appended e.change b.matches;
  at_most_one = one-match e.change;
  other_senders = λ j ne. subst (λ (d : Sender). SameButSignal d (sender_at (apply b i e) j))
      (get_or-set_other b.senders i j e.sender idle_sender ne)
      (but-signals e.change (set b.senders i e.sender) j);
  backoffs = refl;
  closed = refl;
  tallies = refl;
}

step-refused : (b : Board) (i : ℕ) → StepFrame b b i
step-refused b i = record {
  message = 0;
  other_messages = λ n ne. refl;
  as_sent = λ n. refl;
  count = refl;
  recorded = [];
  matches = sym (append-nil b.matches);
  at_most_one = omega arith;
  other_senders = λ j ne. unaltered _;
  backoffs = refl;
  closed = refl;
  tallies = refl;
}

step-frame : (t : Table) (b : Board) (i : ℕ) → StepFrame b (answer_to t b (steps i)).board i
step-frame t b i = go (step_by t b i)
  where
    go : (o : Outcome) → StepFrame b (step_answer b i o).board i
    go (refused f) = step-refused b i
    go (does e) = step-applied b i e

add-frame : (t : Table) (b : Board) (i : ℕ) (x : Sent) → AddFrame b (answer_to t b (adds i x)).board i
unfolding added
add-frame t b i x = go (add_refusal t b i x)
  where
    go : (f : ℕ) → AddFrame b (add_answer t b i x f).board i
    go zero = record {
      appended = new_message x ∷ [];
      messages = refl;
      at_most_one = omega arith;
      matches = refl;
      other_senders = λ j ne. get_or-set_other b.senders i j _ idle_sender ne;
      backoffs = refl;
      closed = refl;
      other_tallies = λ j ne. get_or-set_other b.tallies i j _ 0 ne;
    }
    go (suc f) = record {
      appended = [];
      messages = sym (append-nil b.messages);
      at_most_one = omega arith;
      matches = refl;
      other_senders = λ j ne. refl;
      backoffs = refl;
      closed = refl;
      other_tallies = λ j ne. refl;
    }

close-frame : (t : Table) (b : Board) (day : ℕ) → CloseFrame b (answer_to t b (closes day)).board
close-frame t b day = go (close_refusal b day) refl
  where
    go : (f : ℕ) → close_refusal b day ≡ f → CloseFrame b (close_answer b day f).board
    go zero e = record {
      messages = refl;
      matches = refl;
      senders = refl;
      backoffs = refl;
      closed = close-accepted b day e;
      tallies = refl;
    }
    go (suc f) e = record {
      messages = refl;
      matches = refl;
      senders = refl;
      backoffs = refl;
      closed = omega arith;
      tallies = refl;
    }

not-refused : (a : Said) (f : ℕ) → eqb (word_of a) 17 ≡ false → a ≢ Refused f
not-refused a f e q = never (sym e ∙ ap (λ (x : Said). eqb (word_of x) 17) q)

refusal-keeps : (t : Table) (b : Board) (c : Call) (f : ℕ)
    → (answer_to t b c).said ≡ Refused f
    → (answer_to t b c).board ≡ b
refusal-keeps t b (adds i x) f = go (add_refusal t b i x)
  where
    go : (n : ℕ) → (add_answer t b i x n).said ≡ Refused f → (add_answer t b i x n).board ≡ b
    go zero q = absurd (not-refused _ f refl q)
    go (suc n) q = refl
refusal-keeps t b (steps i) f = go (step_by t b i) (step-speaks t b i)
  where
    go : (o : Outcome) → OutcomeSpeaks o → (step_answer b i o).said ≡ Refused f → (step_answer b i o).board ≡ b
    go (refused n) a q = refl
    go (does e) a q = absurd (not-refused _ f a.unrefused q)
refusal-keeps t b (closes day) f = go (close_refusal b day)
  where
    go : (n : ℕ) → (close_answer b day n).said ≡ Refused f → (close_answer b day n).board ≡ b
    go zero q = absurd (not-refused _ f refl q)
    go (suc n) q = refl

pub frame : Frame
frame = record { step = step-frame; add = add-frame; close = close-frame; refusal = refusal-keeps }

-- so no call alters the backoff table
pub call-rests : (t : Table) (b : Board) (c : Call) → (answer_to t b c).board.backoffs ≡ b.backoffs
call-rests t b (adds i x) = (frame.add t b i x).backoffs
call-rests t b (steps i) = (frame.step t b i).backoffs
call-rests t b (closes day) = (frame.close t b day).backoffs

pub all-rests : (t : Table) (cs : List Call) (b : Board) → (after_all t b cs).backoffs ≡ b.backoffs
all-rests t [] b = refl
all-rests t (c ∷ cs) b = all-rests t cs (answer_to t b c).board ∙ call-rests t b c
