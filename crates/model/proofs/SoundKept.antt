-- A sound board stays sound whatever is called, also one that no schedule reaches; a step's change is in range. An
-- add's own message is new, so no other sender owns it. From the empty board on, every board is sound exactly if the
-- backoff table passes that it was opened with.
use mathlib.Core.Path.{◌≡◌, refl, subst, ap, subst⁻¹, ◌∙◌, sym}
use mathlib.Core.Logic.{inl, ◌⊎◌, ◌≢◌, inr}
use mathlib.Core.Bool.{false, Bool, true}
use mathlib.Core.List.{List, [], ◌∷◌}
use Prim.Native.Nat.{ℕ, ◌<◌, ◌-◌, suc, ◌≤◌, zero}
use lib.Dec.{leb}
use lib.ListN.{length, length-set}
use native.Mathlib.Omega.{arith}
use Rattle.model.specs.Tables.{Table}
use Rattle.model.specs.Boards.{Board, is_idle, sender_at, Sender, Status, pending, blocked, claimed, woken}
use Rattle.model.specs.Boards.{consumed, idle, State, message_at, working, Sent, Message, no_message, empty_board}
use Rattle.model.specs.Boards.{backoffs_pass}
use Rattle.model.specs.Effects.{Outcome, refused, does, Effect}
use Rattle.model.specs.Steps.{resumed, resume_by, blocked_step, resume_step, state_step, sender_step, step_by}
use Rattle.model.specs.Shares.{has_room}
use Rattle.model.specs.Adds.{cents_ok, added, new_message, new_sender, add_refusal}
use Rattle.model.specs.Closes.{close_refusal, closed_to}
use Rattle.model.specs.Sound.{sound}
use Rattle.model.specs.Pools.{step_answer, add_answer, close_answer, adds, steps, closes, Call, answer_to, after_all}
use Rattle.model.specs.Demands.{SoundKept, board_after}
use Rattle.model.proofs.Tests.{tests, same?, never}
use Rattle.model.proofs.Lists.{snoc-all}
use Rattle.model.proofs.Shares.{Shares, shares-fit, none-added}
use Rattle.model.proofs.Grows.{apart}
use Rattle.model.proofs.Adds.{messages-now, matches-now, old-message, sender-now, sender-old, add-accepted}
use Rattle.model.proofs.Adds.{shares-now}
use Rattle.model.proofs.Schedule.{all-idle}
use Rattle.model.proofs.StepFrame.{call-rests, all-rests}
use Rattle.model.proofs.SoundFacts.{SoundBoard, SenderFacts, StateFacts, facts-sound, sound-facts, sound-rests}
use Rattle.model.proofs.SoundFacts.{MessageFacts, Apart}
use Rattle.model.proofs.SoundFrame.{StepFacts, owes, step_kept, InRange, Wider, sender-wider}
use Rattle.model.proofs.SoundFrame.{message-wider, match-wider}
use Rattle.model.proofs.SoundJobs.{passes, in-state, goes-idle, job-facts}

abbrev pub OutcomeFacts : Table → Board → ℕ → Outcome → Type 0
OutcomeFacts t b i (refused f) = Unit {0}
OutcomeFacts t b i (does e) = (i < 32) × (is_idle (sender_at b i).state ≡ false) × StepFacts t b i e

module _ (t : Table) (b : Board) (i : ℕ) (s : SoundBoard t b) where
  abbrev d : Sender
  d = sender_at b i

  f : SenderFacts t b d
  f = s.sender-at i

  module _ (n : ℕ) (e : suc n ≡ d.own) where
    l : n < length b.messages
    l = omega (arith, f.own_in)

    resumed-facts : SenderFacts t b (resumed t b d n)
    resumed-facts = record {
      own_in = f.own_in;
      waker_in = (s.message-at n l).waker_in;
      reply_in = f.reply_in;
      matched-in = f.matched-in;
      state_is = (omega arith, passes n l (inl e) 0 0 false);
    }

    resumes-so : (x : Status) → StepFacts t b i (resume_by t b d n x)
    resumes-so pending = owes tt (in-state f blocked false (omega arith))
    resumes-so claimed = owes tt (in-state f blocked false (omega arith))
    resumes-so woken = owes (l, tt) (resumed-facts, refl)
    resumes-so consumed = owes tt (goes-idle f _ (s.message-at n l).match-in)

  by-signal : i < 32 → d.state ≡ blocked → (g : Bool) → OutcomeFacts t b i (blocked_step t b d g)
  unfolding resume_step
  by-signal l e true =
      let o : 1 ≤ d.own = subst (StateFacts t b d.own d.waker) e f.state_is in
      (l, ap is_idle e, resumes-so (d.own - 1) (omega arith) (message_at b (d.own - 1)).status)
  by-signal l e false = tt

  by_state : i < 32 → (x : State) → d.state ≡ x → OutcomeFacts t b i (state_step t b d x)
  by_state l idle e = tt
  by_state l (working w) e =
      let q = subst (StateFacts t b d.own d.waker) e f.state_is in
      (l, ap is_idle e, job-facts t b i w w.phase (record { facts = f; some = q.0; job = q.1 }))
  by_state l blocked e = by-signal l e d.signalled

  by_number : (u : Bool) → leb 32 i ≡ u → OutcomeFacts t b i (sender_step t b i u)
  by_number true e = tt
  by_number false e = by_state (omega tests) d.state refl

  pub step-facts : OutcomeFacts t b i (step_by t b i)
  unfolding step_by
  step-facts = by_number (leb 32 i) refl

  outcome-kept : (o : Outcome) → OutcomeFacts t b i o → SoundBoard t (step_answer b i o).board
  outcome-kept (refused n) q = s
  outcome-kept (does e) q = step_kept s q.0 q.1 q.2

pub step-in-range : (t : Table) (b : Board) (i : ℕ) (e : Effect) → sound t b ≡ true → step_by t b i ≡ does e
    → InRange t b e.change
step-in-range t b i e s q = (subst (OutcomeFacts t b i) q (step-facts t b i (sound-facts t b s))).2.in-range

-- an accepted add
module _ (t : Table) (b : Board) (i : ℕ) (x : Sent) (s : SoundBoard t b) (l : i < 32)
    (channel-in : x.channel < length t.kinds) (cents-in : cents_ok x.cents ≡ true)
    (room : has_room b.tallies i ≡ true) where
  abbrev b' : Board
  b' = added t b i x

  g : Wider b b'
  g = record {
    messages_more = omega (arith, messages-now t b i x);
    matches_more = omega (arith, ap length (matches-now t b i x));
    kept = λ n m. ap (λ (y : Message). y.sent.channel) (old-message t b i x n m);
  }

  message-new : MessageFacts t b' (new_message x)
  message-new = record {
    channel-in = channel-in;
    cents-in = cents-in;
    match-in = omega arith;
    waker_in = omega arith;
    woken_by = λ e. absurd (apart refl e);
    consumed_in = λ e. absurd (apart refl e);
  }

  sender-new : SenderFacts t b' (new_sender t b'.messages (length b.messages))
  sender-new = let l = messages-now t b i x in record {
    own_in = omega arith;
    waker_in = omega arith;
    reply_in = omega arith;
    matched-in = omega arith;
    state_is = (omega arith, passes (length b.messages) (omega arith) (inl refl) 0 0 false);
  }

  -- the sender that adds owns the new message, every other what it owned
  abbrev Now : ℕ → Type 0
  Now j = SenderFacts t b' (sender_at b' j) × ((sender_at b' j).own ≡ suc (length b.messages))

  now : Now i
  now =
      subst⁻¹ (λ (c : Sender). SenderFacts t b' c × (c.own ≡ suc (length b.messages)))
      (sender-now t b i x (omega (arith, s.senders_all))) (sender-new, refl)

  senders-so : (j : ℕ) → SenderFacts t b' (sender_at b' j)
  senders-so j = go (same? j i)
    where
      go : (j ≡ i) ⊎ (j ≢ i) → SenderFacts t b' (sender_at b' j)
      go (inl e) = (subst⁻¹ Now e now).0
      go (inr e) = subst⁻¹ (SenderFacts t b') (sender-old t b i x j e) (sender-wider t g (s.sender-at j))

  apart-so : Apart b'.senders
  apart-so j k ne p q = go (same? j i) (same? k i)
    where
      old : (j : ℕ) → j ≢ i → ((sender_at b' j).own ≡ (sender_at b j).own)
          × (is_idle (sender_at b' j).state ≡ false → is_idle (sender_at b j).state ≡ false)
      old j e =
          subst⁻¹ (λ (c : Sender). (c.own ≡ (sender_at b j).own)
          × (is_idle c.state ≡ false → is_idle (sender_at b j).state ≡ false)) (sender-old t b i x j e) (refl, λ z. z)

      go : (j ≡ i) ⊎ (j ≢ i) → (k ≡ i) ⊎ (k ≢ i) → (sender_at b' j).own ≢ (sender_at b' k).own
      go (inl y) (inl z) = absurd (ne (y ∙ sym z))
      go (inl y) (inr z) = λ e. omega (arith, (subst⁻¹ Now y now).1, (old k z).0, (s.sender-at k).own_in)
      go (inr y) (inl z) = λ e. omega (arith, (subst⁻¹ Now z now).1, (old j y).0, (s.sender-at j).own_in)
      go (inr y) (inr z) =
          λ e. s.own_apart j k ne ((old j y).1 p) ((old k z).1 q) (sym (old j y).0 ∙ e ∙ (old k z).0)

  shares-so : Shares b'.tallies (length b'.messages)
  shares-so = shares-now t b i x s.shares l room

  added-kept : SoundBoard t b'
  unfolding added
  added-kept = record {
    senders_all = length-set b.senders i _ ∙ s.senders_all;
    messages_few = shares-fit shares-so;
    matches_few = s.matches_few;
    message-at =
        snoc-all (λ n. MessageFacts t b') b.messages (new_message x) no_message
        (λ n m. message-wider t g (s.message-at n m)) message-new;
    match-at = λ k m. match-wider t g (s.match-at k m);
    sender-at = senders-so;
    own_apart = apart-so;
    shares = shares-so;
  }

add_kept : (t : Table) (b : Board) (i : ℕ) (x : Sent) → SoundBoard t b → (f : ℕ) → add_refusal t b i x ≡ f
    → SoundBoard t (add_answer t b i x f).board
add_kept t b i x s zero e =
    let a = add-accepted t b i x e in added-kept t b i x s a.0 a.2 a.3 a.4
add_kept t b i x s (suc f) e = s

close-kept : (t : Table) (b : Board) (day : ℕ) → SoundBoard t b → (f : ℕ) → SoundBoard t (close_answer b day f).board
close-kept t b day s zero = record {
  senders_all = s.senders_all;
  messages_few = s.messages_few;
  matches_few = s.matches_few;
  message-at = λ n m. message-wider t g (s.message-at n m);
  match-at = λ k m. match-wider t g (s.match-at k m);
  sender-at = λ j. sender-wider t g (s.sender-at j);
  own_apart = s.own_apart;
  shares = s.shares;
}
  where
    g : Wider b (closed_to b day)
    g = record { messages_more = omega arith; matches_more = omega arith; kept = λ n m. refl }
close-kept t b day s (suc f) = s

pub call_kept : (t : Table) (b : Board) (c : Call) → SoundBoard t b → SoundBoard t (answer_to t b c).board
call_kept t b (adds i x) s = add_kept t b i x s (add_refusal t b i x) refl
call_kept t b (steps i) s = outcome-kept t b i s (step_by t b i) (step-facts t b i s)
call_kept t b (closes day) s = close-kept t b day s (close_refusal b day)

pub all_kept : (t : Table) (cs : List Call) (b : Board) → SoundBoard t b → SoundBoard t (after_all t b cs)
all_kept t [] b s = s
all_kept t (c ∷ cs) b s = all_kept t cs (answer_to t b c).board (call_kept t b c s)

pub call-sound : SoundKept
call-sound t b c e =
    facts-sound (call_kept t b c (sound-facts t b e)) ∙ ap backoffs_pass (call-rests t b c) ∙ sound-rests t b e

-- from the empty board on
pub empty-facts : (t : Table) (rests : List ℕ) → SoundBoard t (empty_board rests)
empty-facts t rests = record {
  senders_all = refl;
  messages_few = omega arith;
  matches_few = omega arith;
  message-at = λ n l. absurd (omega arith);
  match-at = λ k l. absurd (omega arith);
  sender-at = λ i. subst⁻¹ (SenderFacts t (empty_board rests)) (all-idle rests i) (record {
    own_in = omega arith;
    waker_in = omega arith;
    reply_in = omega arith;
    matched-in = omega arith;
    state_is = tt;
  });
  own_apart = λ i j ne p. never (sym (sym (ap (λ (d : Sender). is_idle d.state) (all-idle rests i)) ∙ p));
  shares = none-added;
}

pub after-facts : (t : Table) (rests : List ℕ) (cs : List Call) → SoundBoard t (board_after t rests cs)
after-facts t rests cs = all_kept t cs (empty_board rests) (empty-facts t rests)

pub sound-exactly : (t : Table) (rests : List ℕ) (cs : List Call) → sound t (board_after t rests cs) ≡ backoffs_pass rests
sound-exactly t rests cs =
    facts-sound (after-facts t rests cs) ∙ ap backoffs_pass (all-rests t cs (empty_board rests))
