-- An add is a passage that pays: the new message is pending, its sender begins a job on it, and that job looks at
-- every chord.
use mathlib.Core.Path.{◌≡◌, ap, ◌∙◌, refl, subst, subst⁻¹, sym}
use mathlib.Core.Logic.{◌≢◌, ◌⊎◌, inl, inr}
use mathlib.Core.Bool.{Bool, true, false}
use mathlib.Core.List.{◌∷◌, [], List}
use Prim.Native.Nat.{ℕ, suc, ◌<◌, ◌≤◌}
use borrow.Author.Tests.{ltb-true, ltb-false}
use lib.Dec.{ltb}
use lib.ListN.{length, length-append, get_or-append, get_or, get_or-eq_default, length-set}
use lib.Seq.{get_or-append_seam, get_or-set_same, get_or-set_other}
use native.Mathlib.Omega.{arith}
use Rattle.model.specs.Basics.{is_in}
use Rattle.model.specs.Tables.{Table, chord_at}
use Rattle.model.specs.Boards.{Board, Sent, Sender, Message, message_at, no_message, sender_at, idle, idle_sender}
use Rattle.model.specs.Boards.{working, Job, is_idle, State, channel_of, blocked}
use Rattle.model.specs.Effects.{none, turn, Change, records, signals, matches_after}
use Rattle.model.specs.Jobs.{new_pass}
use Rattle.model.specs.Holdings.{Holds}
use Rattle.model.specs.Shares.{has_room, one_more}
use Rattle.model.specs.Adds.{added, new_sender, new_message, cents_ok, day_open, add_refusal}
use Rattle.model.specs.Demands.{SameButSignal}
use Rattle.model.proofs.Tests.{same?, never, tests, unless-none}
use Rattle.model.proofs.Lists.{nth-is_in}
use Rattle.model.proofs.Shares.{Shares, shares-added}
use Rattle.model.proofs.Words.{is_record}
use Rattle.model.proofs.Frame.{unaltered}
use Rattle.model.proofs.Grows.{SameSent, Grows}
use Rattle.model.proofs.Passage.{same, After, Passage, grows}
use Rattle.model.proofs.Local.{SenderOk, pass-ok}
use Rattle.model.proofs.Places.{none-held, pass-empty}
use Rattle.model.proofs.Matches.{not-consuming, WillConsume}
use Rattle.model.proofs.Owners.{new_own, WillSignal}
use Rattle.model.proofs.Obligation.{Meets, Obliged, by_subject}
use Rattle.model.proofs.Covers.{subject-of, covers-ahead}
use Rattle.model.proofs.Answering.{WillTell}
use Rattle.model.proofs.Invariant.{Inv, CallOwes, call-keeps}

module _ (t : Table) (b : Board) (i : ℕ) (new : Sent) where
  abbrev b' : Board
  b' = added t b i new

  -- the new message's number
  abbrev last : ℕ
  last = length b.messages

  abbrev d : Sender
  d = new_sender t b'.messages last

  pub messages-now : length b'.messages ≡ suc last
  unfolding added
  messages-now = length-append b.messages (new_message new ∷ []) ∙ (omega arith)

  pub matches-now : b'.matches ≡ b.matches
  unfolding added
  matches-now = refl

  pub old-message : (n : ℕ) → n < last → message_at b' n ≡ message_at b n
  unfolding added
  old-message n l = get_or-append b.messages (new_message new ∷ []) no_message n l

  pub new-message : message_at b' last ≡ new_message new
  unfolding added
  new-message = get_or-append_seam b.messages (new_message new) [] no_message

  pub sender-now : i < length b.senders → sender_at b' i ≡ d
  unfolding added
  sender-now h = get_or-set_same b.senders i d idle_sender h

  pub sender-old : (j : ℕ) → j ≢ i → sender_at b' j ≡ sender_at b j
  unfolding added
  sender-old j ne = get_or-set_other b.senders i j d idle_sender ne

  -- the new message notes nothing, as a message off the board notes nothing
  after : (n : ℕ) → After b b' none n
  after n = go (ltb n last) refl (same? n last)
    where
      unturned : (message_at b' n).status ≡ (message_at b n).status → (message_at b' n).match ≡ (message_at b n).match
          → (message_at b' n).waker ≡ (message_at b n).waker → After b b' none n
      unturned s m w = same (λ τ f. never f.0) s m w

      off : last ≤ n → message_at b n ≡ no_message
      off h = get_or-eq_default b.messages no_message h

      go : (u : Bool) → ltb n last ≡ u → (n ≡ last) ⊎ (n ≢ last) → After b b' none n
      go true e z =
          let k = old-message n (ltb-true _ _ e) in
          unturned (ap (λ (x : Message). x.status) k) (ap (λ (x : Message). x.match) k)
          (ap (λ (x : Message). x.waker) k)
      go false e (inl z) =
          let k : message_at b' n ≡ new_message new =
          subst⁻¹ (λ (x : ℕ). message_at b' x ≡ new_message new) z new-message in
          let o = sym (off (ltb-false _ _ e)) in
          unturned (ap (λ (x : Message). x.status) k ∙ ap (λ (x : Message). x.status) o)
          (ap (λ (x : Message). x.match) k ∙ ap (λ (x : Message). x.match) o)
          (ap (λ (x : Message). x.waker) k ∙ ap (λ (x : Message). x.waker) o)
      go false e (inr z) =
          let k : message_at b' n ≡ message_at b n =
          get_or-eq_default b'.messages no_message (omega (tests, messages-now)) ∙ sym (off (ltb-false _ _ e)) in
          unturned (ap (λ (x : Message). x.status) k) (ap (λ (x : Message). x.match) k)
          (ap (λ (x : Message). x.waker) k)

  same-sender : (x y : Sender) → y ≡ x → SameButSignal x y
  same-sender x y e = subst⁻¹ (SameButSignal x) e (unaltered x)

  is_signal : Change → Bool
  is_signal none = false
  is_signal (turn n τ) = false
  is_signal (records n m) = false
  is_signal (signals n) = true

  pub added-passage : i < length b.senders → Passage b b' i none d
  unfolding matches_after is_signal
  added-passage h = record {
    more = omega (arith, messages-now);
    kept = λ n l. subst⁻¹ (SameSent (message_at b n)) (old-message n l) (record { sent = refl; channel = refl });
    after = after;
    matches = matches-now;
    own = same-sender d (sender_at b' i) (sender-now h);
    others = λ j ne. same-sender (sender_at b j) (sender_at b' j) (sender-old j ne);
    signalled = λ n j e. never (ap is_signal e);
  }

  pub added-grows : i < length b.senders → Grows b b'
  added-grows h = grows (added-passage h)

  senders-now : length b'.senders ≡ length b.senders
  unfolding added
  senders-now = length-set b.senders i _

  pub shares-now : Shares b.tallies last → i < 32 → has_room b.tallies i ≡ true
      → Shares b'.tallies (length b'.messages)
  unfolding added
  shares-now s l e = subst⁻¹ (Shares (one_more b.tallies i)) messages-now (shares-added s i l e)

  module _ (v : Inv t b) (in_senders : i < length b.senders) (was-idle : (sender_at b i).state ≡ idle)
      (l : i < 32) (room : has_room b.tallies i ≡ true) where
    local : SenderOk t b' d
    local = record {
      own_in = omega (arith, messages-now);
      waker_is = λ x e. absurd (omega arith);
      reply_is = λ k e. absurd (omega arith);
      matched_is = λ k e. absurd (omega arith);
      state_is = (omega arith, pass-ok t b' (suc last) 0 last 0 0 false (omega (arith, messages-now)) (inl refl));
    }

    not-working : {w : Job} → (sender_at b i).state ≡ working w → ⊥
    not-working e = never (sym (ap is_idle (sym was-idle ∙ e)))

    idle-has : (P : State → ℕ → Type 0) (n : ℕ) → P (sender_at b i).state n → P idle n
    idle-has P n x = subst (λ (s : State). P s n) was-idle x

    -- the new job looks at every chord that the new message can help to meet
    new_obliged : (q : ℕ) (ns : List ℕ) (j : ℕ) → Meets t b' q ns → j < length ns → last ≤ get_or ns j 0
        → Obliged t b' q ns
    new_obliged q ns j m l h =
        by_subject i (new_pass t b'.messages last 0) (ap (λ (x : Sender). x.state) (sender-now in_senders))
        (ap (λ (x : ℕ). is_in x ns) (subject-of t last _ 0 0 false ∙ sym is_last) ∙ nth-is_in ns j l)
        (covers-ahead t last _ 0 0 q false m.chord-in (omega arith)
        (subst (λ (x : ℕ). is_in x (chord_at t q).channels ≡ true) (sym (m.kinds j l) ∙ ap (channel_of b') is_last)
        (nth-is_in (chord_at t q).channels j (omega (arith, m.all)))))
      where
        is_last : get_or ns j 0 ≡ last
        is_last = omega (arith, m.inside j l, messages-now)

    add-owes : CallOwes t b b' i none d
    add-owes = record {
      passage = added-passage in_senders;
      count = senders-now;
      local = local;
      holding = none-held none _ _ refl (idle-has (Holds t)) (λ n x. pass-empty t last _ 0 0 false n x);
      notes = tt;
      matches = not-consuming b b' i none d (idle-has WillConsume) refl;
      owners = λ x. record {
        owning = new_own (ap is_idle was-idle) refl refl messages-now;
        goes-idle = λ z. never z;
        signal_kept = λ z n o o'. absurd (omega (arith, o, o', (v.locals i).own_in));
        signalling_kept = λ n x. absurd (idle-has (WillSignal t) n x);
        signalling_new = λ n h x. never x.0;
      };
      obligation = λ q ns x. record {
        subject = λ w f. absurd (not-working f);
        waker = λ w y f. absurd (not-working f);
        resumed = λ n f. never f.0;
        noted = λ n y f. never f.0;
      };
      new_obliged = new_obliged;
      answering = record {
        own = λ n o o'. absurd (omega (arith, o, o', (v.locals i).own_in));
        tells_on = λ n l wt x. absurd (idle-has (WillTell t b) n x);
        tells_new = λ x m z. never (ap is_record z);
      };
      shares = shares-now v.shares l room;
    }

    pub added-keeps : Inv t b'
    added-keeps = call-keeps v add-owes

-- what an accepted add has been tested for
is-idle : (x : State) → is_idle x ≡ true → x ≡ idle
is-idle idle e = refl
is-idle (working w) e = never e
is-idle blocked e = never e

pub add-accepted : (t : Table) (b : Board) (i : ℕ) (x : Sent) → add_refusal t b i x ≡ 0
    → (i < 32) × ((sender_at b i).state ≡ idle) × (x.channel < length t.kinds) × (cents_ok x.cents ≡ true)
    × (has_room b.tallies i ≡ true)
unfolding add_refusal
add-accepted t b i x e =
    let p = unless-none (ltb i 32) 7 _ e in
    let q = unless-none (is_idle (sender_at b i).state) 8 _ p.1 in
    let r = unless-none (ltb x.channel (length t.kinds)) 9 _ q.1 in
    let o = unless-none (day_open b x.day) 18 _ r.1 in
    let s = unless-none (cents_ok x.cents) 10 _ o.1 in
    let u = unless-none (has_room b.tallies i) 25 _ s.1 in
    (ltb-true _ _ p.0, is-idle _ q.0, ltb-true _ _ r.0, s.0, u.0)
