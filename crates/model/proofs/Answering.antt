-- A sender whose synchronous message is matched has its reply, or will have it: it matched the message itself, its
-- signal is set, or some sender is about to consume or to tell it.
use mathlib.Core.Path.{◌≡◌, subst, subst⁻¹, ap, ◌∙◌, sym, refl}
use mathlib.Core.Logic.{◌≢◌, ◌⊎◌, inr, inl}
use mathlib.Core.Bool.{true, false, not, Bool, ◌&&◌, ◌||◌}
use mathlib.Core.List.{List, [], ◌∷◌}
use Prim.Native.Nat.{ℕ, ◌≤◌, ◌<◌, ◌-◌, suc}
use borrow.Author.Tests.{eqb-true, ne_eqb}
use lib.Dec.{eqb}
use lib.ListN.{length, get_or}
use native.Mathlib.Omega.{arith}
use Rattle.model.specs.Basics.{is_in}
use Rattle.model.specs.Tables.{Table, is_sync}
use Rattle.model.specs.Boards.{Board, Job, Phase, look, claim, revert, consume, tell, wake, free, signal}
use Rattle.model.specs.Boards.{pass_end, backoff, State, idle, working, blocked, is_idle, sender_at, message_at}
use Rattle.model.specs.Boards.{consumed, channel_of, match_at, Sender, Match, Message, no_message}
use Rattle.model.specs.Effects.{Change, signals, records}
use Rattle.model.specs.Jobs.{job_end}
use Rattle.model.specs.Steps.{to_tell, keep_if}
use Rattle.model.specs.Demands.{SameButSignal}
use Rattle.model.proofs.Tests.{same?, never, either, and}
use Rattle.model.proofs.Jobs.{job-end-by}
use Rattle.model.proofs.Passage.{Passage, grows, match_is, MatchIs, old_match, new_match}
use Rattle.model.proofs.Phases.{still}
use Rattle.model.proofs.Local.{SenderOk, PlacedAt, tell-on, StateOk}
use Rattle.model.proofs.Notes.{NotesOk}
use Rattle.model.proofs.Matches.{WillConsume, Unmatched, MatchesOk, MatchesKept}
use Rattle.model.proofs.Owners.{Owning, Owners, own-before}

-- the sender will tell message n's sender
abbrev pub WillTellAt : Table → Board → Job → ℕ → Phase → Type 0
WillTellAt t b w n (look k) = ⊥
WillTellAt t b w n (claim k) = ⊥
WillTellAt t b w n (revert k m) = ⊥
WillTellAt t b w n (consume k m) = (is_in n w.chosen ≡ true) × (n ≢ w.subject)
WillTellAt t b w n (tell k) =
    (p : ℕ) × (k ≤ p) × (p < length (to_tell t b.messages w.subject w.chosen))
    × (get_or (to_tell t b.messages w.subject w.chosen) p 0 ≡ n)
WillTellAt t b w n wake = ⊥
WillTellAt t b w n (free k) = ⊥
WillTellAt t b w n signal = ⊥
WillTellAt t b w n pass_end = ⊥
WillTellAt t b w n (backoff rests) = ⊥

abbrev pub WillTell : Table → Board → State → ℕ → Type 0
WillTell t b idle n = ⊥
WillTell t b (working w) n = WillTellAt t b w n w.phase
WillTell t b blocked n = ⊥

-- sender i's message n, of a match, is answered or will be
pub data AnswerDue (t : Table) (b : Board) (i n : ℕ) : Type 0 where
  has_reply : is_idle (sender_at b i).state ≡ true → 1 ≤ (sender_at b i).reply → AnswerDue t b i n
  has_match : is_idle (sender_at b i).state ≡ false → 1 ≤ (sender_at b i).matched → AnswerDue t b i n
  has_signal : is_idle (sender_at b i).state ≡ false → (sender_at b i).signalled ≡ true → (message_at b n).status ≡ consumed
      → AnswerDue t b i n
  will_consume : is_idle (sender_at b i).state ≡ false → WillConsume (sender_at b i).state n → AnswerDue t b i n
  will_tell : is_idle (sender_at b i).state ≡ false → (j : ℕ) → WillTell t b (sender_at b j).state n → AnswerDue t b i n

abbrev pub Answering : Table → Board → Type 0
Answering t b = (i n k : ℕ) → (sender_at b i).own ≡ suc n → is_sync t (channel_of b n) ≡ true
    → k < length b.matches → is_in n (match_at b k).messages ≡ true → AnswerDue t b i n

-- what a call owes its own message n, which it keeps
pub record OwnAnswer (t : Table) (b b' : Board) (i : ℕ) (d : Sender) (n : ℕ) : Type 0 where
  pub not_idle : is_idle (sender_at b i).state ≡ false
  pub goes-idle : is_idle d.state ≡ true → is_sync t (channel_of b' n) ≡ true → 1 ≤ d.reply
  pub match_kept : 1 ≤ (sender_at b i).matched → 1 ≤ d.matched
  pub signal_kept : is_idle d.state ≡ false → (sender_at b i).signalled ≡ true → (message_at b n).status ≡ consumed
      → d.signalled ≡ true
  pub consumes_on : WillConsume (sender_at b i).state n → (1 ≤ d.matched) ⊎ WillConsume d.state n

-- and the others' messages
pub record AnsweringKept (t : Table) (b b' : Board) (i : ℕ) (c : Change) (d : Sender) : Type 0 where
  pub own : (n : ℕ) → (sender_at b i).own ≡ suc n → d.own ≡ suc n → OwnAnswer t b b' i d n
  pub tells_on : (n : ℕ) → n < length b.messages → is_sync t (channel_of b n) ≡ true
      → WillTell t b (sender_at b i).state n
      → WillTell t b' d.state n ⊎ ((c ≡ signals n) × ((message_at b n).status ≡ consumed))
  pub tells_new : (x : ℕ) (m : Match) → c ≡ records x m → (n : ℕ) → is_in n m.messages ≡ true
      → is_sync t (channel_of b n) ≡ true → suc n ≢ (sender_at b i).own → WillTell t b' d.state n

module _ {t : Table} {b b' : Board} {i : ℕ} {c : Change} {d : Sender} (p : Passage b b' i c d)
    (locals : (j : ℕ) → SenderOk t b (sender_at b j)) (owning : Owning b b' i d) (ok : Answering t b)
    (a : AnsweringKept t b b' i c d) where
  -- another sender tells the same messages after the call
  tells-other : (j n : ℕ) → WillTell t b (sender_at b j).state n → WillTell t b' (sender_at b j).state n
  tells-other j n x = go (sender_at b j).state (locals j).state_is x
    where
      at-phase : (w : Job) (p : Phase) → PlacedAt t b w.subject w.chord w.chosen w.retry p
          → WillTellAt t b w n p → WillTellAt t b' w n p
      at-phase w (look k) jb x = x
      at-phase w (claim k) jb x = x
      at-phase w (revert k m) jb x = x
      at-phase w (consume k m) jb x = x
      at-phase w (tell k) jb x = subst⁻¹ (λ (ns : List ℕ). (p : ℕ) × (k ≤ p) × (p < length ns) × (get_or ns p 0 ≡ n))
          (tell-on t b b' (grows p) w.subject w.chosen jb.full.selection.inside) x
      at-phase w wake jb x = x
      at-phase w (free k) jb x = x
      at-phase w signal jb x = x
      at-phase w pass_end jb x = x
      at-phase w (backoff rests) jb x = x

      go : (s : State) → StateOk t b (sender_at b j).own (sender_at b j).waker (sender_at b j).matched s
          → WillTell t b s n → WillTell t b' s n
      go idle z x = x
      go (working w) z x = at-phase w w.phase z.1.placed x
      go blocked z x = x

  -- message n of sender j, on the board before
  module _ (j n : ℕ) (o : (sender_at b j).own ≡ suc n) (o' : (sender_at b' j).own ≡ suc n) (l : n < length b.messages)
      (sync : is_sync t (channel_of b n) ≡ true) (sync' : is_sync t (channel_of b' n) ≡ true) where
    consumed-still : (message_at b n).status ≡ consumed → (message_at b' n).status ≡ consumed
    consumed-still e = ((grows p).stays_consumed n l e).0

    by-teller : is_idle (sender_at b' j).state ≡ false → (x : ℕ) → WillTell t b (sender_at b x).state n
        → (x ≡ i) ⊎ (x ≢ i)
        → AnswerDue t b' j n
    by-teller e x y (inr z) =
        will_tell e x (subst⁻¹ (λ (s : State). WillTell t b' s n) (p.others x z).state (tells-other x n y))
    by-teller e x y (inl z) = go (a.tells_on n l sync (subst (λ (x : ℕ). WillTell t b (sender_at b x).state n) z y))
      where
        go : WillTell t b' d.state n ⊎ ((c ≡ signals n) × ((message_at b n).status ≡ consumed)) → AnswerDue t b' j n
        go (inl q) = will_tell e i (subst⁻¹ (λ (s : State). WillTell t b' s n) p.own.state q)
        go (inr q) = has_signal e (p.signalled n j q.0 e o') (consumed-still q.1)

    other-due : j ≢ i → AnswerDue t b j n → AnswerDue t b' j n
    other-due ne due = go (p.others j ne) due
      where
        go : SameButSignal (sender_at b j) (sender_at b' j) → AnswerDue t b j n → AnswerDue t b' j n
        go k (has_reply e x) = has_reply (ap is_idle k.state ∙ e) (omega (arith, x, k.reply))
        go k (has_match e x) = has_match (ap is_idle k.state ∙ e) (omega (arith, x, k.matched))
        go k (has_signal e x z) = has_signal (ap is_idle k.state ∙ e) (k.signalled x) (consumed-still z)
        go k (will_consume e x) =
            will_consume (ap is_idle k.state ∙ e) (subst⁻¹ (λ (s : State). WillConsume s n) k.state x)
        go k (will_tell e x y) = by-teller (ap is_idle k.state ∙ e) x y (same? x i)

  own-due : (n : ℕ) → (sender_at b i).own ≡ suc n → (sender_at b' i).own ≡ suc n → n < length b.messages
      → is_sync t (channel_of b n) ≡ true → is_sync t (channel_of b' n) ≡ true
      → (u : Bool) → is_idle d.state ≡ u → AnswerDue t b i n → AnswerDue t b' i n
  own-due n o o' l sync sync' u e due = go u e due
    where
      k : OwnAnswer t b b' i d n
      k = a.own n o (sym p.own.own ∙ o')

      busy : is_idle d.state ≡ false → is_idle (sender_at b' i).state ≡ false
      busy e = ap is_idle p.own.state ∙ e

      consuming : is_idle d.state ≡ false → (1 ≤ d.matched) ⊎ WillConsume d.state n → AnswerDue t b' i n
      consuming e (inl x) = has_match (busy e) (omega (arith, x, p.own.matched))
      consuming e (inr x) = will_consume (busy e) (subst⁻¹ (λ (s : State). WillConsume s n) p.own.state x)

      go : (u : Bool) → is_idle d.state ≡ u → AnswerDue t b i n → AnswerDue t b' i n
      go true e x = has_reply (ap is_idle p.own.state ∙ e) (omega (arith, k.goes-idle e sync', p.own.reply))
      go false e (has_reply f x) = never (sym k.not_idle ∙ f)
      go false e (has_match f x) = has_match (busy e) (omega (arith, k.match_kept x, p.own.matched))
      go false e (has_signal f x z) =
          has_signal (busy e) (p.own.signalled (k.signal_kept e x z)) ((grows p).stays_consumed n l z).0
      go false e (will_consume f x) = consuming e (k.consumes_on x)
      go false e (will_tell f x y) = by-teller i n o o' l sync sync' (busy e) x y (same? x i)

  old-due : (j n : ℕ) → (sender_at b j).own ≡ suc n → (sender_at b' j).own ≡ suc n → n < length b.messages
      → is_sync t (channel_of b n) ≡ true → is_sync t (channel_of b' n) ≡ true → (j ≡ i) ⊎ (j ≢ i) → AnswerDue t b j n
      → AnswerDue t b' j n
  old-due j n o o' l sync sync' (inr z) x = other-due j n o o' l sync sync' z x
  old-due j n o o' l sync sync' (inl z) x = subst⁻¹ (λ (y : ℕ). AnswerDue t b' y n) z (own-due n
      (subst (λ (y : ℕ). (sender_at b y).own ≡ suc n) z o) (subst (λ (y : ℕ). (sender_at b' y).own ≡ suc n) z o') l
      sync sync'
      (is_idle d.state) refl (subst (λ (y : ℕ). AnswerDue t b y n) z x))

  -- a match recorded now: the caller will consume its own message, and tell the other senders
  new-due : (owners : Owners t b) → NotesOk t b → (j n x : ℕ) (m : Match) → c ≡ records x m
      → is_in n m.messages ≡ true
      → WillConsume d.state n × Unmatched b n × (n < length b.messages)
      → (sender_at b j).own ≡ suc n → is_sync t (channel_of b n) ≡ true → (j ≡ i) ⊎ (j ≢ i) → AnswerDue t b' j n
  new-due owners notes j n x m e f k o sync (inl z) = subst⁻¹ (λ (y : ℕ). AnswerDue t b' y n) z
      (will_consume (ap is_idle p.own.state ∙ busy d.state k.0)
      (subst⁻¹ (λ (s : State). WillConsume s n) p.own.state k.0))
    where
      busy : (s : State) → WillConsume s n → is_idle s ≡ false
      busy idle y = absurd y
      busy (working w) y = refl
      busy blocked y = refl
  new-due owners notes j n x m e f k o sync (inr z) =
      will_tell
      (ap is_idle (p.others j z).state ∙ subst (λ (y : ℕ). is_idle (sender_at b y).state ≡ false) same-one r.1)
      i
      (subst⁻¹ (λ (s : State). WillTell t b' s n) p.own.state (a.tells_new x m e n f sync
      (λ q. z (owners.own_one j i (omega (arith, o)) (o ∙ q)))))
    where
      r : (y : ℕ) × (is_idle (sender_at b y).state ≡ false) × ((sender_at b y).own ≡ suc n)
      r = owners.owned n k.2 sync (λ q. let y = notes.match n q in never (sym (k.1 y.0 y.2) ∙ y.3))

      same-one : r.0 ≡ j
      same-one = owners.own_one r.0 j (omega (arith, r.2)) (r.2 ∙ sym o)

  pub answering-after : Owners t b → NotesOk t b → MatchesOk b → MatchesKept b b' i c d → Answering t b'
  answering-after owners notes matches kept j n k o' sync' l e = go (match_is p k l)
    where
      before : n < length b.messages → ((sender_at b j).own ≡ suc n) × (is_sync t (channel_of b n) ≡ true)
      before h = (own-before p owning j n h o', rw (p.kept n h).channel at sync')

      go : MatchIs b b' c k → AnswerDue t b' j n
      go (old_match h z) =
          let f = ap (λ (m : Match). is_in n m.messages) (sym z) ∙ e in
          let on = matches.on_board n k h f in
          let r = before on in
          old-due j n r.0 o' on r.1 sync' (same? j i) (ok j n k r.0 r.1 h f)
      go (new_match x m f h z) =
          let q = ap (λ (m : Match). is_in n m.messages) (sym z) ∙ e in
          let y = kept.begins x m f n q in
          let r = before y.2 in
          new-due owners notes j n x m f q y r.0 r.1 (same? j i)

-- a phase that tells nobody
pub no-tell : (t : Table) (b : Board) (w : Job) (n : ℕ) (p : Phase) → still p ≡ true → WillTellAt t b w n p → ⊥
no-tell t b w n (look k) e x = x
no-tell t b w n (claim k) e x = x
no-tell t b w n (revert k m) e x = x
no-tell t b w n (consume k m) e x = never e
no-tell t b w n (tell k) e x = never e
no-tell t b w n wake e x = x
no-tell t b w n (free k) e x = x
no-tell t b w n signal e x = x
no-tell t b w n pass_end e x = x
no-tell t b w n (backoff rests) e x = x

-- what a job's end leaves: the message and its match, a reply where a matched sender goes idle, and the signal where
-- it does not
pub record JobEnded (t : Table) (is : List Message) (e d : Sender) : Type 0 where
  pub own : d.own ≡ e.own
  pub matched : d.matched ≡ e.matched
  pub replies : is_idle d.state ≡ true → is_sync t (get_or is (e.own - 1) no_message).sent.channel ≡ true
      → (1 ≤ d.reply) × (1 ≤ e.matched)
  pub signalled : is_idle d.state ≡ false → d.signalled ≡ e.signalled

pub job-ended : (t : Table) (is : List Message) (e : Sender) (h : ℕ) → JobEnded t is e (job_end t is e h)
job-ended t is e h =
    job-end-by t is e h (JobEnded t is e)
    (λ z. record {
      own = refl;
      matched = refl;
      replies = λ x y. never (sym z ∙ y);
      signalled = λ x. never (sym x);
    })
    (λ s m z. record {
      own = refl;
      matched = refl;
      replies = λ x y. (omega arith, omega arith);
      signalled = λ x. never (sym x);
    })
    (λ s z. record { own = refl; matched = refl; replies = λ x. never x; signalled = λ x. refl })
    (λ s v z f ne. record { own = refl; matched = refl; replies = λ x. never x; signalled = λ x. refl })

-- the synchronous messages of a choice other than the subject are told
pub in-tell : (t : Table) (is : List Message) (h n : ℕ) (ns : List ℕ) → is_in n ns ≡ true
    → is_sync t (get_or is n no_message).sent.channel ≡ true → n ≢ h → is_in n (to_tell t is h ns) ≡ true
in-tell t is h n [] e wt ne = e
in-tell t is h n (x ∷ xs) e wt ne =
    go (is_sync t (get_or is x no_message).sent.channel && not (eqb x h)) refl (either {t = eqb n x} e)
    (λ z. in-tell t is h n xs z wt ne)
  where
    later : (u : Bool) → is_in n (to_tell t is h xs) ≡ true → (u || is_in n (to_tell t is h xs)) ≡ true
    later true e = refl
    later false e = e

    go : (u : Bool) → (is_sync t (get_or is x no_message).sent.channel && not (eqb x h)) ≡ u
        → (eqb n x ≡ true) ⊎ (is_in n xs ≡ true) → (is_in n xs ≡ true → is_in n (to_tell t is h xs) ≡ true)
        → is_in n (keep_if u x (to_tell t is h xs)) ≡ true
    go true q (inl z) ih = rw z
    go true q (inr z) ih = later (eqb n x) (ih z)
    go false q (inl z) ih =
        never (sym q
        ∙ subst (λ (y : ℕ). (is_sync t (get_or is y no_message).sent.channel && not (eqb y h)) ≡ true)
        (eqb-true n x z) (and wt (rw (ne_eqb n h ne))))
    go false q (inr z) ih = ih z

pub tell-chosen : (t : Table) (is : List Message) (h n : ℕ) (ns : List ℕ) → is_in n (to_tell t is h ns) ≡ true
    → is_in n ns ≡ true
tell-chosen t is h n [] e = e
tell-chosen t is h n (x ∷ xs) e =
    go (is_sync t (get_or is x no_message).sent.channel && not (eqb x h)) e (tell-chosen t is h n xs)
  where
    later : (u : Bool) → is_in n xs ≡ true → (u || is_in n xs) ≡ true
    later true e = refl
    later false e = e

    go : (u : Bool) → is_in n (keep_if u x (to_tell t is h xs)) ≡ true
        → (is_in n (to_tell t is h xs) ≡ true → is_in n xs ≡ true) → is_in n (x ∷ xs) ≡ true
    go true e ih = at (either {t = eqb n x} e)
      where
        at : (eqb n x ≡ true) ⊎ (is_in n (to_tell t is h xs) ≡ true) → is_in n (x ∷ xs) ≡ true
        at (inl z) = rw z
        at (inr z) = later (eqb n x) (ih z)
    go false e ih = later (eqb n x) (ih e)
