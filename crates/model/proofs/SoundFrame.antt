-- What the change of a step, if it is in range, leaves of a sound board: its messages, its matches and the senders
-- that did not step keep their facts; with those of the sender that did, the board is sound again.
use mathlib.Core.Path.{◌≡◌, ap, ◌∙◌, refl, subst⁻¹, sym}
use mathlib.Core.Logic.{◌≢◌, ◌⊎◌, inl, inr}
use mathlib.Core.Bool.{Bool, false, true}
use mathlib.Core.List.{List, ◌∷◌, []}
use Prim.Native.Nat.{◌≤◌, ◌<◌, ℕ, suc}
use lib.Dec.{eqb}
use lib.ListN.{length, length-append, get_or}
use native.Mathlib.Omega.{arith}
use Rattle.model.specs.Basics.{pick}
use Rattle.model.specs.Tables.{Table, size}
use Rattle.model.specs.Boards.{Board, claim, free, consume, wake, Match, signal, channel_of, Message, message_at}
use Rattle.model.specs.Boards.{tell, Job, Phase, look, revert, pass_end, backoff, State, idle, working, blocked}
use Rattle.model.specs.Boards.{Sender, Status, woken, consumed, claimed, pending, no_match, sender_at, is_idle}
use Rattle.model.specs.Effects.{Turn, claims, frees, consumes, wakes_by, resumes, Change, none, turn, records}
use Rattle.model.specs.Effects.{signals, matches_after, Effect, apply, turned}
use Rattle.model.specs.Steps.{to_tell}
use Rattle.model.specs.Sound.{to_wake}
use Rattle.model.specs.Demands.{SameButSignal}
use Rattle.model.proofs.Tests.{same?}
use Rattle.model.proofs.Lists.{snoc-all}
use Rattle.model.proofs.Frame.{messages-count, shares-still, messages-at, message_after, own_at, other_at}
use Rattle.model.proofs.Frame.{senders-count}
use Rattle.model.proofs.Grows.{message-kept, apart}
use Rattle.model.proofs.SoundFacts.{MatchFacts, Below, MessageFacts, AtChord, PlaceOk, JobFacts, StateFacts}
use Rattle.model.proofs.SoundFacts.{SenderFacts, SoundBoard}

-- what a change may name: messages and matches of the board, and a match that the board has room for
abbrev pub TurnIn : Board → Turn → Type 0
TurnIn b claims = Unit {0}
TurnIn b frees = Unit {0}
TurnIn b (consumes m) = (1 ≤ m) × (m ≤ length b.matches)
TurnIn b (wakes_by h) = h < length b.messages
TurnIn b resumes = Unit {0}

abbrev pub InRange : Table → Board → Change → Type 0
InRange t b none = Unit {0}
InRange t b (turn n τ) = (n < length b.messages) × TurnIn b τ
InRange t b (records n m) =
    (n < length b.messages) × (length b.matches < 1024) × MatchFacts t b m
    × (length m.messages ≡ size t m.chord)
InRange t b (signals n) = n < length b.messages

-- what every call keeps
pub record Wider (b b' : Board) : Type 0 where
  pub messages_more : length b.messages ≤ length b'.messages
  pub matches_more : length b.matches ≤ length b'.matches
  pub kept : (n : ℕ) → n < length b.messages → channel_of b' n ≡ channel_of b n

more-matches : (c : Change) (ms : List Match) → length ms ≤ length (matches_after c ms)
unfolding matches_after
more-matches none ms = omega arith
more-matches (turn n τ) ms = omega arith
more-matches (records n m) ms = omega (arith, length-append ms (m ∷ []))
more-matches (signals n) ms = omega arith

pub wider-after : (b : Board) (i : ℕ) (e : Effect) → Wider b (apply b i e)
unfolding apply
wider-after b i e = record {
  messages_more = omega (arith, messages-count b i e);
  matches_more = more-matches e.change b.matches;
  kept = λ n l. ap (λ (x : Message). x.sent.channel) (messages-at b i e n l)
      ∙ (message-kept e.change n (message_at b n)).channel;
}

-- facts go on where the board is wider
module _ (t : Table) {b b' : Board} (g : Wider b b') where
  below_wider : (ns : List ℕ) → Below (length b.messages) ns → Below (length b'.messages) ns
  below_wider ns f j l = omega (arith, f j l, g.messages_more)

  pub match-wider : {m : Match} → MatchFacts t b m → MatchFacts t b' m
  match-wider {m} f = record { chord-in = f.chord-in; messages_in = below_wider m.messages f.messages_in }

  pub message-wider : {x : Message} → MessageFacts t b x → MessageFacts t b' x
  message-wider f = search arith

  tell-same : (h : ℕ) (ns : List ℕ) → Below (length b.messages) ns
      → to_tell t b'.messages h ns ≡ to_tell t b.messages h ns
  tell-same h [] f = refl
  tell-same h (n ∷ ns) f = rw (g.kept n (f 0 (omega arith)), tell-same h ns (λ j l. f (suc j) (omega arith)))

  module _ (w : Job) (l : w.subject < length b.messages) where
    chord-wider : {n : ℕ} → AtChord t b w.subject w.chord w.chosen n
        → AtChord t b' w.subject w.chord w.chosen n
    chord-wider f =
        record { chord-in = f.chord-in; names = rw (g.kept w.subject l) f.names; counted = f.counted }

    pub wake-wider : {u : Bool} → to_wake t b w ≡ u → to_wake t b' w ≡ u
    wake-wider e = rw (g.kept w.subject l) e

    place-wider : Below (length b.messages) w.chosen → (p : Phase) → PlaceOk t b w p → PlaceOk t b' w p
    place-wider c (look k) f = (chord-wider f.0, f.1)
    place-wider c (claim k) f = (chord-wider f.0, f.1)
    place-wider c (revert k m) f = (chord-wider f.0, f.1, f.2)
    place-wider c (consume k m) f =
        (chord-wider f.0, f.1, f.2, omega (arith, f.3, g.matches_more), wake-wider f.4)
    place-wider c (tell k) f =
        (chord-wider f.0, rw (tell-same w.subject w.chosen c) f.1, wake-wider f.2)
    place-wider c wake f = (chord-wider f.0, wake-wider f.1)
    place-wider c (free k) f = (chord-wider f.0, wake-wider f.1, f.2)
    place-wider c signal f = (chord-wider f.0, wake-wider f.1)
    place-wider c pass_end f = f
    place-wider c (backoff rests) f = f

  pub job-wider : {o v : ℕ} {w : Job} {p : Phase} → JobFacts t b o v w p → JobFacts t b' o v w p
  job-wider {w = w} {p = p} f =
      let q = place-wider w f.subject_in f.chosen_in p f.place in
      let c = below_wider w.chosen f.chosen_in in
      search arith

  state-wider : (o v : ℕ) (x : State) → StateFacts t b o v x → StateFacts t b' o v x
  state-wider o v idle f = tt
  state-wider o v (working w) f = (f.0, job-wider f.1)
  state-wider o v blocked f = f

  pub sender-wider : {d : Sender} → SenderFacts t b d → SenderFacts t b' d
  sender-wider {d} f = let q = state-wider d.own d.waker d.state f.state_is in search arith

  -- messages after a change in range
  module _ (x : Message) (f : MessageFacts t b x) where
    noted : (s : Status) (m v : ℕ) → m ≤ length b'.matches → v ≤ length b'.messages → (s ≡ woken → 1 ≤ v)
        → (s ≡ consumed → 1 ≤ m) → MessageFacts t b' (record { sent = x.sent; status = s; match = m; waker = v })
    noted s m v p q y z = search

    opened : (s : Status) → s ≢ woken → s ≢ consumed
        → MessageFacts t b' (record { sent = x.sent; status = s; match = x.match; waker = x.waker })
    opened s y z = noted s _ _ (omega arith) (omega arith) (λ e. absurd (y e)) (λ e. absurd (z e))

    turned-if : (u : Bool) (τ : Turn) → TurnIn b τ → MessageFacts t b' (pick u (turned τ x) x)
    turned-if false τ r = message-wider f
    turned-if true claims r = opened claimed (apart refl) (apart refl)
    turned-if true frees r = opened pending (apart refl) (apart refl)
    turned-if true (consumes k) r =
        noted consumed k _ (omega arith) (omega arith) (λ e. absurd (apart refl e)) (λ e. r.0)
    turned-if true (wakes_by h) r =
        noted woken _ (suc h) (omega arith) (omega arith) (λ e. omega arith) (λ e. absurd (apart refl e))
    turned-if true resumes r = opened pending (apart refl) (apart refl)

    message-after : (c : Change) (n : ℕ) → InRange t b c → MessageFacts t b' (message_after c n x)
    message-after none n r = message-wider f
    message-after (turn k τ) n r = turned-if (eqb n k) τ r.1
    message-after (records k m) n r = turned-if (eqb n k) claims tt
    message-after (signals k) n r = message-wider f

-- matches after a change in range
module _ {t : Table} {b b' : Board} (g : Wider b b') (s : SoundBoard t b) where
  matches-after : (c : Change) → InRange t b c → (length (matches_after c b.matches) ≤ 1024)
      × ((k : ℕ) → k < length (matches_after c b.matches)
      → MatchFacts t b' (get_or (matches_after c b.matches) k no_match))
  unfolding matches_after
  matches-after none r = (s.matches_few, λ k l. match-wider t g (s.match-at k l))
  matches-after (turn n τ) r = (s.matches_few, λ k l. match-wider t g (s.match-at k l))
  matches-after (records n m) r = (
    omega (arith, length-append b.matches (m ∷ []), r.1),
    snoc-all (λ k. MatchFacts t b') b.matches m no_match (λ k l. match-wider t g (s.match-at k l))
        (match-wider t g r.2),
  )
  matches-after (signals n) r = (s.matches_few, λ k l. match-wider t g (s.match-at k l))

like-facts : {t : Table} {b : Board} {d e : Sender} → SameButSignal d e → SenderFacts t b d → SenderFacts t b e
like-facts {t} {b} {d} {e} l f =
    let z : StateFacts t b e.own e.waker e.state = rw (l.own, l.waker, l.state) f.state_is in
    search arith

-- what a step owes: a change in range, and its sender in order, with the own message that it had
pub record StepFacts (t : Table) (b : Board) (i : ℕ) (e : Effect) : Type 0 where
  pub in-range : InRange t b e.change
  pub sender-ok : SenderFacts t (apply b i e) e.sender
  pub own_kept : e.sender.own ≡ (sender_at b i).own

-- what a sender becomes: in order, with the same own message
abbrev pub Becomes : Table → Board → Sender → Sender → Type 0
Becomes t b d x = SenderFacts t b x × (x.own ≡ d.own)

pub owes : {t : Table} {b : Board} {i : ℕ} {e : Effect} → InRange t b e.change
    → Becomes t b (sender_at b i) e.sender → StepFacts t b i e
owes {t} {b} {i} {e} r x =
    record { in-range = r; sender-ok = sender-wider t (wider-after b i e) x.0; own_kept = x.1 }

module _ {t : Table} {b : Board} {i : ℕ} {e : Effect} (s : SoundBoard t b) (l : i < 32)
    (busy : is_idle (sender_at b i).state ≡ false) (f : StepFacts t b i e) where
  abbrev b' : Board
  b' = apply b i e

  g : Wider b b'
  g = wider-after b i e

  h : i < length b.senders
  h = omega (arith, s.senders_all)

  -- the sender is in order; if it is not idle it was not, and its own message is the same
  abbrev Now : ℕ → Type 0
  Now j =
      SenderFacts t b' (sender_at b' j) × ((sender_at b' j).own ≡ (sender_at b j).own)
      × (is_idle (sender_at b' j).state ≡ false → is_idle (sender_at b j).state ≡ false)

  now : (j : ℕ) → Now j
  now j = go (same? j i)
    where
      go : (j ≡ i) ⊎ (j ≢ i) → Now j
      go (inl q) =
          let r = own_at b i e h in subst⁻¹ Now q (like-facts r f.sender-ok, r.own ∙ f.own_kept, λ z. busy)
      go (inr q) =
          let r = other_at b i e j h q in
          (like-facts r (sender-wider t g (s.sender-at j)), r.own, λ z. sym (ap is_idle r.state) ∙ z)

  pub step_kept : SoundBoard t b'
  unfolding apply
  step_kept =
      let r = matches-after g s e.change f.in-range in
      record {
        senders_all = senders-count b i e ∙ s.senders_all;
        messages_few = omega (arith, messages-count b i e, s.messages_few);
        matches_few = r.0;
        message-at = λ n m. let k : n < length b.messages = omega (arith, messages-count b i e) in
            subst⁻¹ (MessageFacts t b') (messages-at b i e n k)
            (message-after t g (message_at b n) (s.message-at n k) e.change n f.in-range);
        match-at = r.1;
        sender-at = λ j. (now j).0;
        own_apart = λ j k ne p q z.
            s.own_apart j k ne ((now j).2 p) ((now k).2 q) (sym (now j).1 ∙ z ∙ (now k).1);
        shares = shares-still b i e s.shares;
      }
