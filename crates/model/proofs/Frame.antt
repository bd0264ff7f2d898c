-- What a step leaves at each place: one law for messages, one for senders.
use mathlib.Core.Path.{◌≡◌, ap, refl, ◌∙◌, sym, subst⁻¹}
use mathlib.Core.Logic.{◌⊎◌, ◌≢◌, inl, inr}
use mathlib.Core.Bool.{false}
use mathlib.Core.List.{List, map, [], ◌∷◌}
use Prim.Native.Nat.{ℕ, ◌<◌, suc}
use borrow.Author.Tests.{eq-eqb, ne_eqb}
use lib.Dec.{eqb}
use lib.ListN.{length, get_or, set, length-set, get_or-map, length-map, length-append}
use lib.Seq.{get_or-set_same, get_or-set_other, get_or-append_seam, map-set_same}
use native.Mathlib.Omega.{arith}
use Rattle.model.specs.Basics.{pick}
use Rattle.model.specs.Boards.{Message, no_message, Board, message_at, Sender, idle_sender, sender_at, Match}
use Rattle.model.specs.Boards.{match_at}
use Rattle.model.specs.Effects.{Change, none, turn, turned, records, claims, signals, Turn, Effect, apply}
use Rattle.model.specs.Effects.{messages_after, signalled_sender, senders_after, matches_after}
use Rattle.model.specs.Demands.{SameButSignal}
use Rattle.model.proofs.Tests.{same?, never}
use Rattle.model.proofs.Shares.{Shares}
use Rattle.model.proofs.Words.{is_record}

-- the message at a place after a change
abbrev pub message_after : Change → ℕ → Message → Message
message_after none m x = x
message_after (turn n τ) m x = pick (eqb m n) (turned τ x) x
message_after (records n r) m x = pick (eqb m n) (turned claims x) x
message_after (signals n) m x = x

at_turn : (is : List Message) (n m : ℕ) (τ : Turn) → m < length is → (m ≡ n) ⊎ (m ≢ n)
    → get_or (set is n (turned τ (get_or is n no_message))) m no_message ≡ pick (eqb m n) (turned τ (get_or is m no_message))
    (get_or is m no_message)
at_turn is n m τ h (inl e) = rw (eq-eqb m n e) (rw (← e) (get_or-set_same is m _ no_message h))
at_turn is n m τ h (inr e) = rw (ne_eqb m n e) (get_or-set_other is n m _ no_message e)

pub messages-at : (b : Board) (i : ℕ) (s : Effect) (m : ℕ) → m < length b.messages
    → message_at (apply b i s) m ≡ message_after s.change m (message_at b m)
unfolding apply messages_after
messages-at b i s m h = go s.change
  where
    go : (c : Change) → get_or (messages_after c b.messages) m no_message ≡ message_after c m (message_at b m)
    go none = refl
    go (turn n τ) = at_turn b.messages n m τ h (same? m n)
    go (records n r) = at_turn b.messages n m claims h (same? m n)
    go (signals n) = refl

pub messages-count : (b : Board) (i : ℕ) (s : Effect) → length (apply b i s).messages ≡ length b.messages
unfolding apply messages_after
messages-count b i s = go s.change
  where
    go : (c : Change) → length (messages_after c b.messages) ≡ length b.messages
    go none = refl
    go (turn n τ) = length-set b.messages n _
    go (records n r) = length-set b.messages n _
    go (signals n) = refl

-- a step adds nothing
pub shares-still : (b : Board) (i : ℕ) (s : Effect) → Shares b.tallies (length b.messages)
    → Shares (apply b i s).tallies (length (apply b i s).messages)
unfolding apply
shares-still b i s h = subst⁻¹ (Shares b.tallies) (messages-count b i s) h

-- what was sent stays
pub sents-after : (b : Board) (i : ℕ) (s : Effect)
    → map (λ x. x.sent) (apply b i s).messages ≡ map (λ x. x.sent) b.messages
unfolding apply messages_after
sents-after b i s = go s.change
  where
    go : (c : Change) → map (λ x. x.sent) (messages_after c b.messages) ≡ map (λ x. x.sent) b.messages
    go none = refl
    go (turn n τ) = map-set_same (λ x. x.sent) b.messages n (turned τ (message_at b n)) no_message refl
    go (records n r) = map-set_same (λ x. x.sent) b.messages n (turned claims (message_at b n)) no_message refl
    go (signals n) = refl

-- the sender at a place after a change: itself, perhaps signalled
abbrev pub sender_after : Change → Sender → Sender
sender_after none d = d
sender_after (turn n τ) d = d
sender_after (records n r) d = d
sender_after (signals n) d = signalled_sender n d

pub senders-each : (c : Change) (ds : List Sender) (j : ℕ)
    → get_or (senders_after c ds) j idle_sender ≡ sender_after c (get_or ds j idle_sender)
unfolding senders_after
senders-each none ds j = refl
senders-each (turn n τ) ds j = refl
senders-each (records n r) ds j = refl
senders-each (signals n) ds j = get_or-map (signalled_sender n) ds j idle_sender

pub senders-at : (b : Board) (i : ℕ) (s : Effect) (j : ℕ) → i < length b.senders
    → sender_at (apply b i s) j ≡ sender_after s.change (pick (eqb j i) s.sender (sender_at b j))
unfolding apply senders_after
senders-at b i s j h =
    senders-each s.change (set b.senders i s.sender) j ∙ ap (sender_after s.change) (put (same? j i))
  where
    put : (j ≡ i) ⊎ (j ≢ i)
        → get_or (set b.senders i s.sender) j idle_sender ≡ pick (eqb j i) s.sender (sender_at b j)
    put (inl e) = rw (eq-eqb j i e) (rw e (get_or-set_same b.senders i s.sender idle_sender h))
    put (inr e) = rw (ne_eqb j i e) (get_or-set_other b.senders i j s.sender idle_sender e)

-- a sender after a step is as it was, or as the step leaves it, but for its signal
pub unaltered : (d : Sender) → SameButSignal d d
unaltered d = record { state = refl; own = refl; waker = refl; reply = refl; matched = refl; signalled = λ e. e }

pub like : (c : Change) (d : Sender) → SameButSignal d (sender_after c d)
like none d = unaltered d
like (turn n τ) d = unaltered d
like (records n m) d = unaltered d
like (signals n) d =
    record { state = refl; own = refl; waker = refl; reply = refl; matched = refl; signalled = λ e. rw e }

pub own_at : (b : Board) (i : ℕ) (s : Effect) → i < length b.senders
    → SameButSignal s.sender (sender_at (apply b i s) i)
own_at b i s h = rw (senders-at b i s i h, eq-eqb i i refl) (like s.change s.sender)

pub other_at : (b : Board) (i : ℕ) (s : Effect) (j : ℕ) → i < length b.senders → j ≢ i
    → SameButSignal (sender_at b j) (sender_at (apply b i s) j)
other_at b i s j h ne = rw (senders-at b i s j h, ne_eqb j i ne) (like s.change (sender_at b j))

pub senders-count : (b : Board) (i : ℕ) (s : Effect) → length (apply b i s).senders ≡ length b.senders
unfolding apply senders_after
senders-count b i s = each s.change (set b.senders i s.sender) ∙ length-set b.senders i s.sender
  where
    each : (c : Change) (ds : List Sender) → length (senders_after c ds) ≡ length ds
    each none ds = refl
    each (turn n τ) ds = refl
    each (records n m) ds = refl
    each (signals n) ds = length-map ds (signalled_sender n)

-- the matches after a change: as they were, or one more
pub matches-kept : (c : Change) (ms : List Match) → is_record c ≡ false → matches_after c ms ≡ ms
unfolding matches_after
matches-kept none ms e = refl
matches-kept (turn n τ) ms e = refl
matches-kept (records n m) ms e = never (sym e)
matches-kept (signals n) ms e = refl

pub records-count : (b : Board) (i : ℕ) (s : Effect) (n : ℕ) (m : Match) → s.change ≡ records n m
    → length (apply b i s).matches ≡ suc (length b.matches)
unfolding apply matches_after
records-count b i s n m ec = rw ec (omega (arith, length-append b.matches (m ∷ [])))

pub records-last : (b : Board) (i : ℕ) (s : Effect) (n : ℕ) (m : Match) → s.change ≡ records n m → (k : ℕ)
    → k ≡ length b.matches → match_at (apply b i s) k ≡ m
unfolding apply matches_after
records-last b i s n m ec k e = rw (ec, e) (get_or-append_seam b.matches m [] _)
