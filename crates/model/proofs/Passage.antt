-- A call by sender i, seen place by place: from board b to b', with change c, leaving the sender as d but for its
-- signal. Steps and adds are both passages, and each part of the invariant is shown to survive every passage that pays
-- what it owes.
use mathlib.Core.Path.{◌≡◌, ap, refl, ◌∙◌, sym, subst⁻¹}
use mathlib.Core.Logic.{◌≢◌, ◌⊎◌, inl, inr}
use mathlib.Core.Bool.{Bool, false, true, not}
use mathlib.Core.List.{List, [], ◌∷◌}
use Prim.Native.Nat.{ℕ, ◌<◌, ◌≤◌, suc}
use borrow.Author.Tests.{ltb-true, ltb-false, ne_eqb, eq-eqb}
use lib.Dec.{ltb, eqb}
use lib.ListN.{length, get_or, length-append, get_or-append, get_or-eq_default}
use lib.Seq.{get_or-append_seam}
use native.Mathlib.Omega.{arith}
use Rattle.model.specs.Basics.{pick}
use Rattle.model.specs.Boards.{Board, message_at, Sender, sender_at, is_idle, Match, match_at, no_match, consumed}
use Rattle.model.specs.Boards.{Status, pending, Message, no_message}
use Rattle.model.specs.Effects.{Turn, Change, none, turn, records, signals, claims, turned, status_after}
use Rattle.model.specs.Effects.{match_after, waker_after, matches_after, frees, consumes, wakes_by, resumes}
use Rattle.model.specs.Effects.{Effect, apply}
use Rattle.model.specs.Demands.{SameButSignal}
use Rattle.model.proofs.Tests.{same?, never, or_right, and}
use Rattle.model.proofs.Frame.{messages-count, messages-at, senders-at, sender_after, own_at, other_at}
use Rattle.model.proofs.Grows.{Turns, status_before, SameSent, apart, Grows, Lawful, message-kept}

-- the turn that a change gives one message; a recorded match claims its last one
abbrev pub is_turn : Change → Bool
is_turn none = false
is_turn (turn n τ) = true
is_turn (records n m) = true
is_turn (signals n) = false

abbrev pub target_of : Change → ℕ
target_of none = 0
target_of (turn n τ) = n
target_of (records n m) = n
target_of (signals n) = 0

abbrev pub turn_by : Change → Turn
turn_by none = claims
turn_by (turn n τ) = τ
turn_by (records n m) = claims
turn_by (signals n) = claims

abbrev pub TurnsTo : Change → ℕ → Turn → Type 0
TurnsTo c n τ = (is_turn c ≡ true) × (target_of c ≡ n) × (turn_by c ≡ τ)

-- message n after the call: its notes are as they were, or it turned
pub data After (b b' : Board) (c : Change) (n : ℕ) : Type 0 where
  same : ((τ : Turn) → TurnsTo c n τ → ⊥)
      → (message_at b' n).status ≡ (message_at b n).status
      → (message_at b' n).match ≡ (message_at b n).match
      → (message_at b' n).waker ≡ (message_at b n).waker
      → After b b' c n
  turned_by : (τ : Turn) → TurnsTo c n τ
      → n < length b.messages
      → (message_at b n).status ≡ status_before τ
      → (message_at b' n).status ≡ status_after τ
      → (message_at b' n).match ≡ match_after τ (message_at b n).match
      → (message_at b' n).waker ≡ waker_after τ (message_at b n).waker
      → After b b' c n

pub record Passage (b b' : Board) (i : ℕ) (c : Change) (d : Sender) : Type 0 where
  pub more : length b.messages ≤ length b'.messages
  pub kept : (n : ℕ) → n < length b.messages → SameSent (message_at b n) (message_at b' n)
  pub after : (n : ℕ) → After b b' c n
  pub matches : b'.matches ≡ matches_after c b.matches
  pub own : SameButSignal d (sender_at b' i)
  pub others : (j : ℕ) → j ≢ i → SameButSignal (sender_at b j) (sender_at b' j)
  pub signalled : (n j : ℕ) → c ≡ signals n
      → is_idle (sender_at b' j).state ≡ false
      → (sender_at b' j).own ≡ suc n
      → (sender_at b' j).signalled ≡ true

-- match k after the call is an old one, or the one recorded
pub data MatchIs (b b' : Board) (c : Change) (k : ℕ) : Type 0 where
  old_match : k < length b.matches → match_at b' k ≡ match_at b k → MatchIs b b' c k
  new_match : (x : ℕ) (m : Match) → c ≡ records x m → k ≡ length b.matches → match_at b' k ≡ m → MatchIs b b' c k

module _ {b b' : Board} {i : ℕ} {c : Change} {d : Sender} (p : Passage b b' i c d) where
  pub match_is : (k : ℕ) → k < length b'.matches → MatchIs b b' c k
  unfolding matches_after
  match_is = go c p.matches
    where
      as-was : b'.matches ≡ b.matches → (c : Change) (k : ℕ) → k < length b'.matches → MatchIs b b' c k
      as-was e c k l = old_match (omega (arith, ap length e)) (ap (λ (ms : List Match). get_or ms k no_match) e)

      go : (c : Change) → b'.matches ≡ matches_after c b.matches → (k : ℕ) → k < length b'.matches
          → MatchIs b b' c k
      go none e k l = as-was e none k l
      go (turn n τ) e k l = as-was e (turn n τ) k l
      go (signals n) e k l = as-was e (signals n) k l
      go (records n m) e k l = at (same? k (length b.matches))
        where
          at : (k ≡ length b.matches) ⊎ (k ≢ length b.matches) → MatchIs b b' (records n m) k
          at (inl z) = new_match n m refl z (rw (e, z) (get_or-append_seam b.matches m [] no_match))
          at (inr z) =
              let h : k < length b.matches = omega (arith, ap length e, length-append b.matches (m ∷ [])) in
              old_match h (rw e (get_or-append b.matches (m ∷ []) no_match k h))

  consumed-stays : (n : ℕ) → (message_at b n).status ≡ consumed → After b b' c n
      → ((message_at b' n).status ≡ consumed) × ((message_at b' n).match ≡ (message_at b n).match)
  consumed-stays n e (same f s m w) = (s ∙ e, m)
  consumed-stays n e (turned_by τ f l s z m w) = absurd (go τ (sym s ∙ e))
    where
      go : (τ : Turn) → status_before τ ≢ consumed
      go claims = apart refl
      go frees = apart refl
      go (consumes m) = apart refl
      go (wakes_by h) = apart refl
      go resumes = apart refl

  pub grows : Grows b b'
  unfolding matches_after
  grows = record {
    messages_more = p.more;
    kept = p.kept;
    stays_consumed = λ n h e. consumed-stays n e (p.after n);
    matches_more = few c p.matches;
    matches_same = λ k h. at k h (match_is k (omega (arith, few c p.matches)));
  }
    where
      few : (c : Change) → b'.matches ≡ matches_after c b.matches → length b.matches ≤ length b'.matches
      few none e = omega (arith, ap length e)
      few (turn n τ) e = omega (arith, ap length e)
      few (records n m) e = omega (arith, ap length e, length-append b.matches (m ∷ []))
      few (signals n) e = omega (arith, ap length e)

      at : (k : ℕ) → k < length b.matches → MatchIs b b' c k → match_at b' k ≡ match_at b k
      at k h (old_match l e) = e
      at k h (new_match x m e z f) = absurd (omega arith)

-- a message with a status other than pending, or with a waker, is on the board
pub on_board : (b : Board) (n : ℕ) (x : Status) → (message_at b n).status ≡ x → x ≢ pending → n < length b.messages
on_board b n x e ne = go (ltb n (length b.messages)) refl
  where
    go : (u : Bool) → ltb n (length b.messages) ≡ u → n < length b.messages
    go true z = ltb-true _ _ z
    go false z = absurd (ne (sym e
        ∙ ap (λ (y : Message). y.status) (get_or-eq_default b.messages no_message (ltb-false _ _ z))))

pub waker-on-board : (b : Board) (n v : ℕ) → (message_at b n).waker ≡ suc v → n < length b.messages
waker-on-board b n v e = go (ltb n (length b.messages)) refl
  where
    go : (u : Bool) → ltb n (length b.messages) ≡ u → n < length b.messages
    go true z = ltb-true _ _ z
    go false z = absurd (omega (
      arith,
      sym e
          ∙ ap (λ (y : Message). y.waker) (get_or-eq_default b.messages no_message (ltb-false _ _ z)),
    ))

-- a step is a passage
module _ (b : Board) (i : ℕ) (s : Effect) (h : i < length b.senders) (l : Lawful b s.change) where
  off-board : (n : ℕ) → length b.messages ≤ n → message_at (apply b i s) n ≡ message_at b n
  off-board n z =
      get_or-eq_default (apply b i s).messages no_message (omega (arith, messages-count b i s))
      ∙ sym (get_or-eq_default b.messages no_message z)

  as-was : (c : Change) (n : ℕ) → ((τ : Turn) → TurnsTo c n τ → ⊥) → message_at (apply b i s) n ≡ message_at b n
      → After b (apply b i s) c n
  as-was c n f e =
      same f (ap (λ (x : Message). x.status) e) (ap (λ (x : Message). x.match) e) (ap (λ (x : Message). x.waker) e)

  -- a message that the change does not turn
  unturned : (n : ℕ) → (n < length b.messages → message_at (apply b i s) n ≡ message_at b n)
      → message_at (apply b i s) n ≡ message_at b n
  unturned n f = go (ltb n (length b.messages)) refl
    where
      go : (u : Bool) → ltb n (length b.messages) ≡ u → message_at (apply b i s) n ≡ message_at b n
      go true z = f (ltb-true _ _ z)
      go false z = off-board n (ltb-false _ _ z)

  turns : (m : ℕ) (τ : Turn) (c : Change) → TurnsTo c m τ → Turns b m τ
      → ((n : ℕ) → n < length b.messages
      → message_at (apply b i s) n ≡ pick (eqb n m) (turned τ (message_at b n)) (message_at b n))
      → (n : ℕ) → (n ≡ m) ⊎ (n ≢ m) → After b (apply b i s) c n
  turns m τ c f t e n (inr ne) =
      as-was c n (λ σ g. ne (sym g.1 ∙ f.1)) (unturned n (λ z. rw (ne_eqb n m ne) at (e n z)))
  turns m τ c f t e n (inl z) =
      let on : n < length b.messages = rw z t.on_board in
      let now : message_at (apply b i s) n ≡ turned τ (message_at b n) = rw (eq-eqb n m z) at (e n on) in
      turned_by τ (f.0, f.1 ∙ sym z, f.2) on (rw z t.from) (ap (λ (x : Message). x.status) now)
      (ap (λ (x : Message). x.match) now) (ap (λ (x : Message). x.waker) now)

  after-step : (c : Change) → s.change ≡ c → Lawful b c → (n : ℕ) → After b (apply b i s) c n
  after-step none e l n = as-was none n (λ τ f. never f.0) (unturned n (λ z. rw (messages-at b i s n z, e)))
  after-step (turn m τ) e l n =
      turns m τ (turn m τ) (refl, refl, refl) l (λ n z. rw (messages-at b i s n z, e)) n (same? n m)
  after-step (records m r) e l n =
      turns m claims (records m r) (refl, refl, refl) l (λ n z. rw (messages-at b i s n z, e)) n (same? n m)
  after-step (signals m) e l n =
      as-was (signals m) n (λ τ f. never f.0) (unturned n (λ z. rw (messages-at b i s n z, e)))

  told : (n j : ℕ) → s.change ≡ signals n → is_idle (sender_at (apply b i s) j).state ≡ false
      → (sender_at (apply b i s) j).own ≡ suc n → (sender_at (apply b i s) j).signalled ≡ true
  told n j e =
      subst⁻¹ (λ (d : Sender). is_idle d.state ≡ false → d.own ≡ suc n → d.signalled ≡ true) (senders-at b i s j h)
      (subst⁻¹ (λ (c : Change). is_idle (sender_after c d).state ≡ false → (sender_after c d).own ≡ suc n
      → (sender_after c d).signalled ≡ true) e
      (λ z o. or_right d.signalled (and {t = not (is_idle d.state)} (rw z) (eq-eqb d.own (suc n) o))))
    where
      d : Sender
      d = pick (eqb j i) s.sender (sender_at b j)

  pub step-passage : Passage b (apply b i s) i s.change s.sender
  unfolding apply
  step-passage = record {
    more = omega (arith, messages-count b i s);
    kept = λ n z. rw (messages-at b i s n z) (message-kept s.change n (message_at b n));
    after = after-step s.change refl l;
    matches = refl;
    own = own_at b i s h;
    others = λ j ne. other_at b i s j h ne;
    signalled = told;
  }
