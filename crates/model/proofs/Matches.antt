-- Matched messages are consumed, or one sender is consuming them; each is in one match.
use mathlib.Core.Path.{◌≡◌, subst, subst⁻¹, ap, sym, ◌∙◌, refl}
use mathlib.Core.Logic.{◌⊎◌, inr, inl, ◌≢◌}
use mathlib.Core.Bool.{false, true, Bool}
use Prim.Native.Nat.{ℕ, ◌≤◌, ◌<◌, suc}
use lib.ListN.{length, get_or}
use native.Mathlib.Omega.{arith}
use Rattle.model.specs.Basics.{is_in}
use Rattle.model.specs.Tables.{Table}
use Rattle.model.specs.Boards.{Job, consume, State, idle, working, blocked, Board, match_at, Match, message_at}
use Rattle.model.specs.Boards.{consumed, sender_at, Sender, Phase, claim, pending}
use Rattle.model.specs.Effects.{Change, records}
use Rattle.model.specs.Holdings.{Holds, HeldPlace}
use Rattle.model.proofs.Tests.{same?, never}
use Rattle.model.proofs.Lists.{is_in-nth}
use Rattle.model.proofs.Words.{is_record}
use Rattle.model.proofs.Grows.{apart}
use Rattle.model.proofs.Passage.{Passage, grows, match_is, MatchIs, old_match, new_match}
use Rattle.model.proofs.Phases.{still}
use Rattle.model.proofs.Holding.{Holding}

-- the sender will consume message n, of the match it is consuming
pub record WillConsumeIn (w : Job) (n : ℕ) : Type 0 where
  pub at : ℕ
  pub match : ℕ
  pub place : ℕ
  pub ph : w.phase ≡ consume at match
  pub low : at ≤ place
  pub high : place < length w.chosen
  pub is : get_or w.chosen place 0 ≡ n

abbrev pub WillConsume : State → ℕ → Type 0
WillConsume idle n = ⊥
WillConsume (working w) n = WillConsumeIn w n
WillConsume blocked n = ⊥

-- in no match
abbrev pub Unmatched : Board → ℕ → Type 0
Unmatched b n = (k : ℕ) → k < length b.matches → is_in n (match_at b k).messages ≡ false

pub record MatchesOk (b : Board) : Type 0 where
  pub taken : (n k : ℕ) → k < length b.matches → is_in n (match_at b k).messages ≡ true
      → ((message_at b n).status ≡ consumed) ⊎ ((i : ℕ) × WillConsume (sender_at b i).state n)
  pub once : (n j k : ℕ) → j < length b.matches → k < length b.matches
      → is_in n (match_at b j).messages ≡ true → is_in n (match_at b k).messages ≡ true → j ≡ k
  pub on_board : (n k : ℕ) → k < length b.matches → is_in n (match_at b k).messages ≡ true → n < length b.messages

-- what a call owes: its sender goes on consuming, and a match that it records is of unmatched messages to be consumed
pub record MatchesKept (b b' : Board) (i : ℕ) (c : Change) (d : Sender) : Type 0 where
  pub goes_on : (n : ℕ) → WillConsume (sender_at b i).state n
      → ((message_at b' n).status ≡ consumed) ⊎ WillConsume d.state n
  pub begins : (x : ℕ) (m : Match) → c ≡ records x m → (n : ℕ) → is_in n m.messages ≡ true
      → WillConsume d.state n × Unmatched b n × (n < length b.messages)

module _ {b b' : Board} {i : ℕ} {c : Change} {d : Sender} (p : Passage b b' i c d) (ok : MatchesOk b)
    (k : MatchesKept b b' i c d) where
  mine : (n : ℕ) → WillConsume d.state n
      → ((message_at b' n).status ≡ consumed) ⊎ ((j : ℕ) × WillConsume (sender_at b' j).state n)
  mine n x = inr (i, subst⁻¹ (λ (s : State). WillConsume s n) p.own.state x)

  stays : (n : ℕ) → n < length b.messages
      → ((message_at b n).status ≡ consumed) ⊎ ((j : ℕ) × WillConsume (sender_at b j).state n)
      → ((message_at b' n).status ≡ consumed) ⊎ ((j : ℕ) × WillConsume (sender_at b' j).state n)
  stays n l (inl e) = inl ((grows p).stays_consumed n l e).0
  stays n l (inr x) = go x.0 x.1 (same? x.0 i)
    where
      still-it : ((message_at b' n).status ≡ consumed) ⊎ WillConsume d.state n
          → ((message_at b' n).status ≡ consumed) ⊎ ((j : ℕ) × WillConsume (sender_at b' j).state n)
      still-it (inl z) = inl z
      still-it (inr z) = mine n z

      go : (j : ℕ) → WillConsume (sender_at b j).state n → (j ≡ i) ⊎ (j ≢ i)
          → ((message_at b' n).status ≡ consumed) ⊎ ((j : ℕ) × WillConsume (sender_at b' j).state n)
      go j y (inl z) = still-it (k.goes_on n (subst (λ (j : ℕ). WillConsume (sender_at b j).state n) z y))
      go j y (inr z) = inr (j, subst⁻¹ (λ (s : State). WillConsume s n) (p.others j z).state y)

  -- a match after the call that holds n: an old one, or the new one
  data MatchOf (n j : ℕ) : Type 0 where
    in_old : j < length b.matches → is_in n (match_at b j).messages ≡ true → MatchOf n j
    in_new : j ≡ length b.matches → WillConsume d.state n × Unmatched b n × (n < length b.messages)
        → MatchOf n j

  match-of : (n j : ℕ) → j < length b'.matches → is_in n (match_at b' j).messages ≡ true → MatchOf n j
  match-of n j l e = go (match_is p j l)
    where
      go : MatchIs b b' c j → MatchOf n j
      go (old_match h z) = in_old h (ap (λ (m : Match). is_in n m.messages) (sym z) ∙ e)
      go (new_match x m f h z) = in_new h (k.begins x m f n (ap (λ (m : Match). is_in n m.messages) (sym z) ∙ e))

  pub matches-after : MatchesOk b'
  matches-after = record {
    taken = λ n j l e. taken (match-of n j l e);
    once = λ n j k l h e f. once (match-of n j l e) (match-of n k h f);
    on_board = λ n j l e. on_it (match-of n j l e);
  }
    where
      taken : {n j : ℕ} → MatchOf n j
          → ((message_at b' n).status ≡ consumed) ⊎ ((j : ℕ) × WillConsume (sender_at b' j).state n)
      taken (in_old l e) = stays _ (ok.on_board _ _ l e) (ok.taken _ _ l e)
      taken (in_new z x) = mine _ x.0

      once : {n j k : ℕ} → MatchOf n j → MatchOf n k → j ≡ k
      once (in_old l e) (in_old h f) = ok.once _ _ _ l h e f
      once (in_old l e) (in_new z x) = never (sym (x.1 _ l) ∙ e)
      once (in_new z x) (in_old h f) = never (sym (x.1 _ h) ∙ f)
      once (in_new z x) (in_new y v) = z ∙ sym y

      on_it : {n j : ℕ} → MatchOf n j → n < length b'.messages
      on_it (in_old l e) = omega (arith, ok.on_board _ _ l e, p.more)
      on_it (in_new z x) = omega (arith, x.2, p.more)

-- a sender that is not consuming, and records no match
pub not-consuming : (b b' : Board) (i : ℕ) (c : Change) (d : Sender)
    → ((n : ℕ) → WillConsume (sender_at b i).state n → ⊥)
    → is_record c ≡ false → MatchesKept b b' i c d
not-consuming b b' i c d f e = record {
  goes_on = λ n x. absurd (f n x);
  begins = λ x m z. never (sym e ∙ ap is_record z);
}

pub still-not : (s : State) (w : Job) (p : Phase) → s ≡ working w → w.phase ≡ p → still p ≡ true → (n : ℕ)
    → WillConsume s n → ⊥
still-not s w p st ph e n x = never (ap still (sym (subst (λ (z : State). WillConsume z n) st x).ph ∙ ph) ∙ e)

pub consume-holds : (t : Table) (s : State) (n : ℕ) → WillConsume s n → Holds t s n
consume-holds t idle n x = x
consume-holds t (working w) n x = record {
  place = x.place;
  held = subst⁻¹ (λ (p : Phase). HeldPlace t w.chord p (length w.chosen) x.place) x.ph (x.low, x.high);
  is = x.is;
}
consume-holds t blocked n x = x

-- the messages of a chord whose last claim is due are in no match
pub fresh-match : (t : Table) (b : Board) (i : ℕ) (w : Job) (k : ℕ) → (sender_at b i).state ≡ working w
    → w.phase ≡ claim k
    → suc k ≡ length w.chosen → (message_at b (get_or w.chosen k 0)).status ≡ pending → Holding t b → MatchesOk b
    → (n : ℕ) → is_in n w.chosen ≡ true → Unmatched b n
fresh-match t b i w k st ph full pend hold ok n e j l = go (is_in n (match_at b j).messages) refl
  where
    status : (q : ℕ) → q < length w.chosen → get_or w.chosen q 0 ≡ n → (q ≡ k) ⊎ (q ≢ k)
        → ((message_at b n).status ≡ pending) ⊎ Holds t (sender_at b i).state n
    status q h z (inl f) = inl (sym (ap (λ (x : ℕ). (message_at b x).status)
        (ap (λ (x : ℕ). get_or w.chosen x 0) (sym f) ∙ z)) ∙ pend)
    status q h z (inr f) = inr (subst⁻¹ (λ (x : State). Holds t x n) st (record {
      place = q;
      held = subst⁻¹ (λ (x : Phase). HeldPlace t w.chord x (length w.chosen) q) ph (omega arith);
      is = z;
    }))

    clash : ((message_at b n).status ≡ pending) ⊎ Holds t (sender_at b i).state n
        → ((message_at b n).status ≡ consumed) ⊎ ((i : ℕ) × WillConsume (sender_at b i).state n) → ⊥
    clash (inl z) (inl c) = apart refl (sym z ∙ c)
    clash (inl z) (inr c) =
        apart refl (sym z ∙ hold.claimed_is c.0 n (consume-holds t (sender_at b c.0).state n c.1))
    clash (inr z) (inl c) = apart refl (sym (hold.claimed_is i n z) ∙ c)
    clash (inr z) (inr c) = still-not (sender_at b i).state w (claim k) st ph refl n
        (subst (λ (x : ℕ). WillConsume (sender_at b x).state n)
        (hold.one_holder c.0 i n (consume-holds t (sender_at b c.0).state n c.1) z) c.1)

    go : (u : Bool) → is_in n (match_at b j).messages ≡ u → u ≡ false
    go false z = refl
    go true z =
        let r = is_in-nth n w.chosen e in
        absurd (clash (status r.0 r.1 r.2 (same? r.0 k)) (ok.taken n j l z))
