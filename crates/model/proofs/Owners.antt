-- Every synchronous message that is not consumed has one sender, at work or blocked; a woken one is signalled, or will
-- be.
use mathlib.Core.Path.{◌≡◌, sym, ◌∙◌, subst, subst⁻¹, refl, ap}
use mathlib.Core.Logic.{◌≢◌, ◌⊎◌, inl, inr}
use mathlib.Core.Bool.{true, false, Bool}
use Prim.Native.Nat.{ℕ, ◌-◌, ◌≤◌, ◌<◌, suc}
use borrow.Author.Tests.{ltb-false, ltb-true}
use lib.Dec.{ltb}
use lib.ListN.{length}
use native.Mathlib.Omega.{arith}
use Rattle.model.specs.Tables.{Table, is_sync}
use Rattle.model.specs.Boards.{State, idle, working, woken, blocked, Board, sender_at, channel_of, message_at}
use Rattle.model.specs.Boards.{consumed, is_idle, Sender}
use Rattle.model.specs.Effects.{Change, signals, wakes_by, claims, frees, consumes, resumes}
use Rattle.model.specs.Steps.{woken_of}
use Rattle.model.proofs.Tests.{never, same?, tests}
use Rattle.model.proofs.Grows.{apart}
use Rattle.model.proofs.Passage.{TurnsTo, Passage, same, grows, on_board, After, turned_by}
use Rattle.model.proofs.Phases.{signalling}
use Rattle.model.proofs.Notes.{NotesOk, woken-waits}

-- the sender is about to signal message n, which it woke
abbrev pub WillSignal : Table → State → ℕ → Type 0
WillSignal t idle n = ⊥
WillSignal t (working w) n = (signalling w.phase ≡ true) × (woken_of t w ≡ n)
WillSignal t blocked n = ⊥

pub record Owners (t : Table) (b : Board) : Type 0 where
  pub own_one : (i j : ℕ) → 1 ≤ (sender_at b i).own → (sender_at b i).own ≡ (sender_at b j).own → i ≡ j
  pub owned : (n : ℕ) → n < length b.messages → is_sync t (channel_of b n) ≡ true → (message_at b n).status ≢ consumed
      → (j : ℕ) × (is_idle (sender_at b j).state ≡ false) × ((sender_at b j).own ≡ suc n)
  pub signal_due : (n : ℕ) → (message_at b n).status ≡ woken → (j : ℕ) → (sender_at b j).own ≡ suc n
      → ((sender_at b j).signalled ≡ true) ⊎ ((i : ℕ) × WillSignal t (sender_at b i).state n)

-- a call leaves its sender the message that it has, or gives an idle one a new message
pub data Owning (b b' : Board) (i : ℕ) (d : Sender) : Type 0 where
  keeps_own : d.own ≡ (sender_at b i).own → length b'.messages ≡ length b.messages → Owning b b' i d
  new_own : is_idle (sender_at b i).state ≡ true → is_idle d.state ≡ false → d.own ≡ suc (length b.messages)
      → length b'.messages ≡ suc (length b.messages) → Owning b b' i d

-- what a call owes; n is its sender's message
pub record OwnersKept (t : Table) (b b' : Board) (i : ℕ) (c : Change) (d : Sender) : Type 0 where
  pub owning : Owning b b' i d
  pub goes-idle : is_idle d.state ≡ true → (n : ℕ) → (sender_at b i).own ≡ suc n
      → (is_sync t (channel_of b' n) ≡ false) ⊎ ((message_at b' n).status ≡ consumed)
  pub signal_kept : (sender_at b i).signalled ≡ true → (n : ℕ) → (sender_at b i).own ≡ suc n → d.own ≡ suc n
      → (d.signalled ≡ true) ⊎ ((message_at b' n).status ≢ woken)
  pub signalling_kept : (n : ℕ) → WillSignal t (sender_at b i).state n → WillSignal t d.state n ⊎ (c ≡ signals n)
  pub signalling_new : (n h : ℕ) → TurnsTo c n (wakes_by h) → WillSignal t d.state n

module _ {b b' : Board} {i : ℕ} {c : Change} {d : Sender} (p : Passage b b' i c d) (o : Owning b b' i d) where
  caller-before : (n : ℕ) → n < length b.messages → (sender_at b' i).own ≡ suc n → (sender_at b i).own ≡ suc n
  caller-before n l e = go o
    where
      go : Owning b b' i d → (sender_at b i).own ≡ suc n
      go (keeps_own z k) = sym z ∙ sym p.own.own ∙ e
      go (new_own x y z k) = absurd (omega (arith, sym z ∙ sym p.own.own ∙ e))

  caller-after : (n : ℕ) → is_idle (sender_at b i).state ≡ false → (sender_at b i).own ≡ suc n → (sender_at b' i).own ≡ suc n
  caller-after n f e = go o
    where
      go : Owning b b' i d → (sender_at b' i).own ≡ suc n
      go (keeps_own z k) = p.own.own ∙ z ∙ e
      go (new_own x y z k) = never (sym f ∙ x)

  -- whose message an old message is stays
  pub own-before : (j n : ℕ) → n < length b.messages → (sender_at b' j).own ≡ suc n → (sender_at b j).own ≡ suc n
  own-before j n l e = go (same? j i)
    where
      go : (j ≡ i) ⊎ (j ≢ i) → (sender_at b j).own ≡ suc n
      go (inl z) = subst⁻¹ (λ (x : ℕ). (sender_at b x).own ≡ suc n) z
          (caller-before n l (subst (λ (x : ℕ). (sender_at b' x).own ≡ suc n) z e))
      go (inr z) = sym (p.others j z).own ∙ e

  pub own-after : (j n : ℕ) → is_idle (sender_at b j).state ≡ false → (sender_at b j).own ≡ suc n
      → (sender_at b' j).own ≡ suc n
  own-after j n f e = go (same? j i)
    where
      go : (j ≡ i) ⊎ (j ≢ i) → (sender_at b' j).own ≡ suc n
      go (inl z) = subst⁻¹ (λ (x : ℕ). (sender_at b' x).own ≡ suc n) z (caller-after n
          (subst (λ (x : ℕ). is_idle (sender_at b x).state ≡ false) z f)
          (subst (λ (x : ℕ). (sender_at b x).own ≡ suc n) z e))
      go (inr z) = (p.others j z).own ∙ e

module _ {t : Table} {b b' : Board} {i : ℕ} {c : Change} {d : Sender} (p : Passage b b' i c d) (ok : Owners t b)
    (in-range : (j : ℕ) → (sender_at b j).own ≤ length b.messages) (notes' : NotesOk t b')
    (k : OwnersKept t b b' i c d) where
  -- only the caller can have a new message
  caller-only : (j n : ℕ) → length b.messages ≤ n → (sender_at b' j).own ≡ suc n → j ≡ i
  caller-only j n l e = go (same? j i)
    where
      go : (j ≡ i) ⊎ (j ≢ i) → j ≡ i
      go (inl z) = z
      go (inr z) = absurd (omega (arith, in-range j, sym (p.others j z).own ∙ e))

  one-now : (x j n : ℕ) → (sender_at b' x).own ≡ suc n → (sender_at b' j).own ≡ suc n
      → (u : Bool) → ltb n (length b.messages) ≡ u → x ≡ j
  one-now x j n e f false z = caller-only x n (ltb-false _ _ z) e ∙ sym (caller-only j n (ltb-false _ _ z) f)
  one-now x j n e f true z =
      let g = own-before p k.owning x n (ltb-true _ _ z) e in
      let h = own-before p k.owning j n (ltb-true _ _ z) f in
      ok.own_one x j (omega (arith, g)) (g ∙ sym h)

  caller-idle : (n : ℕ) → (sender_at b i).own ≡ suc n → is_sync t (channel_of b' n) ≡ true
      → (message_at b' n).status ≢ consumed
      → (u : Bool) → is_idle d.state ≡ u → u ≡ false
  caller-idle n o w ne false e = refl
  caller-idle n o w ne true e = absurd (go (k.goes-idle e n o))
    where
      go : (is_sync t (channel_of b' n) ≡ false) ⊎ ((message_at b' n).status ≡ consumed) → ⊥
      go (inl x) = never (sym x ∙ w)
      go (inr x) = ne x

  owned-now : (n : ℕ) → n < length b'.messages → is_sync t (channel_of b' n) ≡ true → (message_at b' n).status ≢ consumed
      → (u : Bool) → ltb n (length b.messages) ≡ u → (j : ℕ) × (is_idle (sender_at b' j).state ≡ false)
      × ((sender_at b' j).own ≡ suc n)
  owned-now n h w ne false z = go k.owning
    where
      go : Owning b b' i d → (j : ℕ) × (is_idle (sender_at b' j).state ≡ false) × ((sender_at b' j).own ≡ suc n)
      go (keeps_own e f) = absurd (omega (tests, f))
      go (new_own x y e f) = (i, ap is_idle p.own.state ∙ y, p.own.own ∙ e ∙ (omega (tests, f)))
  owned-now n h w ne true z =
      let l = ltb-true _ _ z in
      let r = ok.owned n l (rw (p.kept n l).channel at w) (λ e. ne ((grows p).stays_consumed n l e).0) in
      (r.0, not_idle r.0 r.1 r.2 (same? r.0 i), own-after p k.owning r.0 n r.1 r.2)
    where
      not_idle : (j : ℕ) → is_idle (sender_at b j).state ≡ false → (sender_at b j).own ≡ suc n → (j ≡ i) ⊎ (j ≢ i)
          → is_idle (sender_at b' j).state ≡ false
      not_idle j f o (inr y) = ap is_idle (p.others j y).state ∙ f
      not_idle j f o (inl y) = subst⁻¹ (λ (x : ℕ). is_idle (sender_at b' x).state ≡ false) y (ap is_idle p.own.state
          ∙ caller-idle n (subst (λ (x : ℕ). (sender_at b x).own ≡ suc n) y o) w ne (is_idle d.state) refl)

  pub owned-after : (n : ℕ) → n < length b'.messages → is_sync t (channel_of b' n) ≡ true
      → (message_at b' n).status ≢ consumed
      → (j : ℕ) × (is_idle (sender_at b' j).state ≡ false) × ((sender_at b' j).own ≡ suc n)
  owned-after n h w ne = owned-now n h w ne (ltb n (length b.messages)) refl

  one-after : (x j : ℕ) → 1 ≤ (sender_at b' x).own → (sender_at b' x).own ≡ (sender_at b' j).own → x ≡ j
  one-after x j l e =
      one-now x j ((sender_at b' x).own - 1) is (sym e ∙ is) (ltb ((sender_at b' x).own - 1) (length b.messages))
      refl
    where
      is : (sender_at b' x).own ≡ suc ((sender_at b' x).own - 1)
      is = omega arith

  abbrev SignalDue : ℕ → ℕ → Type 0
  SignalDue n j = ((sender_at b' j).signalled ≡ true) ⊎ ((x : ℕ) × WillSignal t (sender_at b' x).state n)

  module _ (n : ℕ) (e : (message_at b' n).status ≡ woken) (j : ℕ) (o : (sender_at b' j).own ≡ suc n) where
    told : c ≡ signals n → (sender_at b' j).signalled ≡ true
    told z =
        let r =
        owned-after n (on_board b' n woken e (apart refl)) (woken-waits t b' notes' n e)
        (λ f. apart refl (sym e ∙ f)) in
        p.signalled n j z (subst (λ (x : ℕ). is_idle (sender_at b' x).state ≡ false)
        (one-after r.0 j (omega (arith, r.2)) (r.2 ∙ sym o)) r.1) o

    will-signal : WillSignal t d.state n ⊎ (c ≡ signals n) → SignalDue n j
    will-signal (inl x) = inr (i, subst⁻¹ (λ (s : State). WillSignal t s n) p.own.state x)
    will-signal (inr z) = inl (told z)

    old-signal : (j ≡ i) ⊎ (j ≢ i) → (sender_at b j).own ≡ suc n → (sender_at b j).signalled ≡ true
        → (sender_at b' j).signalled ≡ true
    old-signal (inr z) q s = (p.others j z).signalled s
    old-signal (inl z) q s = subst⁻¹ (λ (x : ℕ). (sender_at b' x).signalled ≡ true) z (p.own.signalled
        (go (k.signal_kept (subst (λ (x : ℕ). (sender_at b x).signalled ≡ true) z s) n
        (subst (λ (x : ℕ). (sender_at b x).own ≡ suc n) z q)
        (sym p.own.own ∙ subst (λ (x : ℕ). (sender_at b' x).own ≡ suc n) z o))))
      where
        go : (d.signalled ≡ true) ⊎ ((message_at b' n).status ≢ woken) → d.signalled ≡ true
        go (inl x) = x
        go (inr x) = absurd (x e)

    old-due : (sender_at b j).own ≡ suc n
        → ((sender_at b j).signalled ≡ true) ⊎ ((x : ℕ) × WillSignal t (sender_at b x).state n)
        → SignalDue n j
    old-due q (inl s) = inl (old-signal (same? j i) q s)
    old-due q (inr x) = go x.0 x.1 (same? x.0 i)
      where
        go : (y : ℕ) → WillSignal t (sender_at b y).state n → (y ≡ i) ⊎ (y ≢ i) → SignalDue n j
        go y s (inr z) = inr (y, subst⁻¹ (λ (x : State). WillSignal t x n) (p.others y z).state s)
        go y s (inl z) =
            will-signal (k.signalling_kept n (subst (λ (x : ℕ). WillSignal t (sender_at b x).state n) z s))

    due-now : After b b' c n → SignalDue n j
    due-now (same f s m w) =
        let was = sym s ∙ e in
        let q = own-before p k.owning j n (on_board b n woken was (apart refl)) o in
        old-due q (ok.signal_due n was j q)
    due-now (turned_by (wakes_by h) f l s z m w) = will-signal (inl (k.signalling_new n h f))
    due-now (turned_by claims f l s z m w) = absurd (apart refl (sym z ∙ e))
    due-now (turned_by frees f l s z m w) = absurd (apart refl (sym z ∙ e))
    due-now (turned_by (consumes x) f l s z m w) = absurd (apart refl (sym z ∙ e))
    due-now (turned_by resumes f l s z m w) = absurd (apart refl (sym z ∙ e))

  pub owners-after : Owners t b'
  owners-after = record {
    own_one = one-after;
    owned = owned-after;
    signal_due = λ n e j o. due-now n e j o (p.after n);
  }
