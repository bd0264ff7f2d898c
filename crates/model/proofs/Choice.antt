-- The look's choice by its laws, which determine it, and what a chosen message adds.
use mathlib.Core.Path.{refl, ◌≡◌, ◌∙◌, sym, ap}
use mathlib.Core.Logic.{◌≢◌, ⊎_elim}
use mathlib.Core.Bool.{true, Bool, false, ◌&&◌}
use mathlib.Core.List.{List, ◌++◌, ◌∷◌, []}
use Prim.Native.Nat.{ℕ, ◌<◌, zero, suc}
use borrow.Author.Tests.{eq-eqb, ne_eqb, eqb-true, eqb-false, not-true}
use lib.Dec.{eqb}
use lib.ListN.{length, get_or}
use native.Mathlib.Omega.{arith}
use Rattle.model.specs.Tables.{Equality, any, same_property, same_unit, agrees, Chord, Table, chord_at}
use Rattle.model.specs.Tables.{channel_at, size}
use Rattle.model.specs.Boards.{Sent, Board, Job, message_at, is_pending, Message, no_message, is_claimed}
use Rattle.model.specs.Looks.{alike, is_free, is_before, opens, day_at, choice, subject_place, fits, some_claimed}
use Rattle.model.specs.Looks.{Chosen, the_subject, another, Takes}
use Rattle.model.proofs.Tests.{never, both, and, same?}
use Rattle.model.proofs.Oldest.{before-not, oldest-none, oldest-at, oldest-first}
use Rattle.model.proofs.Lists.{first_passes, first-before, not_in, none_of}
use Rattle.model.proofs.Lists.{snoc-all, snoc-one}
use Rattle.model.proofs.Local.{Selection}

-- alike, by its two laws
pub alike_refl : (r : Chord) (c : Sent) → alike r c c ≡ true
unfolding alike
alike_refl r c =
    go r.equal (eq-eqb c.property c.property refl) (eq-eqb c.unit c.unit refl)
  where
    go : (q : Equality) {p u : Bool} → p ≡ true → u ≡ true → agrees q p u ≡ true
    go any e f = refl
    go same_property e f = e
    go same_unit e f = and e f

abbrev Agree : Equality → Sent → Sent → Type 0
Agree q s e = agrees q (eqb e.property s.property) (eqb e.unit s.unit) ≡ true

pub alike-via : (r : Chord) (a b c : Sent) → alike r a b ≡ true → alike r a c ≡ true → alike r b c ≡ true
unfolding alike
alike-via r a b c = go r.equal
  where
    via : (x y z : ℕ) → eqb y x ≡ true → eqb z x ≡ true → eqb z y ≡ true
    via x y z e f = eq-eqb z y (eqb-true z x f ∙ sym (eqb-true y x e))

    go : (q : Equality) → Agree q a b → Agree q a c → Agree q b c
    go any e f = refl
    go same_property e f = via a.property b.property c.property e f
    go same_unit e f =
        let x = both {t = eqb b.property a.property} e in
        let y = both {t = eqb c.property a.property} f in
        and (via a.property b.property c.property x.0 y.0)
        (via a.unit b.unit c.unit x.1 y.1)

-- the messages that are open to member k
abbrev open_to : Table → Board → Job → ℕ → ℕ → Message → Bool
open_to t b w k =
    is_free (chord_at t w.chord) (channel_at t w.chord k) (message_at b w.subject).sent w.chosen

choice-hand : (t : Table) (b : Board) (w : Job) (k : ℕ) → subject_place t b w.subject w.chord ≡ k
    → choice t b w k ≡ suc w.subject
unfolding choice
choice-hand t b w k e = rw (eq-eqb _ k e)

pub choice-none : (t : Table) (b : Board) (w : Job) (k : ℕ) → choice t b w k ≡ 0 → (n : ℕ)
    → n < length b.messages → opens t b w k n ≡ false
unfolding choice
choice-none t b w k e n l = go (eqb (subject_place t b w.subject w.chord) k) refl
  where
    go : (u : Bool) → eqb (subject_place t b w.subject w.chord) k ≡ u → opens t b w k n ≡ false
    go true q = let z : suc w.subject ≡ 0 = rw (q, choice) at e in absurd (omega arith)
    go false q = oldest-none (day_at b) (open_to t b w k) b.messages (rw (q, choice) at e) n l

pub choice-some : (t : Table) (b : Board) (w : Job) (k n : ℕ) → choice t b w k ≡ suc n → Chosen t b w k n
unfolding choice
choice-some t b w k n e = go (eqb (subject_place t b w.subject w.chord) k) refl
  where
    go : (u : Bool) → eqb (subject_place t b w.subject w.chord) k ≡ u → Chosen t b w k n
    go true q = the_subject (eqb-true _ _ q) (let z : suc w.subject ≡ suc n = rw (q, choice) at e in omega arith)
    go false q =
        let r = oldest-at (day_at b) (open_to t b w k) b.messages n (rw (q, choice) at e) in
        another (eqb-false _ _ q) r.0 r.1

pub choice-first : (t : Table) (b : Board) (w : Job) (k n : ℕ) → choice t b w k ≡ suc n
    → subject_place t b w.subject w.chord ≢ k → (m : ℕ) → m < length b.messages → opens t b w k m ≡ true
    → m ≢ n → is_before (day_at b) n m ≡ true
unfolding choice
choice-first t b w k n e h =
    oldest-first (day_at b) (open_to t b w k) b.messages n
    (rw (ne_eqb (subject_place t b w.subject w.chord) k h, choice) at e)

pub choice-takes : (t : Table) (b : Board) (w : Job) (k : ℕ) → Takes t b w k (choice t b w k)
choice-takes t b w k = record {
  hand = choice-hand t b w k;
  none = choice-none t b w k;
  some = choice-some t b w k;
  first = choice-first t b w k;
}

-- the laws determine the choice
pub takes-once : (t : Table) (b : Board) (w : Job) (k c d : ℕ) → Takes t b w k c → Takes t b w k d → c ≡ d
takes-once t b w k c d p q =
    ⊎_elim (λ e. p.hand e ∙ sym (q.hand e)) (go c d p q) (same? (subject_place t b w.subject w.chord) k)
  where
    is-open : (n : ℕ) → subject_place t b w.subject w.chord ≢ k → Chosen t b w k n
        → (n < length b.messages) × (opens t b w k n ≡ true)
    is-open n h (the_subject e z) = absurd (h e)
    is-open n h (another e l o) = (l, o)

    not_none : (n : ℕ) → Takes t b w k 0 → Takes t b w k (suc n) → subject_place t b w.subject w.chord ≢ k
        → {X : Type 0} → X
    not_none n p q h = let o = is-open n h (q.some n refl) in never (sym (p.none refl n o.0) ∙ o.1)

    go : (c d : ℕ) → Takes t b w k c → Takes t b w k d → subject_place t b w.subject w.chord ≢ k → c ≡ d
    go zero zero p q h = refl
    go zero (suc n) p q h = not_none n p q h
    go (suc m) zero p q h = not_none m q p h
    go (suc m) (suc n) p q h = ⊎_elim (λ e. ap suc e) (λ e. absurd (apart e)) (same? m n)
      where
        apart : m ≢ n → ⊥
        apart e =
            let x = is-open m h (p.some m refl) in
            let y = is-open n h (q.some n refl) in
            let l = p.first m refl h n y.0 y.1 (λ z. e (sym z)) in
            let r = q.first n refl h m x.0 x.1 e in
            never (sym (before-not (day_at b) m n l) ∙ r)

pub record Fresh (t : Table) (b : Board) (h r : ℕ) (c : List ℕ) (n : ℕ) : Type 0 where
  pub on_board : n < length b.messages
  pub channel : (message_at b n).sent.channel ≡ channel_at t r (length c)
  pub property : alike (chord_at t r) (message_at b h).sent (message_at b n).sent ≡ true
  pub new : (i : ℕ) → i < length c → get_or c i 0 ≢ n
  pub at_subject : length c ≡ subject_place t b h r → n ≡ h

pub chose-selection : (t : Table) (b : Board) (h r : ℕ) (c : List ℕ) (n : ℕ) → Selection t b h r c
    → Fresh t b h r c n → Selection t b h r (c ++ (n ∷ []))
chose-selection t b h r c n q f = record {
  chord-in = q.chord-in;
  names = q.names;
  inside = snoc-all (λ j x. x < length b.messages) c n 0 q.inside f.on_board;
  kinds = snoc-all (λ j x. (message_at b x).sent.channel ≡ channel_at t r j) c n 0 q.kinds f.channel;
  props = snoc-all (λ j x. alike (chord_at t r) (message_at b h).sent (message_at b x).sent ≡ true) c n 0 q.props
      f.property;
  one = snoc-one c n 0 q.one f.new;
  subject_at = snoc-all (λ j x. j ≡ subject_place t b h r → x ≡ h) c n 0 q.subject_at f.at_subject;
}

pub chosen-fresh : (t : Table) (b : Board) (w : Job) (k n : ℕ) → w.subject < length b.messages
    → Selection t b w.subject w.chord w.chosen → length w.chosen ≡ k → k < size t w.chord
    → Chosen t b w k n → Fresh t b w.subject w.chord w.chosen n
chosen-fresh t b w k n hin q e l (the_subject p z) =
    let place : length w.chosen ≡ subject_place t b w.subject w.chord = e ∙ sym p in
    rw z (record {
      on_board = hin;
      channel = eqb-true _ _ (rw (← place)
          at (first_passes (eqb (message_at b w.subject).sent.channel) (chord_at t w.chord).channels
          (omega arith)));
      property = alike_refl (chord_at t w.chord) (message_at b w.subject).sent;
      new = λ i m a. eqb-false _ _
          (first-before (eqb (message_at b w.subject).sent.channel) (chord_at t w.chord).channels i
          (omega arith)) (rw a at (q.kinds i m));
      at_subject = λ a. refl;
    })
chosen-fresh t b w k n hin q e l (another p m o) =
    let f = both
    {t = fits (chord_at t w.chord) (channel_at t w.chord k) (message_at b w.subject).sent (message_at b n)} o in
    let g = both {t = is_pending (message_at b n).status} f.1 in
    let a = both {t = eqb (message_at b n).sent.channel (channel_at t w.chord k)} f.0 in
    record {
      on_board = m;
      channel = rw e (eqb-true _ _ a.0);
      property = a.1;
      new = not_in n w.chosen (not-true _ g.1);
      at_subject = λ z. absurd (p (sym z ∙ e));
    }

pub none_claimed : (r : Chord) (channel : ℕ) (p : Sent) (is : List Message) → some_claimed r channel p is ≡ false
    → (j : ℕ) → j < length is
    → (fits r channel p (get_or is j no_message) && is_claimed (get_or is j no_message).status) ≡ false
unfolding some_claimed
none_claimed r channel p is e j l = none_of (λ x. fits r channel p x && is_claimed x.status) is e j l
