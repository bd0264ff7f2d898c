-- Fair shares: none of a sender's first 16 adds is refused for want of room, none has more than 528, and a tally is
-- the number of the sender's accepted adds.
use mathlib.Core.Path.{◌≡◌, refl, sym, ap, ◌∙◌}
use mathlib.Core.Logic.{◌≢◌, ◌⊎◌, inl, inr}
use mathlib.Core.Bool.{Bool, true, false}
use mathlib.Core.List.{List, [], ◌∷◌}
use Prim.Native.Nat.{ℕ, zero, suc, ◌+◌, ◌<◌, ◌≤◌}
use borrow.Author.Tests.{eq-eqb, ne_eqb}
use lib.Dec.{ltb}
use lib.ListN.{length}
use lib.Seq.{get_or-set_same}
use native.Mathlib.Omega.{arith}
use Rattle.model.specs.Basics.{unless, flag}
use Rattle.model.specs.Tables.{Table}
use Rattle.model.specs.Boards.{Board, Sent, sender_at, is_idle, empty_board}
use Rattle.model.specs.Effects.{Refused, number_of}
use Rattle.model.specs.Shares.{tally, has_room}
use Rattle.model.specs.Adds.{add_refusal, added, cents_ok, day_open}
use Rattle.model.specs.Pools.{Call, adds, steps, closes, answer_to, add_answer, after_all, history}
use Rattle.model.specs.Demands.{OwnShare, SharedOut, Tallied, adds_one, accepted_adds, FairShares}
use Rattle.model.proofs.Tests.{same?}
use Rattle.model.proofs.Shares.{Shares, no-tally, is-room, share-most, shares-fit, room-left}
use Rattle.model.proofs.Adds.{add-accepted}
use Rattle.model.proofs.SoundFacts.{SoundBoard, sound-facts}
use Rattle.model.proofs.SoundKept.{call_kept, empty-facts, after-facts}
use Rattle.model.proofs.StepFrame.{frame}

-- the number of an add's refusal is none but those before it, where none of its grounds is that number
unless_not : (n f next : ℕ) (u : Bool) → f ≢ n → next ≢ n → unless u f next ≢ n
unless_not n f next true p q = q
unless_not n f next false p q = p

module _ (t : Table) (b : Board) (i : ℕ) (x : Sent) where
  not-by : (n : ℕ) → 8 ≢ n → 9 ≢ n → 10 ≢ n → 19 ≢ n → 11 ≢ n → unless (has_room b.tallies i) 26 0 ≢ n
      → add_refusal t b i x ≢ n
  unfolding add_refusal
  not-by n e8 e9 e10 e19 e11 rest =
      unless_not n 8 _ (ltb i 32) e8
      (unless_not n 9 _ (is_idle (sender_at b i).state) e9
      (unless_not n 10 _ (ltb x.channel (length t.kinds)) e10
      (unless_not n 19 _ (day_open b x.day) e19
      (unless_not n 11 _ (cents_ok x.cents) e11 rest))))

  said-number : (n : ℕ) → 0 < n → add_refusal t b i x ≢ n → (answer_to t b (adds i x)).said ≢ Refused n
  said-number n l ne = go (add_refusal t b i x) ne
    where
      go : (f : ℕ) → f ≢ n → (add_answer t b i x f).said ≢ Refused n
      go zero p e = absurd (omega (arith, ap number_of e))
      go (suc f) p e = p (ap number_of e)

  no-12 : (answer_to t b (adds i x)).said ≢ Refused 12
  no-12 =
      said-number 12 (omega arith)
      (not-by 12 (λ e. omega arith) (λ e. omega arith) (λ e. omega arith) (λ e. omega arith) (λ e. omega arith)
      (unless_not 12 26 0 (has_room b.tallies i) (λ e. omega arith) (λ e. omega arith)))

  no-26 : tally b.tallies i < 16 → (answer_to t b (adds i x)).said ≢ Refused 26
  no-26 l =
      said-number 26 (omega arith)
      (not-by 26 (λ e. omega arith) (λ e. omega arith) (λ e. omega arith) (λ e. omega arith) (λ e. omega arith)
      (rw (is-room b.tallies i (inl l)) (λ e. omega arith)))

own_share : (t : Table) (b : Board) → OwnShare t b
own_share t b = record { never_12 = no-12 t b; first_16 = no-26 t b }

shared_out : (t : Table) (b : Board) → Shares b.tallies (length b.messages) → SharedOut t b
shared_out t b h = record {
  sender_most = share-most h;
  all_most = omega (arith, shares-fit h, h.total);
  fits = λ i x e. let a = add-accepted t b i x e in room-left h i a.0 a.4;
}

-- one call
module _ (t : Table) (b : Board) (s : SoundBoard t b) (i : ℕ) where
  abbrev Risen : Call → Type 0
  Risen c = tally (answer_to t b c).board.tallies i
      ≡ tally b.tallies i + flag (adds_one i c (answer_to t b c).said)

  own-risen : (x : Sent) (f : ℕ) → add_refusal t b i x ≡ f
      → tally (add_answer t b i x f).board.tallies i
      ≡ tally b.tallies i + flag (adds_one i (adds i x) (add_answer t b i x f).said)
  unfolding added
  own-risen x zero e =
      let l : i < length b.tallies = omega (arith, (add-accepted t b i x e).0, s.shares.all) in
      rw (eq-eqb i i refl) (get_or-set_same b.tallies i _ 0 l ∙ (omega arith))
  own-risen x (suc f) e = rw (eq-eqb i i refl) (omega arith)

  add-risen : (j : ℕ) (x : Sent) → (j ≡ i) ⊎ (j ≢ i) → Risen (adds j x)
  add-risen j x (inl e) = rw e (own-risen x (add_refusal t b i x) refl)
  add-risen j x (inr e) = rw (ne_eqb j i e) ((frame.add t b j x).other_tallies i (λ z. e (sym z)) ∙ (omega arith))

  call-risen : (c : Call) → Risen c
  call-risen (adds j x) = add-risen j x (same? j i)
  call-risen (steps j) = ap (λ (ks : List ℕ). tally ks i) (frame.step t b j).tallies ∙ (omega arith)
  call-risen (closes day) = ap (λ (ks : List ℕ). tally ks i) (frame.close t b day).tallies ∙ (omega arith)

tallied : (t : Table) (cs : List Call) (b : Board) → SoundBoard t b → Tallied t b cs
tallied t [] b s i = omega arith
tallied t (c ∷ cs) b s i =
    omega (arith, tallied t cs (answer_to t b c).board (call_kept t b c s) i, call-risen t b s i c)

-- from the empty board on
module _ (t : Table) (rests : List ℕ) (cs : List Call) (i : ℕ) where
  abbrev b' : Board
  b' = after_all t (empty_board rests) cs

  is-accepted : tally b'.tallies i ≡ accepted_adds i (history t (empty_board rests) cs)
  is-accepted = omega (arith, tallied t cs (empty_board rests) (empty-facts t rests) i, no-tally i)

  never_26 : (x : Sent) → accepted_adds i (history t (empty_board rests) cs) < 16
      → (answer_to t b' (adds i x)).said ≢ Refused 26
  never_26 x l = (own_share t b').first_16 i x (omega (arith, is-accepted))

  at_most_528 : accepted_adds i (history t (empty_board rests) cs) ≤ 528
  at_most_528 = omega (arith, is-accepted, share-most (after-facts t rests cs).shares i)

pub fair-shares : FairShares
fair-shares = record {
  own_share = own_share;
  shared_out = λ t b e. shared_out t b (sound-facts t b e).shares;
  tallied = λ t b cs e. tallied t cs b (sound-facts t b e);
  never_26 = never_26;
  at_most_528 = at_most_528;
}
