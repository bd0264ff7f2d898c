-- On a quiet board nothing is claimed, woken or owed.
use mathlib.Core.Path.{◌≡◌, refl, sym, ◌∙◌, ap}
use mathlib.Core.Logic.{◌⊎◌, inr, inl}
use mathlib.Core.Bool.{not, true, false, Bool}
use mathlib.Core.List.{List, [], ◌∷◌}
use Prim.Native.Nat.{ℕ, zero, suc, ◌<◌, ◌≤◌}
use borrow.Author.Tests.{not-true}
use lib.ListN.{get_or, length}
use native.Mathlib.Omega.{arith}
use Rattle.model.specs.Basics.{every, is_in}
use Rattle.model.specs.Tables.{Table}
use Rattle.model.specs.Boards.{Sender, idle_sender, idle, Board, Job, sender_at, working, State, woken, message_at}
use Rattle.model.specs.Boards.{blocked, is_idle, claimed, pending, consumed, Status, match_at}
use Rattle.model.specs.Holdings.{Holds}
use Rattle.model.specs.Pools.{can_step, quiet}
use Rattle.model.proofs.Tests.{both, never}
use Rattle.model.proofs.Grows.{apart}
use Rattle.model.proofs.Passage.{on_board}
use Rattle.model.proofs.Local.{StateOk}
use Rattle.model.proofs.Notes.{woken-waits}
use Rattle.model.proofs.Matches.{WillConsume, Unmatched}
use Rattle.model.proofs.Owners.{WillSignal}
use Rattle.model.proofs.Obligation.{Meets, Obliged, by_subject, by_waker, by_woken, by_noted}
use Rattle.model.proofs.Answering.{WillTell}
use Rattle.model.proofs.Invariant.{Inv}

still-at : (ds : List Sender) (j : ℕ) → every (λ d. not (can_step d.state d.signalled)) ds ≡ true
    → can_step (get_or ds j idle_sender).state (get_or ds j idle_sender).signalled ≡ false
still-at [] j e = refl
still-at (d ∷ ds) zero e = not-true _ (both {t = not (can_step d.state d.signalled)} e).0
still-at (d ∷ ds) (suc j) e = still-at ds j (both {t = not (can_step d.state d.signalled)} e).1

module _ (t : Table) (b : Board) (v : Inv t b) (q : quiet b ≡ true) where
  no-work : (i : ℕ) (w : Job) → (sender_at b i).state ≡ working w → ⊥
  no-work i w st = never (sym (still-at b.senders i q) ∙ ap (λ (x : State). can_step x (sender_at b i).signalled) st)

  none-woken : (n : ℕ) → (message_at b n).status ≡ woken → ⊥
  none-woken n e =
      let r = v.owners.owned n (on_board b n woken e (apart refl)) (woken-waits t b v.notes n e)
      (λ c. apart refl (sym e ∙ c)) in
      go r.0 (sender_at b r.0).state refl r.1 (v.owners.signal_due n e r.0 r.2)
    where
      busy : (x : State) → WillSignal t x n → (w : Job) × (x ≡ working w)
      busy idle p = absurd p
      busy (working w) p = (w, refl)
      busy blocked p = absurd p

      go : (j : ℕ) (x : State) → (sender_at b j).state ≡ x → is_idle (sender_at b j).state ≡ false
          → ((sender_at b j).signalled ≡ true) ⊎ ((i : ℕ) × WillSignal t (sender_at b i).state n) → ⊥
      go j x e f (inr p) = let z = busy (sender_at b p.0).state p.1 in no-work p.0 z.0 z.1
      go j idle e f (inl p) = never (sym f ∙ ap is_idle e)
      go j (working w) e f (inl p) = no-work j w e
      go j blocked e f (inl p) =
          never (sym (still-at b.senders j q) ∙ ap (λ (x : State). can_step x (sender_at b j).signalled) e ∙ p)

  none_claimed : (n : ℕ) → (message_at b n).status ≡ claimed → ⊥
  none_claimed n e = let r = v.holding.has_holder n e in go r.0 (sender_at b r.0).state refl r.1
    where
      go : (i : ℕ) (x : State) → (sender_at b i).state ≡ x → Holds t x n → ⊥
      go i idle e p = p
      go i (working w) e p = no-work i w e
      go i blocked e p = p

  pub none-consumes : (n i : ℕ) → WillConsume (sender_at b i).state n → ⊥
  none-consumes n i p = go (sender_at b i).state refl p
    where
      go : (x : State) → (sender_at b i).state ≡ x → WillConsume x n → ⊥
      go idle e p = p
      go (working w) e p = no-work i w e
      go blocked e p = p

  pub none-obliged : (r : ℕ) (ns : List ℕ) → Meets t b r ns → ((j : ℕ) → j < length ns → Unmatched b (get_or ns j 0)) → ⊥
  none-obliged r ns m u = go (v.obligation r ns m u)
    where
      go : Obliged t b r ns → ⊥
      go (by_subject i w st n c) = no-work i w st
      go (by_waker i w x st o k n) = no-work i w st
      go (by_woken n e f) = none-woken n f
      go (by_noted n x e k f) = none-woken n e

  -- pending or consumed, and pending if unmatched
  pub pending-or : (n : ℕ) → ((message_at b n).status ≡ pending) ⊎ ((message_at b n).status ≡ consumed)
  pending-or n = go (message_at b n).status refl
    where
      go : (x : Status) → (message_at b n).status ≡ x
          → ((message_at b n).status ≡ pending) ⊎ ((message_at b n).status ≡ consumed)
      go pending e = inl e
      go claimed e = absurd (none_claimed n e)
      go woken e = absurd (none-woken n e)
      go consumed e = inr e

  pub pending-unmatched : (n : ℕ) → (message_at b n).status ≡ pending → Unmatched b n
  pending-unmatched n e k l = go (is_in n (match_at b k).messages) refl
    where
      taken : ((message_at b n).status ≡ consumed) ⊎ ((i : ℕ) × WillConsume (sender_at b i).state n) → ⊥
      taken (inl c) = apart refl (sym e ∙ c)
      taken (inr p) = none-consumes n p.0 p.1

      go : (u : Bool) → is_in n (match_at b k).messages ≡ u → is_in n (match_at b k).messages ≡ false
      go false z = z
      go true z = absurd (taken (v.matches.taken n k l z))

  pub consumed-matched : (n : ℕ) → n < length b.messages → (message_at b n).status ≡ consumed → Unmatched b n → ⊥
  consumed-matched n l e u = let r = v.notes.match n e in never (sym (u r.0 r.2) ∙ r.3)

  pub none-tell : (n i : ℕ) → WillTell t b (sender_at b i).state n → ⊥
  none-tell n i p = go (sender_at b i).state refl p
    where
      go : (x : State) → (sender_at b i).state ≡ x → WillTell t b x n → ⊥
      go idle e p = p
      go (working w) e p = no-work i w e
      go blocked e p = p

  pub not-matched : (i : ℕ) → is_idle (sender_at b i).state ≡ false → 1 ≤ (sender_at b i).matched → ⊥
  not-matched i e m = go (sender_at b i).state refl (v.locals i).state_is e
    where
      go : (x : State) → (sender_at b i).state ≡ x
          → StateOk t b (sender_at b i).own (sender_at b i).waker (sender_at b i).matched x → is_idle x ≡ false → ⊥
      go idle e p f = never (sym f)
      go (working w) e p f = no-work i w e
      go blocked e p f = omega (arith, p.2)

  pub not-signalled : (i : ℕ) → is_idle (sender_at b i).state ≡ false → (sender_at b i).signalled ≡ true → ⊥
  not-signalled i e m = go (sender_at b i).state refl e
    where
      go : (x : State) → (sender_at b i).state ≡ x → is_idle x ≡ false → ⊥
      go idle e f = never (sym f)
      go (working w) e f = no-work i w e
      go blocked e f =
          never (sym (still-at b.senders i q) ∙ ap (λ (x : State). can_step x (sender_at b i).signalled) e ∙ m)
