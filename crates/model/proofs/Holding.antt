-- Claimed messages and the senders that hold them: a message is claimed exactly if one sender holds it.
use mathlib.Core.Path.{◌≡◌, refl, ap, ◌∙◌, sym, subst, subst⁻¹}
use mathlib.Core.Logic.{◌≢◌, ◌⊎◌, inl, inr}
use Prim.Native.Nat.{ℕ}
use Rattle.model.specs.Tables.{Table}
use Rattle.model.specs.Boards.{State, Board, claimed, sender_at, message_at, Sender}
use Rattle.model.specs.Effects.{Change, Turn, claims, status_after, frees, consumes, wakes_by, resumes}
use Rattle.model.specs.Holdings.{Holds}
use Rattle.model.proofs.Tests.{same?}
use Rattle.model.proofs.Grows.{status_before, apart}
use Rattle.model.proofs.Passage.{TurnsTo, After, Passage, same, turned_by}

pub record Holding (t : Table) (b : Board) : Type 0 where
  pub claimed_is : (i n : ℕ) → Holds t (sender_at b i).state n → (message_at b n).status ≡ claimed
  pub one_holder : (i j n : ℕ) → Holds t (sender_at b i).state n → Holds t (sender_at b j).state n → i ≡ j
  pub has_holder : (n : ℕ) → (message_at b n).status ≡ claimed → (i : ℕ) × Holds t (sender_at b i).state n

-- a change takes a message by claiming it, and drops one that was claimed
abbrev pub Takes : Change → ℕ → Type 0
Takes c n = TurnsTo c n claims

abbrev pub Drops : Change → ℕ → Type 0
Drops c n = (τ : Turn) × TurnsTo c n τ × (status_before τ ≡ claimed)

-- what a call owes: what its sender held before and holds after differ by what the change takes and drops
pub record HoldingKept (c : Change) (before after : ℕ → Type 0) : Type 0 where
  pub held_before : (n : ℕ) → after n → before n ⊎ Takes c n
  pub held_after : (n : ℕ) → before n → after n ⊎ Drops c n
  pub takes_held : (n : ℕ) → Takes c n → after n
  pub drops_held : (n : ℕ) → Drops c n → before n
  pub drops_free : (n : ℕ) → Drops c n → after n → ⊥

claims-only : (τ : Turn) → status_after τ ≡ claimed → τ ≡ claims
claims-only claims e = refl
claims-only frees e = absurd (apart refl e)
claims-only (consumes m) e = absurd (apart refl e)
claims-only (wakes_by h) e = absurd (apart refl e)
claims-only resumes e = absurd (apart refl e)

module _ {t : Table} {b b' : Board} {i : ℕ} {c : Change} {d : Sender} (p : Passage b b' i c d) (h : Holding t b)
    (k : HoldingKept c (Holds t (sender_at b i).state) (Holds t d.state)) where
  claimed-now : (n : ℕ) → Holds t d.state n → (message_at b' n).status ≡ claimed
  claimed-now n x = go (k.held_before n x) (p.after n)
    where
      go : Holds t (sender_at b i).state n ⊎ Takes c n → After b b' c n → (message_at b' n).status ≡ claimed
      go (inl y) (same f s m w) = s ∙ h.claimed_is i n y
      go (inl y) (turned_by τ f l s z m w) = absurd (k.drops_free n (τ, f, sym s ∙ h.claimed_is i n y) x)
      go (inr y) (same f s m w) = absurd (f claims y)
      go (inr y) (turned_by τ f l s z m w) = z ∙ ap status_after (sym f.2 ∙ y.2)

  claimed-still : (j n : ℕ) → j ≢ i → Holds t (sender_at b j).state n → (message_at b' n).status ≡ claimed
  claimed-still j n ne x = go (p.after n)
    where
      go : After b b' c n → (message_at b' n).status ≡ claimed
      go (same f s m w) = s ∙ h.claimed_is j n x
      go (turned_by τ f l s z m w) =
          absurd (ne (h.one_holder j i n x (k.drops_held n (τ, f, sym s ∙ h.claimed_is j n x))))

  not-both : (j n : ℕ) → j ≢ i → Holds t (sender_at b j).state n → Holds t d.state n → ⊥
  not-both j n ne x y = go (k.held_before n y) (p.after n)
    where
      go : Holds t (sender_at b i).state n ⊎ Takes c n → After b b' c n → ⊥
      go (inl z) a = ne (h.one_holder j i n x z)
      go (inr z) (same f s m w) = f claims z
      go (inr z) (turned_by τ f l s a m w) =
          apart refl (ap status_before (sym z.2 ∙ f.2) ∙ sym s ∙ h.claimed_is j n x)

  held-by : (n : ℕ) → (message_at b' n).status ≡ claimed → After b b' c n → (j : ℕ) × Holds t (sender_at b' j).state n
  held-by n e (turned_by τ f l s z m w) = (
    i,
    subst⁻¹ (λ (x : State). Holds t x n) p.own.state
        (k.takes_held n (f.0, f.1, f.2 ∙ claims-only τ (sym z ∙ e))),
  )
  held-by n e (same f s m w) = let r = h.has_holder n (sym s ∙ e) in go r.0 r.1 (same? r.0 i)
    where
      mine : Holds t d.state n ⊎ Drops c n → (j : ℕ) × Holds t (sender_at b' j).state n
      mine (inl y) = (i, subst⁻¹ (λ (x : State). Holds t x n) p.own.state y)
      mine (inr y) = absurd (f y.0 y.1)

      go : (j : ℕ) → Holds t (sender_at b j).state n → (j ≡ i) ⊎ (j ≢ i) → (j : ℕ) × Holds t (sender_at b' j).state n
      go j x (inl z) = mine (k.held_after n (subst (λ (j : ℕ). Holds t (sender_at b j).state n) z x))
      go j x (inr z) = (j, subst⁻¹ (λ (x : State). Holds t x n) (p.others j z).state x)

  -- who holds after the call: the caller as it now is, or another as it was
  data Holder (j n : ℕ) : Type 0 where
    caller : j ≡ i → Holds t d.state n → Holder j n
    another : j ≢ i → Holds t (sender_at b j).state n → Holder j n

  holder : (j n : ℕ) → Holds t (sender_at b' j).state n → Holder j n
  holder j n x = go (same? j i)
    where
      go : (j ≡ i) ⊎ (j ≢ i) → Holder j n
      go (inl e) = caller e (subst (λ (x : State). Holds t x n) p.own.state
          (subst (λ (j : ℕ). Holds t (sender_at b' j).state n) e x))
      go (inr e) = another e (subst (λ (x : State). Holds t x n) (p.others j e).state x)

  pub holding_after : Holding t b'
  holding_after = record {
    claimed_is = λ j n x. is-claimed (holder j n x);
    one_holder = λ j k n x y. is-one (holder j n x) (holder k n y);
    has_holder = λ n e. held-by n e (p.after n);
  }
    where
      is-claimed : {j n : ℕ} → Holder j n → (message_at b' n).status ≡ claimed
      is-claimed (caller e x) = claimed-now _ x
      is-claimed (another e x) = claimed-still _ _ e x

      is-one : {j k n : ℕ} → Holder j n → Holder k n → j ≡ k
      is-one (caller e x) (caller f y) = e ∙ sym f
      is-one (caller e x) (another f y) = absurd (not-both _ _ f y x)
      is-one (another e x) (caller f y) = absurd (not-both _ _ e x y)
      is-one (another e x) (another f y) = h.one_holder _ _ _ x y
