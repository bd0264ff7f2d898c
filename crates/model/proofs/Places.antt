-- Holdings by place: a step keeps the places that its job holds, takes one, drops one, or drops the last.
use mathlib.Core.Path.{◌≡◌, ap, sym, refl, ◌∙◌}
use mathlib.Core.Logic.{inl, ◌≢◌, ◌⊎◌, inr}
use mathlib.Core.Bool.{Bool, true, false}
use mathlib.Core.List.{List}
use Prim.Native.Nat.{ℕ, zero, suc}
use lib.ListN.{length, get_or}
use Rattle.model.specs.Tables.{Table}
use Rattle.model.specs.Boards.{woken, Phase, working, Board, Sender, Message}
use Rattle.model.specs.Effects.{Change, none, turn, claims, frees, consumes, wakes_by, resumes, records}
use Rattle.model.specs.Effects.{signals, Turn}
use Rattle.model.specs.Jobs.{pass_from, job_end}
use Rattle.model.specs.Steps.{rests_then}
use Rattle.model.specs.Holdings.{HeldPlace, HoldsAt, Holds}
use Rattle.model.proofs.Tests.{never, same?}
use Rattle.model.proofs.Jobs.{pass-by, job-end-by}
use Rattle.model.proofs.Grows.{status_before, apart}
use Rattle.model.proofs.Passage.{TurnsTo}
use Rattle.model.proofs.Holding.{HoldingKept, Drops, Takes}

-- neither takes nor drops
abbrev pub inert : Change → Bool
inert none = true
inert (turn m claims) = false
inert (turn m frees) = false
inert (turn m (consumes k)) = false
inert (turn m (wakes_by h)) = false
inert (turn m resumes) = true
inert (records m r) = false
inert (signals m) = true

inert-turn : (c : Change) {n : ℕ} {τ : Turn} → inert c ≡ true → TurnsTo c n τ → status_before τ ≡ woken
inert-turn none e f = never f.0
inert-turn (turn m claims) e f = never e
inert-turn (turn m frees) e f = never e
inert-turn (turn m (consumes k)) e f = never e
inert-turn (turn m (wakes_by h)) e f = never e
inert-turn (turn m resumes) e f = ap status_before (sym f.2)
inert-turn (records m r) e f = never e
inert-turn (signals m) e f = never f.0

pub same-hold : (c : Change) (A A' : ℕ → Type 0) → inert c ≡ true → ((n : ℕ) → A' n → A n) → ((n : ℕ) → A n → A' n)
    → HoldingKept c A A'
same-hold c A A' e f g = record {
  held_before = λ n x. inl (f n x);
  held_after = λ n x. inl (g n x);
  takes_held = λ n x. absurd (apart refl (inert-turn c e x));
  drops_held = λ n x. absurd (no_drop x);
  drops_free = λ n x y. no_drop x;
}
  where
    no_drop : {n : ℕ} → Drops c n → ⊥
    no_drop x = apart refl (sym x.2 ∙ inert-turn c e x.1)

pub none-held : (c : Change) (A A' : ℕ → Type 0) → inert c ≡ true → ((n : ℕ) → A n → ⊥) → ((n : ℕ) → A' n → ⊥)
    → HoldingKept c A A'
none-held c A A' e f g = same-hold c A A' e (λ n x. absurd (g n x)) (λ n x. absurd (f n x))

module _ (t : Table) (r : ℕ) (ch : List ℕ) (p p' : Phase) where
  pub keep-places : (c : Change) → inert c ≡ true
      → ((j : ℕ) → HeldPlace t r p' (length ch) j → HeldPlace t r p (length ch) j)
      → ((j : ℕ) → HeldPlace t r p (length ch) j → HeldPlace t r p' (length ch) j)
      → HoldingKept c (HoldsAt t r ch p) (HoldsAt t r ch p')
  keep-places c e f g = same-hold c (HoldsAt t r ch p) (HoldsAt t r ch p') e
      (λ n x. record { place = x.place; held = f x.place x.held; is = x.is })
      (λ n x. record { place = x.place; held = g x.place x.held; is = x.is })

  -- place k is taken
  pub take-place : (c : Change) (k : ℕ) → Takes c (get_or ch k 0)
      → HeldPlace t r p' (length ch) k
      → ((j : ℕ) → HeldPlace t r p' (length ch) j → j ≢ k → HeldPlace t r p (length ch) j)
      → ((j : ℕ) → HeldPlace t r p (length ch) j → HeldPlace t r p' (length ch) j)
      → HoldingKept c (HoldsAt t r ch p) (HoldsAt t r ch p')
  take-place c k tk hk f g = record {
    held_before = λ n x. before n x.place x.held x.is (same? x.place k);
    held_after = λ n x. inl (record { place = x.place; held = g x.place x.held; is = x.is });
    takes_held = λ n x. record { place = k; held = hk; is = sym tk.1 ∙ x.1 };
    drops_held = λ n x. absurd (no_drop x);
    drops_free = λ n x y. no_drop x;
  }
    where
      no_drop : {n : ℕ} → Drops c n → ⊥
      no_drop x = apart refl (ap status_before (sym tk.2 ∙ x.1.2) ∙ x.2)

      before : (n j : ℕ) → HeldPlace t r p' (length ch) j → get_or ch j 0 ≡ n → (j ≡ k) ⊎ (j ≢ k)
          → HoldsAt t r ch p n ⊎ Takes c n
      before n j x e (inl q) = inr (tk.0, tk.1 ∙ ap (λ (y : ℕ). get_or ch y 0) (sym q) ∙ e, tk.2)
      before n j x e (inr q) = inl (record { place = j; held = f j x q; is = e })

  -- place k is dropped; the places hold distinct messages
  pub drop-place : (c : Change) (k : ℕ) → Drops c (get_or ch k 0)
      → HeldPlace t r p (length ch) k
      → ((j : ℕ) → HeldPlace t r p' (length ch) j → HeldPlace t r p (length ch) j × (j ≢ k))
      → ((j : ℕ) → HeldPlace t r p (length ch) j → j ≢ k → HeldPlace t r p' (length ch) j)
      → ((j : ℕ) → HeldPlace t r p (length ch) j → get_or ch j 0 ≡ get_or ch k 0 → j ≡ k)
      → HoldingKept c (HoldsAt t r ch p) (HoldsAt t r ch p')
  drop-place c k dr hk f g one = record {
    held_before = λ n x. inl (record { place = x.place; held = (f x.place x.held).0; is = x.is });
    held_after = λ n x. later n x.place x.held x.is (same? x.place k);
    takes_held = λ n x. absurd (apart refl (ap status_before (sym x.2 ∙ dr.1.2) ∙ dr.2));
    drops_held = λ n x. record { place = k; held = hk; is = sym dr.1.1 ∙ x.1.1 };
    drops_free = λ n x y. let z = f y.place y.held in
        z.1 (one y.place z.0 (y.is ∙ sym x.1.1 ∙ dr.1.1));
  }
    where
      later : (n j : ℕ) → HeldPlace t r p (length ch) j → get_or ch j 0 ≡ n → (j ≡ k) ⊎ (j ≢ k)
          → HoldsAt t r ch p' n ⊎ Drops c n
      later n j x e (inl q) =
          inr (dr.0, (dr.1.0, dr.1.1 ∙ ap (λ (y : ℕ). get_or ch y 0) (sym q) ∙ e, dr.1.2), dr.2)
      later n j x e (inr q) = inl (record { place = j; held = g j x q; is = e })

-- the one place held is dropped, and nothing is held after
pub last-drop : (t : Table) (r : ℕ) (ch : List ℕ) (p : Phase) (A' : ℕ → Type 0) (c : Change) (k : ℕ)
    → Drops c (get_or ch k 0)
    → HeldPlace t r p (length ch) k
    → ((j : ℕ) → HeldPlace t r p (length ch) j → j ≡ k)
    → ((n : ℕ) → A' n → ⊥)
    → HoldingKept c (HoldsAt t r ch p) A'
last-drop t r ch p A' c k dr hk f g = record {
  held_before = λ n x. absurd (g n x);
  held_after = λ n x. inr (
    dr.0,
    (
      dr.1.0,
      dr.1.1 ∙ ap (λ (y : ℕ). get_or ch y 0) (sym (f x.place x.held)) ∙ x.is,
      dr.1.2,
    ),
    dr.2,
  );
  takes_held = λ n x. absurd (apart refl (ap status_before (sym x.2 ∙ dr.1.2) ∙ dr.2));
  drops_held = λ n x. record { place = k; held = hk; is = sym dr.1.1 ∙ x.1.1 };
  drops_free = λ n x y. g n y;
}

-- jobs and states that hold nothing
module _ (t : Table) where
  pub pass-empty : (h channel from k : ℕ) (retry : Bool) (n : ℕ)
      → Holds t (working (pass_from t h channel from retry k)) n → ⊥
  pass-empty h channel from k retry n =
      pass-by t h channel from retry k (λ w. Holds t (working w) n → ⊥) (λ l x. x.held) (λ l x. x.held)

  pub rests-empty : (b : Board) (h k rests n : ℕ) → Holds t (working (rests_then t b h k rests)) n → ⊥
  rests-empty b h k zero n x = pass-empty h _ 0 k false n x
  rests-empty b h k (suc rests) n x = x.held

  pub ends-empty : (is : List Message) (d : Sender) (h n : ℕ) → Holds t (job_end t is d h).state n → ⊥
  ends-empty is d h n =
      job-end-by t is d h (λ e. Holds t e.state n → ⊥) (λ s x. x) (λ s m e x. x) (λ s e x. x)
      (λ s v e f ne x. pass-empty v _ 0 0 false n x)
