-- A look keeps the invariant. The one hard step is a miss: whatever would complete the chord is woken, is claimed and
-- so sets the retry mark, or is matched.
use mathlib.Core.Path.{◌≡◌, ◌∙◌, refl, subst⁻¹}
use mathlib.Core.Logic.{◌⊎◌, inl, inr, ◌≢◌}
use mathlib.Core.Bool.{Bool, true, false}
use mathlib.Core.List.{◌++◌, ◌∷◌, [], List}
use Prim.Native.Nat.{ℕ, suc, ◌≤◌, ◌<◌, zero}
use borrow.Author.Tests.{eqb-true}
use lib.Dec.{eqb}
use lib.ListN.{length, length-append}
use native.Mathlib.Omega.{arith}
use Rattle.model.specs.Basics.{pick, is_in}
use Rattle.model.specs.Tables.{Table, size}
use Rattle.model.specs.Boards.{Board, Job, look, claim, sender_at, message_at, woken, consumed}
use Rattle.model.specs.Effects.{none, Effect, apply}
use Rattle.model.specs.Jobs.{next_chord}
use Rattle.model.specs.Looks.{choice, missed_retry}
use Rattle.model.specs.Steps.{looked_by, look_step}
use Rattle.model.specs.Holdings.{HoldsAt}
use Rattle.model.proofs.Tests.{tests, neither, same?, other-false}
use Rattle.model.proofs.Frame.{messages-at}
use Rattle.model.proofs.Local.{Placed, PlacedAt, Selection}
use Rattle.model.proofs.Choice.{chose-selection, chosen-fresh, choice-some, none_claimed}
use Rattle.model.proofs.Places.{none-held, pass-empty}
use Rattle.model.proofs.Obligation.{CoversAt, Covers, Case, Obliged, by_woken, Meets}
use Rattle.model.proofs.Covers.{covered, live, covers-retrying, missed-at, status-left}
use Rattle.model.proofs.Covers.{covers-ahead, names-it, subject-of}
use Rattle.model.proofs.Invariant.{StepOwes}
use Rattle.model.proofs.AtWork.{AtWork, job-goes-on, job-at, pass-at}

module _ {t : Table} {b : Board} {i : ℕ} {w : Job} {k : ℕ} (c : AtWork t b i w (look k)) where
  -- a message is found
  module _ (n : ℕ) (e : choice t b w k ≡ suc n) where
    found-placed : (last : Bool) → eqb (suc k) (size t w.chord) ≡ last
        → PlacedAt t b w.subject w.chord (w.chosen ++ (n ∷ [])) w.retry (pick last (claim 0) (look (suc k)))
    found-placed last z = go last z
      where
        p : Placed t b w (look k)
        p = c.job.placed

        s : Selection t b w.subject w.chord (w.chosen ++ (n ∷ []))
        s = chose-selection t b w.subject w.chord w.chosen n p.0
            (chosen-fresh t b w k n c.job.subject_in p.0 p.1 p.2 (choice-some t b w k n e))

        longer : length (w.chosen ++ (n ∷ [])) ≡ suc k
        longer = omega (arith, length-append w.chosen (n ∷ []), p.1)

        go : (last : Bool) → eqb (suc k) (size t w.chord) ≡ last
            → PlacedAt t b w.subject w.chord (w.chosen ++ (n ∷ [])) w.retry
            (pick last (claim 0) (look (suc k)))
        go true z = (record { selection = s; all = longer ∙ eqb-true _ _ z }, omega (arith, p.2))
        go false z = (s, longer, omega (tests, p.2))

    found-empty : (last : Bool) (m : ℕ)
        → HoldsAt t w.chord (w.chosen ++ (n ∷ [])) (pick last (claim 0) (look (suc k))) m → ⊥
    found-empty true m x = omega (arith, x.held)
    found-empty false m x = x.held

    found-covers : (last : Bool) (q : ℕ) → (w.retry ≡ true) ⊎ (w.chord ≤ q)
        → CoversAt (pick last (claim 0) (look (suc k))) w.retry w.chord q
    found-covers true q x = x
    found-covers false q x = x

    found : StepOwes t b i (looked_by t b (sender_at b i) w k (suc n))
    found =
        let last = eqb (suc k) (size t w.chord) in
        job-goes-on c _ tt _ refl refl refl refl (job-at c _ _ _ _ (found-placed last refl))
        (none-held _ _ _ refl (λ m x. x.held) (found-empty last)) refl
        (λ q ns y a x. inl (found-covers last q (covered w q (look k) c.phase x)))

  -- there is none
  module _ (e : choice t b w k ≡ 0) where
    abbrev s : Effect
    s = looked_by t b (sender_at b i) w k 0

    module _ (q : ℕ) (ns : List ℕ) (x : Case t b (apply b i s) i none s.sender q ns) where
      -- a message of the list that fits and is not pending, where no claimed one fits
      left : (n : ℕ) → is_in n ns ≡ true → n < length b.messages
          → ((message_at b n).status ≡ woken) ⊎ ((message_at b n).status ≡ consumed) → Obliged t (apply b i s) q ns
      left n a l (inl z) = by_woken n a (rw (messages-at b i s n l) z)
      left n a l (inr z) = absurd (live x n a (rw (messages-at b i s n l) z))

      at-chord : is_in w.subject ns ≡ true → w.chord ≡ q → (u : Bool) → missed_retry t b w k ≡ u
          → Covers (next_chord t b w (missed_retry t b w k)) q ⊎ Obliged t (apply b i s) q ns
      at-chord a d true z = inl (covers-retrying t w.subject _ _ _ q _ z)
      at-chord a d false z =
          let p = c.job.placed in
          let r = missed-at t b w k ns p.0 p.1 p.2 e (subst⁻¹ (λ (r : ℕ). Meets t b r ns) d x.meets) a in
          inr (left r.0 r.1 r.2 (status-left _ r.4
          (other-false _ _ (none_claimed _ _ _ b.messages (neither {t = w.retry} z).1 r.0 r.2) r.3)))

      missed-covers : is_in w.subject ns ≡ true → (w.retry ≡ true) ⊎ (w.chord ≤ q) → (w.chord ≡ q) ⊎ (w.chord ≢ q)
          → Covers (next_chord t b w (missed_retry t b w k)) q ⊎ Obliged t (apply b i s) q ns
      missed-covers a (inl z) d = inl (covers-retrying t w.subject _ _ _ q _ (rw z))
      missed-covers a (inr z) (inl d) = at-chord a d (missed_retry t b w k) refl
      missed-covers a (inr z) (inr d) =
          inl (covers-ahead t w.subject _ _ _ q _ x.meets.chord-in (omega arith) (names-it x w.subject a))

    missed : StepOwes t b i (looked_by t b (sender_at b i) w k 0)
    missed =
        job-goes-on c _ tt _ refl refl refl refl (pass-at c _ _ _)
        (none-held _ _ _ refl (λ n x. x.held) (λ n x. pass-empty t _ _ _ _ _ n x))
        (subject-of t w.subject _ _ _ _)
        (λ q ns y a x. missed-covers q ns y a (covered w q (look k) c.phase x) (same? w.chord q))

  pub look-owes : StepOwes t b i (look_step t b (sender_at b i) w k)
  unfolding look_step
  look-owes = go (choice t b w k) refl
    where
      go : (n : ℕ) → choice t b w k ≡ n → StepOwes t b i (looked_by t b (sender_at b i) w k n)
      go zero e = missed e
      go (suc n) e = found n e
