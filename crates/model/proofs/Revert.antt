-- A revert keeps the invariant: one claim is put back, and the retry mark stands for every chord.
use mathlib.Core.Path.{refl, ◌≡◌}
use mathlib.Core.Logic.{inl}
use mathlib.Core.Bool.{Bool, true, false}
use Prim.Native.Nat.{ℕ, ◌<◌, suc}
use lib.Dec.{eqb}
use lib.ListN.{length, get_or}
use native.Mathlib.Omega.{arith}
use Rattle.model.specs.Tables.{Table}
use Rattle.model.specs.Boards.{Board, Job, revert, sender_at}
use Rattle.model.specs.Effects.{frees, Reverted, turn}
use Rattle.model.specs.Jobs.{in_job}
use Rattle.model.specs.Steps.{reverted_to, revert_step}
use Rattle.model.proofs.Tests.{tests}
use Rattle.model.proofs.Grows.{Turns}
use Rattle.model.proofs.Local.{Placed}
use Rattle.model.proofs.Places.{last-drop, pass-empty, drop-place}
use Rattle.model.proofs.Covers.{subject-of, covers-retrying}
use Rattle.model.proofs.Invariant.{StepOwes}
use Rattle.model.proofs.AtWork.{AtWork, drops, job-goes-on, pass-at, job-at}

module _ {t : Table} {b : Board} {i : ℕ} {w : Job} {k m : ℕ} (c : AtWork t b i w (revert k m)) where
  p : Placed t b w (revert k m)
  p = c.job.placed

  in-chosen : (j : ℕ) → j < m → j < length w.chosen
  in-chosen j l = omega (arith, p.2, p.0.all)

  puts_back : Turns b (get_or w.chosen k 0) frees
  puts_back = drops c frees refl k (omega arith, p.1) (p.0.selection.inside k (in-chosen k p.1))

  reverted : (last : Bool) → eqb (suc k) m ≡ last → StepOwes t b i (record {
    said = Reverted (get_or w.chosen k 0);
    change = turn (get_or w.chosen k 0) frees;
    sender = in_job (sender_at b i) (reverted_to t b w k m last);
  })
  reverted true e =
      job-goes-on c _ puts_back _ refl refl refl refl (pass-at c _ _ _)
      (last-drop t w.chord w.chosen (revert k m) _ _ k (frees, (refl, refl, refl), refl) (omega arith, p.1)
      (λ j x. omega (tests, x.0, x.1)) (λ n x. pass-empty t _ _ _ _ _ n x))
      (subject-of t w.subject _ _ _ _) (λ q ns y a x. inl (covers-retrying t w.subject _ _ _ q w.retry p.3))
  reverted false e =
      job-goes-on c _ puts_back _ refl refl refl refl (job-at c _ _ _ _ (p.0, omega (tests, p.1), p.2, p.3))
      (drop-place t w.chord w.chosen (revert k m) (revert (suc k) m) _ k (frees, (refl, refl, refl), refl)
      (omega arith, p.1) (λ j x. ((omega (arith, x.0), x.1), λ z. omega (arith, x.0, z)))
      (λ j x ne. (omega (arith, x.0), x.1))
      (λ j x z. p.0.selection.one j k (in-chosen j x.1) (in-chosen k p.1) z))
      refl (λ q ns y a x. inl (inl p.3))

  pub revert-owes : StepOwes t b i (revert_step t b (sender_at b i) w k m)
  unfolding revert_step
  revert-owes = reverted (eqb (suc k) m) refl
