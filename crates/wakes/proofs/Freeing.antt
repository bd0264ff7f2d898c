-- The place of a message freed, and the effect, where it is the last and where it is not.
use Rattle.std.proofs.Common.{◌≡◌, ◌≢◌, Bool, true, false, ℕ, suc, ◌+◌, ◌<◌, ◌≤◌, ltb, length, get_or, arith}
use Rattle.std.proofs.lemmas.Grind.{common_steps}
use Rattle.model.specs.Tables.{Table, size, first_sync}
use Rattle.model.specs.Boards.{Board}
use Rattle.model.specs.Steps.{skip, free_step}
use Rattle.state.specs.declared.Phase.TheVariants as P
use Rattle.state.specs.declared.Said.TheVariants as W
use Rattle.state.specs.declared.Turn.TheVariants as U
use Rattle.state.specs.declared.Change.TheVariants as G
use Rattle.state.specs.declared.Sender as DD
use Rattle.state.specs.Builders.{works_by, job_in_phase}
use Rattle.state.proofs.Sizes.{chord_few}
use Rattle.state.specs.Views.{job_in, sender_in, effect_in}

pub skip-under : (f k n : ℕ) → k + 1 < n → skip f k < n
unfolding skip
skip-under f k n h = under (ltb k f)
  where
    under : (b : Bool) → elim b [ true ↦ k | false ↦ suc k ] < n
    under true = omega (arith, h)
    under false = omega (arith, h)

module _ (t : Table) (b : Board) (d : DD.Sender) (k x : ℕ) (p : d.job.phase ≡ P.Free k)
    (e : x ≡ get_or (job_in t d.job).chosen (skip (first_sync t d.job.chord) k) 0)
    (few : size t d.job.chord ≤ 8) (eight : length d.job.chosen ≡ 8) where
  pub frees-last : k + 2 ≡ size t d.job.chord
      → effect_in t (works_by d (job_in_phase d.job P.Signal) (W.Freed x) (G.Turn x U.Frees))
      ≡ free_step t b (sender_in t d) (job_in t d.job) k
  unfolding free_step
  frees-last h = grind (arith, common_steps)

  pub frees-more : k + 2 ≢ size t d.job.chord
      → effect_in t (works_by d (job_in_phase d.job (P.Free (k + 1))) (W.Freed x) (G.Turn x U.Frees))
      ≡ free_step t b (sender_in t d) (job_in t d.job) k
  unfolding free_step
  frees-more h = grind (arith, common_steps)

pub ruleset frees = (chord_few, frees-last, frees-more)
