-- Rests, and then a new pass on h, of which B steps are known to be enough while h has a status that P allows.
use mathlib.Core.Path.{◌≡◌, refl, ◌∙◌, ap}
use mathlib.Core.Bool.{false}
use mathlib.Core.List.{List}
use Prim.Native.Nat.{ℕ, zero, suc, ◌+◌}
use lib.ListN.{get_or}
use native.Mathlib.Omega.{arith}
use Rattle.model.specs.Tables.{Table}
use Rattle.model.specs.Boards.{Board, Job, Message, Status, sender_at, message_at, no_message, working, backoff}
use Rattle.model.specs.Effects.{apply, messages_after}
use Rattle.model.specs.Jobs.{pass_from}
use Rattle.model.specs.Steps.{backoff_step, rests_then}
use Rattle.model.proofs.AtWork.{AtWork}
use Rattle.alone.proofs.Calm.{Calm, Within, within_more, later, next, working-at, work_step}
use Rattle.alone.proofs.Fresh.{Starts}

module _ (t : Table) (i h B : ℕ) (P : Status → Type 0)
    (pass : (b : Board) (k : ℕ) → Calm t b i → Starts t b i h k → P (message_at b h).status → Within t b i B) where
  pub rests-to : (rests : ℕ) {b : Board} (b₀ : Board) (k : ℕ) → Calm t b i → P (message_at b h).status
      → b₀.messages ≡ b.messages → (sender_at b i).state ≡ working (rests_then t b₀ h k rests)
      → Within t b i (rests + B)
  unfolding backoff_step apply messages_after
  rests-to zero {b} b₀ k c p e st =
      within_more (omega arith) (pass b k c
      (st ∙ ap (λ (is : List Message). working (pass_from t h (get_or is h no_message).sent.channel 0 false k)) e) p)
  rests-to (suc r) {b} b₀ k c p e st =
      let y = work_step c (working-at c st refl) in
      let x = next c y in
      within_more (omega arith) (later y (rests-to r b k x.calm p refl x.passage.own.state))

  pub backing-off : {b : Board} {w : Job} {r : ℕ} → Calm t b i → P (message_at b h).status → AtWork t b i w (backoff r)
      → w.subject ≡ h → Within t b i (suc r + B)
  unfolding backoff_step apply messages_after
  backing-off {b} {w} {r} c p a sub =
      let x = next c (work_step c a) in
      within_more (omega arith)
      (later (work_step c a) (rests-to r b w.retries x.calm p refl
      (x.passage.own.state ∙ ap (λ (o : ℕ). working (rests_then t b o w.retries r)) sub)))
