-- Laws of senders that have no step to take.
use Rattle.std.proofs.Common.{◌≡◌, Bool, true, false, not, ◌&&◌, List, [], ◌∷◌, map, ℕ, suc, ◌+◌, ◌<◌, ◌≤◌, length}
use Rattle.std.proofs.Common.{get_or, drop, refl, add-one}
use Rattle.std.specs.List.{list_all}
use Rattle.std.proofs.Math.ListN.{drop_of_length-le}
use Rattle.std.proofs.Math.Seq.{drop-cons}
use Rattle.model.specs.Basics.{every}
use Rattle.model.specs.Tables.{Table}
use Rattle.model.specs.Pools.{can_step}
use Rattle.state.specs.declared.Sender as DD
use Rattle.state.specs.Views.{sender_in, steps_in, sender_steps}
use Rattle.state.proofs.StateLaws.{steps-is}

pub quiet_is : (t : Table) (ds : List DD.Sender)
    → list_all (λ d. not (sender_steps d)) ds ≡ every (λ d. not (can_step d.state d.signalled)) (map (sender_in t) ds)
quiet_is t [] = refl
quiet_is t (d ∷ ds) = rw (steps-is d.state _ d.signalled, quiet_is t ds)

module _ (t : Table) (ds : List DD.Sender) where
  -- the senders from i on have no step to take
  abbrev pub quiet_from : ℕ → Bool
  quiet_from i = every (λ d. not (can_step d.state d.signalled)) (map (sender_in t) (drop i ds))

  pub quiet-end : (i : ℕ) → length ds ≤ i → quiet_from i ≡ true
  quiet-end i h = rw (drop_of_length-le ds h)

module _ (t : Table) (ds : List DD.Sender) (z : DD.Sender) (i : ℕ) (h : i < length ds) where
  quiet_at : quiet_from t ds i
      ≡ (not (steps_in (get_or ds i z).state (get_or ds i z).signalled) && quiet_from t ds (suc i))
  quiet_at = rw (drop-cons ds i z h, steps-is (get_or ds i z).state _ (get_or ds i z).signalled)

  pub quiet-no : steps_in (get_or ds i z).state (get_or ds i z).signalled ≡ true → quiet_from t ds i ≡ false
  quiet-no e = rw (quiet_at, e)

  pub quiet_next : steps_in (get_or ds i z).state (get_or ds i z).signalled ≡ false
      → quiet_from t ds i ≡ quiet_from t ds (i + 1)
  quiet_next e = rw (quiet_at, e, add-one i)
