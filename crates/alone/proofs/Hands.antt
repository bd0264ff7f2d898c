-- The subject of a pass: on the board, synchronous or not; a waker that becomes the subject is pending.
use mathlib.Core.Path.{◌≡◌, refl, sym, ◌∙◌, ap, subst, subst⁻¹}
use mathlib.Core.Bool.{Bool, false}
use mathlib.Core.List.{List}
use Prim.Native.Nat.{ℕ, suc, ◌≤◌, ◌<◌}
use lib.ListN.{length}
use native.Mathlib.Omega.{arith}
use Rattle.model.specs.Tables.{Table, is_sync, wakes}
use Rattle.model.specs.Boards.{Board, State, Status, sender_at, message_at, channel_of, pending, claimed, woken, consumed}
use Rattle.model.specs.Boards.{is_consumed, working}
use Rattle.model.specs.Effects.{Effect, apply}
use Rattle.model.specs.Jobs.{new_pass}
use Rattle.model.specs.Steps.{to_tell}
use Rattle.model.specs.Holdings.{Holds}
use Rattle.model.proofs.Tests.{never}
use Rattle.model.proofs.Frame.{messages-count}
use Rattle.model.proofs.Local.{Full}
use Rattle.model.proofs.Places.{pass-empty}
use Rattle.model.proofs.Notes.{woken-waits}
use Rattle.alone.proofs.Calm.{Calm, Next}
use Rattle.alone.proofs.Tells.{async-tells}

-- u: whether it is synchronous
pub record Hand (t : Table) (h : ℕ) (u : Bool) (b : Board) : Type 0 where
  pub on : h < length b.messages
  pub sync : is_sync t (channel_of b h) ≡ u

pub hand_on : {t : Table} {b : Board} {i h : ℕ} {u : Bool} {e : Effect} → Next t b i e → Hand t h u b
    → Hand t h u (apply b i e)
hand_on {t} {b} {i} {h} {u} {e} x q = record {
  on = omega (arith, q.on, messages-count b i e);
  sync = rw (x.passage.kept h q.on).channel q.sync;
}

-- an asynchronous one that matches has nobody to tell
pub async-few : {t : Table} {b : Board} {h x r : ℕ} {ns : List ℕ} → Hand t h false b → x ≡ h → Full t b x r ns
    → wakes t r (channel_of b x) ≡ false → length (to_tell t b.messages x ns) ≤ 1
async-few {t} {b} {h} {x} {r} {ns} q e f m =
    let sync = subst⁻¹ (λ (y : ℕ). is_sync t (channel_of b y) ≡ false) e q.sync in
    omega (arith, ap length (async-tells t b x r ns f sync m))

-- a new pass holds nothing, so in peace a waker that is not consumed is pending
pub record Taken (t : Table) (b : Board) (v : ℕ) : Type 0 where
  pub hand : Hand t v false b
  pub pend : (message_at b v).status ≡ pending

pub taken : {t : Table} {b : Board} {i v : ℕ} → Calm t b i → (sender_at b i).waker ≡ suc v
    → is_consumed (message_at b v).status ≡ false → (sender_at b i).state ≡ working (new_pass t b.messages v 0)
    → Taken t b v
taken {t} {b} {i} {v} c e ne st =
    let r = (c.inv.locals i).waker_is v e in
    record { hand = record { on = r.0; sync = r.1 }; pend = go r.1 (message_at b v).status refl }
  where
    go : is_sync t (channel_of b v) ≡ false → (s : Status) → (message_at b v).status ≡ s → s ≡ pending
    go sy pending z = refl
    go sy claimed z = absurd
        (pass-empty t v (channel_of b v) 0 0 false v (subst (λ (x : State). Holds t x v) st (c.peace v z)))
    go sy woken z = never (sym sy ∙ woken-waits t b c.inv.notes v z)
    go sy consumed z = never (sym ne ∙ ap is_consumed z)
