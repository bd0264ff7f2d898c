-- `host::gv_add` meets its contract: the call, and its answer as one number.
use mathlib.Core.Path.{◌≡◌, subst}
use mathlib.Core.List.{List}
use Prim.Native.Nat.{ℕ}
use lib.IntN.{ℤ}
use mir.Syntax.{w64}
use mir.ValLaws.{to_z-of_z}
use Rattle.model.specs.Effects.{Said}
use Rattle.model.specs.Pools.{adds}
use Rattle.boards.specs.Layout.{Lists}
use Rattle.boards.specs.Calls.{sent}
use Rattle.calls.specs.Calls.{Calls}
use Rattle.host.proofs.gv_add.Goals as goal

-- cents as the machine holds them
cents-as : {s : List ℕ} {l l' : Lists} {w : Said} (i channel property : ℕ) (x y : ℤ) (day unit : ℕ) → x ≡ y
    → Calls s l (adds i (sent channel property x day unit)) w l'
    → Calls s l (adds i (sent channel property y day unit)) w l'
cents-as {s} {l} {l'} {w} i channel property x y day unit e p =
    subst (λ (z : ℤ). Calls s l (adds i (sent channel property z day unit)) w l') e p

pub returns : goal.returns
returns c =
    let a = c.args in
    record {
      said = _;
      number = c.answer_number.ensures;
      calls = cents-as a.sender a.channel a.property _ a.amount a.day a.unit
          (to_z-of_z w64 a.amount c.ranges.amount) c.add-said.ensures;
    }
