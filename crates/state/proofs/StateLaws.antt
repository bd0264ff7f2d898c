-- What the views make of a state.
use mathlib.Core.Path.{◌≡◌, refl}
use mathlib.Core.Bool.{Bool}
use Rattle.model.specs.Boards.{Job, is_idle}
use Rattle.model.specs.Pools.{can_step}
use Rattle.state.specs.declared.State as DS
use Rattle.state.specs.declared.State.TheVariants as S
use Rattle.state.specs.Views.{state_in, idle_is, steps_in}

pub idle-is : (s : DS.State) (w : Job) → is_idle (state_in s w) ≡ idle_is s
idle-is S.Idle w = refl
idle-is S.Working w = refl
idle-is S.Blocked w = refl

pub steps-is : (s : DS.State) (w : Job) (g : Bool) → can_step (state_in s w) g ≡ steps_in s g
steps-is S.Idle w g = refl
steps-is S.Working w g = refl
steps-is S.Blocked w g = refl
