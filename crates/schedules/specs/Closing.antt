-- A closed day stays closed (rule 9.8), about what public calls return.
use Rattle.std.specs.Prelude.{◌≡◌, true, List, [], ◌∷◌, ℕ, ◌≤◌}
use Rattle.model.specs.Basics.{is_in}
use Rattle.model.specs.Boards.{Sent}
use Rattle.model.specs.Effects.{Said, Refused, Closed}
use Rattle.model.specs.Pools.{adds, closes}
use Rattle.boards.specs.Layout.{Lists}
use Rattle.calls.specs.Calls.{Calls}
use Rattle.schedules.specs.Mixes.{Act, Acts}

-- rule 9.8: on any lists, once a close was accepted, and after calls and replays in any mix, an add of the close day or
-- before is refused and changes no list
abbrev pub ClosedCalls : Type 0
ClosedCalls =
    (s : List ℕ) (l l₁ l₂ l₃ : Lists) (day : ℕ) (xs : List Act) (i : ℕ) (x : Sent) (w : Said)
    → Calls s l (closes day) Closed l₁
    → Acts s l₁ xs l₂
    → Calls s l₂ (adds i x) w l₃
    → x.day ≤ day
    → (f : ℕ) × (is_in f (8 ∷ 9 ∷ 10 ∷ 19 ∷ []) ≡ true) × (w ≡ Refused f) × (l₃ ≡ l₂)
