-- In the run of table P sender 1, in peace, takes just seven steps.
use mathlib.Core.Path.{◌≡◌, refl}
use mathlib.Core.Bool.{true, false}
use mathlib.Core.List.{List, [], ◌∷◌, map}
use Prim.Native.Nat.{ℕ, zero, suc}
use native.Mathlib.Omega.{arith}
use Rattle.model.specs.Layout.{table_of}
use Rattle.model.specs.Boards.{Board, builtin_backoffs, message_at, claimed}
use Rattle.model.specs.Pools.{Call, steps}
use Rattle.model.specs.Demands.{board_after}
use Rattle.model.specs.Samples.{table_p, send}
use Rattle.model.proofs.Backoffs.{builtin-passes}
use Rattle.model.proofs.Grows.{apart}
use Rattle.model.proofs.Samples.{opened}
use Rattle.alone.specs.Alone.{Finishes, most_steps}
use Rattle.alone.proofs.Calm.{moving}
use Rattle.alone.proofs.Theorem.{alone}

-- `a 0 1 7 0`, `s 0` twice, `a 1 0 7 5000`
abbrev calls_p : List Call
calls_p = send 0 1 7 0 ∷ steps 0 ∷ steps 0 ∷ send 1 0 7 5000 ∷ []

abbrev board_p : Board
board_p = board_after (table_of table_p) builtin_backoffs calls_p

pub seven-steps : map (moving (table_of table_p) board_p 1) (0 ∷ 6 ∷ 7 ∷ 8 ∷ []) ≡ true ∷ true ∷ false ∷ false ∷ []
unfolding opened
seven-steps = refl

none_claimed : (n : ℕ) → (message_at board_p n).status ≡ claimed → ⊥
unfolding opened
none_claimed zero e = apart refl e
none_claimed (suc zero) e = apart refl e
none_claimed (suc (suc n)) e = apart refl e

pub finishes-p : Finishes (table_of table_p) board_p 1 most_steps
unfolding opened
finishes-p =
    alone.finishes table_p builtin_backoffs calls_p 1 refl builtin-passes (omega arith)
    (alone.none_claimed table_p builtin_backoffs calls_p 1 refl none_claimed)
