-- On a board that was just opened nothing is read or printed, and a turn may be made.
use mathlib.Core.Path.{◌≡◌, refl, sym, subst}
use mathlib.Core.Bool.{Bool, true}
use mathlib.Core.List.{List, []}
use Prim.Native.Nat.{ℕ}
use native.Mathlib.Omega.{arith}
use lib.ListN.{get_or}
use Rattle.model.specs.Boards.{builtin_backoffs, backoffs_pass}
use Rattle.model.specs.Layout.{table_refusal}
use Rattle.columns.proofs.Passed.{passed_none}
use Rattle.boards.specs.Layout.{Lists, statuses_in}
use Rattle.rows.specs.Numbers.{board_numbers}
use Rattle.rows.specs.Fresh.{fresh_board}
use Rattle.calls.proofs.OpenLaws.{opened-empty, opened-accepted}
use Rattle.schedules.specs.Schedules.{Opened}
use Rattle.schedules.proofs.PublicCalls.{table-opened}
use Rattle.printouts.specs.declared.Stage as DS
use Rattle.printouts.specs.Stages.{SoFarBy, SoFar, Stands, Begins}

module _ (s : List ℕ) (l : Lists) (g : DS.Stage) (o : Opened s builtin_backoffs l) (b : Begins g) where
  fresh : (table_refusal s ≡ 0) × (backoffs_pass builtin_backoffs ≡ true)
      × (l.board ≡ board_numbers (fresh_board builtin_backoffs))
  fresh = table-opened s builtin_backoffs l o

  pub begun-far : SoFar s [] [] g l
  begun-far =
      subst (λ (e : Bool). SoFarBy e s [] [] g l) (sym b.goes_on)
      (record {
        answers = refl;
        board = opened-empty s builtin_backoffs fresh.1 l fresh.2;
        keeps = rw b.no_bytes;
      })

  pub begun-stands : Stands s l g
  begun-stands = record {
    accepted = opened-accepted s builtin_backoffs fresh.1 l fresh.2 fresh.0 o.sized;
    passed = rw b.from_first (passed_none (get_or l.board 0 0) (statuses_in l.bytes));
    kept = omega (arith, b.no_bytes);
    listed = omega (arith, b.first_line);
    input = [];
    text = [];
    reached = begun-far;
  }
