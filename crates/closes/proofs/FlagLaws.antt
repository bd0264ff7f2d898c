-- The flag of a closed day, set in the numbers of a board.
use mathlib.Core.Path.{◌≡◌, sym, ap, ◌∙◌}
use mathlib.Core.Bool.{true}
use mathlib.Core.List.{List, ◌∷◌, ◌++◌}
use Prim.Native.Nat.{ℕ}
use lib.ListN.{set}
use lib.Seq.{set_at}
use native.Mathlib.Omega.{arith}
use Rattle.model.specs.Basics.{flag}
use Rattle.boards.specs.Boards.{HeldBoard}
use Rattle.boards.specs.Layout.{closed_at}
use Rattle.rows.specs.Fits.{BoardFits}
use Rattle.rows.specs.Numbers.{senders_numbers, board_numbers, encodes}
use Rattle.rows.specs.Decoded.{board_from}
use Rattle.rows.proofs.Encoded.{senders-long, encoded-ok, board-back}
use Rattle.rows.proofs.DecodeLaws.{from_back}
use Rattle.closes.specs.Closed.{closed_board}

flagged : (b : HeldBoard) → BoardFits b → set (board_numbers b) closed_at 1 ≡ board_numbers (closed_board b)
unfolding board_numbers
flagged b f =
    set_at (b.messages ∷ b.matches ∷ senders_numbers b.senders) (flag b.closed) (b.tallies ++ b.backoffs) 1
    closed_at (omega (arith, senders-long b.senders f.each, f.all))

pub flag_set : (s : List ℕ) → encodes s ≡ true
    → (encodes (set s closed_at 1) ≡ true) × (board_from (set s closed_at 1) ≡ closed_board (board_from s))
flag_set s ok =
    let r = from_back s ok in
    let f : BoardFits (closed_board (board_from s)) =
    record { all = r.1.all; each = r.1.each; ends = r.1.ends } in
    let e = ap (λ (x : List ℕ). set x closed_at 1) (sym r.0) ∙ flagged (board_from s) r.1 in
    rw e (encoded-ok _ f, board-back _ f)
