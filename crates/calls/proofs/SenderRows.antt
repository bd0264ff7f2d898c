-- Laws of what is read of the senders' numbers: a reply, and whether none has a step to take.
use mathlib.Core.Path.{◌≡◌, refl, ◌∙◌}
use mathlib.Core.Bool.{Bool, true, false}
use mathlib.Core.List.{List}
use Prim.Native.Nat.{ℕ, ◌+◌, ◌*◌, ◌<◌, ◌≤◌}
use lib.Dec.{eqb}
use lib.ListN.{get_or, drop}
use native.Mathlib.Omega.{arith}
use Rattle.model.specs.Tables.{Table}
use Rattle.model.specs.Pools.{quiet}
use Rattle.model.proofs.Parts.{part_at, part-first}
use Rattle.columns.specs.Columns.{Columns}
use Rattle.columns.specs.MatchColumns.{MatchColumns}
use Rattle.state.specs.Views.{steps_in}
use Rattle.boards.specs.Boards.{board_in, zero_sender}
use Rattle.reads.proofs.QuietLaws.{quiet_from, quiet-no, quiet_next, quiet-end}
use Rattle.rows.specs.Decoded.{state_from, board_from}
use Rattle.refusals.specs.Rows.{senders_in}
use Rattle.refusals.proofs.RowWalks.{senders-count, nth-sender}

pub reply-at : (s : List ℕ) (i : ℕ) → i < 32
    → get_or s (2 + 21 * i + 4) 0 ≡ (get_or (board_from s).senders i zero_sender).reply
unfolding board_from
reply-at s i h = rw (nth-sender s i zero_sender h, part_at s (2 + 21 * i) 21 4 0 (omega arith))

-- whether the sender of the 21 numbers from a place on may step
abbrev pub row_steps : List ℕ → ℕ → Bool
row_steps s at = steps_in (state_from (get_or s at 0)) (eqb (get_or s (at + 1) 0) 1)

module _ (t : Table) (s : List ℕ) where
  -- the senders from i on have no step to take
  abbrev pub rest_quiet : ℕ → Bool
  rest_quiet i = quiet_from t (senders_in s) i

  pub quiet_all : (c : Columns) (m : MatchColumns) → quiet (board_in t (board_from s) c m) ≡ rest_quiet 0
  unfolding board_from
  quiet_all c m = refl

  module _ (i : ℕ) (h : i < 32) where
    row-steps : let d = get_or (senders_in s) i zero_sender in
        steps_in d.state d.signalled ≡ row_steps s (2 + 21 * i)
    row-steps =
        rw (
          nth-sender s i zero_sender h,
          part-first s (2 + 21 * i) 21 0 (omega arith),
          part_at s (2 + 21 * i) 21 1 0 (omega arith),
        )

    pub rest-no : row_steps s (2 + 21 * i) ≡ true → rest_quiet i ≡ false
    rest-no e = quiet-no t (senders_in s) zero_sender i (omega (arith, senders-count 32 (drop 2 s), h)) (row-steps ∙ e)

    pub rest-next : row_steps s (2 + 21 * i) ≡ false → rest_quiet i ≡ rest_quiet (i + 1)
    rest-next e =
        quiet_next t (senders_in s) zero_sender i (omega (arith, senders-count 32 (drop 2 s), h)) (row-steps ∙ e)

  pub rest-none : (i : ℕ) → 32 ≤ i → rest_quiet i ≡ true
  rest-none i h = quiet-end t (senders_in s) i (omega (arith, senders-count 32 (drop 2 s), h))
