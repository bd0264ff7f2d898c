-- The lines of the report on lists that the first tests accept.
use mathlib.Core.Path.{◌≡◌, ap, subst, ◌∙◌}
use mathlib.Core.List.{List, []}
use Prim.Native.Nat.{ℕ, ◌+◌, ◌<◌, ◌≤◌}
use native.Mathlib.Omega.{arith}
use lib.IntN.{pos}
use lib.ListN.{length, get_or}
use Rattle.model.specs.Boards as MB
use Rattle.model.specs.Layout.{table_refusal, table_of}
use Rattle.model.specs.Pools.{read_match, quiet}
use Rattle.model.specs.Printing.{match_line, quiet_line}
use Rattle.columns.specs.Columns.{status_of}
use Rattle.columns.specs.MatchColumns.{match_in}
use Rattle.boards.specs.Layout.{Lists, board_len, columns_in, matches_in}
use Rattle.rows.specs.Decoded.{board_from}
use Rattle.rows.proofs.WalkLaws.{all-numbers}
use Rattle.refusals.specs.Held.{held_of, Accepted}
use Rattle.refusals.specs.Calls.{board_of, refusal_of}
use Rattle.refusals.proofs.HeldLaws.{held-is}
use Rattle.refusals.proofs.Refusals.{table-accepted, messages_few, matches_few}
use Rattle.reads.specs.Reads.{Readable}
use Rattle.reads.proofs.BoardLaws.{cents-at}
use Rattle.calls.proofs.ListReads as Reads
use Rattle.prints.specs.Printed.{Printed}
use Rattle.reports.specs.Parts.{item_line, lines_on, line_count}
use Rattle.reports.proofs.BoardLines.{lines-count, match-line, open-line, last_line}

module _ (s : List ℕ) (l : Lists) where
  pub counted : length (lines_on s l) ≡ line_count l.board
  unfolding board_from
  counted = lines-count (table_of s) (held_of l).board (columns_in l) (matches_in l)

  module _ (a : Accepted s l) where
    pub table-passed : table_refusal s ≡ 0
    table-passed = table-accepted s (held_of l).board (columns_in l) (matches_in l) a.accepted

    pub few : get_or l.board 0 0 ≤ 1024
    unfolding board_from
    few = messages_few s (held_of l).board (columns_in l) (matches_in l) a.accepted

    pub countable : (length l.board ≡ board_len) × (line_count l.board ≤ 2049)
    unfolding board_from
    countable = (
      (all-numbers l.board a.numbers).0,
      omega (arith, few, matches_few s (held_of l).board (columns_in l) (matches_in l) a.accepted),
    )

    pub match-readable : (k : ℕ) → k < get_or l.board 1 0
        → Readable (table_of s) (matches_in l) k (get_or l.board 0 0) l.cents
    match-readable k h =
        Reads.match-readable s l (ap (refusal_of s) (held-is l a.numbers a.sized) ∙ a.accepted) k h

  module _ {at r : ℕ} {out done : List ℕ} where
    -- a match line that is so on any board of these cents
    pub match-printed : (k : ℕ) → k < get_or l.board 1 0
        → ((b : MB.Board)
        → ((i : ℕ) → i < get_or l.board 0 0 → (MB.message_at b i).sent.cents ≡ get_or l.cents i (pos 0))
        → Printed out at (match_line k (read_match (table_of s) b (match_in (table_of s) (matches_in l) k))) r done)
        → Printed out at (get_or (lines_on s l) k []) r done
    unfolding board_from
    match-printed k h p =
        let t = table_of s in
        let b = (held_of l).board in
        subst (λ (w : List ℕ). Printed out at w r done) (match-line t b (columns_in l) (matches_in l) k h)
        (p (board_of s (held_of l)) (cents-at t b (columns_in l) (matches_in l)))

    pub open-printed : (i n : ℕ) → i ≡ get_or l.board 1 0 + n → n < get_or l.board 0 0
        → Printed out at (item_line n (status_of (get_or (columns_in l).statuses n 0))) r done
        → Printed out at (get_or (lines_on s l) i []) r done
    unfolding board_from
    open-printed i n e h p =
        subst (λ (w : List ℕ). Printed out at w r done)
        (open-line (table_of s) (held_of l).board (columns_in l) (matches_in l) i n e h) p

    pub last-printed : (i : ℕ) → i ≡ get_or l.board 1 0 + get_or l.board 0 0
        → Printed out at (quiet_line (quiet (board_of s (held_of l)))) r done
        → Printed out at (get_or (lines_on s l) i []) r done
    unfolding board_from
    last-printed i e p =
        subst (λ (w : List ℕ). Printed out at w r done)
        (last_line (table_of s) (held_of l).board (columns_in l) (matches_in l) i e) p
