-- The board that numbers are, tested in the order of the code: counts, messages, matches, senders.
use Rattle.std.proofs.Common.{◌≡◌, Bool, true, ◌&&◌, List, map, ℕ, ◌≤◌, get_or, drop, length}
use Rattle.std.proofs.Common.{eq-eqb, le-leb}
use Rattle.std.proofs.Math.ListN.{length-map}
use mathlib.Mathlib.Data.Bool.Basic.{and_elim_right}
use Rattle.model.specs.Basics.{every}
use Rattle.model.specs.Tables.{Table}
use Rattle.model.specs.Boards.{Board}
use Rattle.model.specs.Sound.{sound, match_ok, none_shared}
use Rattle.model.proofs.Tests.{same_test, and}
use Rattle.columns.specs.Columns.{Columns}
use Rattle.columns.specs.MatchColumns.{MatchColumns, match_in, matches_from}
use Rattle.columns.proofs.ListFrom.{length_from}
use Rattle.columns.proofs.Messages.{length-messages, nth-channel}
use Rattle.state.specs.Views.{sender_in}
use Rattle.boards.specs.Boards.{board_in}
use Rattle.boards.specs.Layout.{board_len, closed_at}
use Rattle.soundness.specs.Tests.{messages_ok}
use Rattle.senders.specs.Seen.{Seen, Known}
use Rattle.senders.proofs.Lent.{known_by}
use Rattle.rows.specs.Numbers.{encodes}
use Rattle.rows.specs.Decoded.{board_from}
use Rattle.refusals.specs.Judged.{statuses_ok}
use Rattle.refusals.specs.Rows.{rows_ok, senders_in, counts_ok}
use Rattle.refusals.proofs.RowWalks.{senders-count, rows_are}
use Rattle.refusals.proofs.Parts.{parts}

module _ (t : Table) (s : List ℕ) (c : Columns) (m : MatchColumns) where
  -- the model's board
  abbrev pub board_on : Board
  board_on = board_in t (board_from s) c m

  -- the matches, each on the board
  abbrev pub matches_test : Bool
  matches_test = every (match_ok t board_on) (matches_from t m 0 (get_or s 1 0))

  -- the senders, each by itself and all together
  abbrev pub senders_test : Bool
  senders_test = rows_ok t board_on 32 (drop 2 s) && none_shared (map (sender_in t) (senders_in s))

  -- numbers of a sound board, in the order of the code
  pub numbers-sound : length s ≡ board_len → get_or s closed_at 0 ≤ 1
      → (encodes s && (statuses_ok (board_from s).messages c.statuses && sound t board_on))
      ≡ (counts_ok s && (messages_ok t board_on c (get_or s 0 0) && (matches_test && senders_test)))
  unfolding encodes board_from sound statuses_ok
  numbers-sound e f =
      rw (
        eq-eqb (length s) board_len e,
        le-leb (get_or s closed_at 0) 1 f,
        length-map (senders_in s) (sender_in t),
        senders-count 32 (drop 2 s),
        length-messages c 0 (get_or s 0 0),
        length_from (match_in t m) 0 (get_or s 1 0),
        rows_are t board_on 32 (drop 2 s),
      )
      (same_test (λ h. search (parts, and) depth 40) (λ h. search (parts, and) depth 40))

  -- what the test of senders sees of the board
  pub seen-numbers : Seen board_on (get_or s 0 0) (get_or s 1 0) c.channels
  unfolding board_from
  seen-numbers = record {
    count = length-messages c 0 (get_or s 0 0);
    matches_count = length_from (match_in t m) 0 (get_or s 1 0);
    channel = nth-channel c (get_or s 0 0);
  }

  pub known-numbers : get_or s 0 0 ≤ length c.channels → messages_ok t board_on c (get_or s 0 0) ≡ true
      → Known t (get_or s 0 0) c.channels
  unfolding board_from
  known-numbers l e = known_by t board_on c (get_or s 0 0) l (and_elim_right _ _ e)
