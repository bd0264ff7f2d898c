-- The parts of a test that is several in a row, and those of a board of lent columns, tested in the order of the code:
-- counts, messages, matches, senders.
use mathlib.Core.Path.{◌≡◌, refl}
use mathlib.Core.Bool.{Bool, true, false, ◌&&◌, and-true, and-false}
use mathlib.Core.List.{map}
use mathlib.Mathlib.Data.Bool.Basic.{and_elim_left, and_elim_right}
use Prim.Native.Nat.{◌≤◌}
use lib.Dec.{leb}
use lib.ListN.{length, length-map}
use Rattle.model.specs.Basics.{every}
use Rattle.model.specs.Tables.{Table}
use Rattle.model.specs.Boards.{backoffs_pass}
use Rattle.model.specs.Shares.{shares_ok}
use Rattle.model.specs.Sound.{sound, message_ok, match_ok, sender_ok, none_shared}
use Rattle.model.proofs.Tests.{both}
use Rattle.columns.specs.Columns.{Columns, messages_from}
use Rattle.columns.specs.MatchColumns.{MatchColumns, match_in, matches_from}
use Rattle.columns.proofs.ListFrom.{length_from}
use Rattle.columns.proofs.Messages.{length-messages, nth-channel}
use Rattle.state.specs.Views.{sender_in}
use Rattle.boards.specs.Boards.{HeldBoard, board_in}
use Rattle.soundness.specs.Tests.{messages_ok}
use Rattle.senders.specs.Seen.{Seen, Known}
use Rattle.senders.proofs.Lent.{known_by}
use Rattle.refusals.specs.Judged.{statuses_ok}

pub ruleset parts = (and_elim_left, and_elim_right)

-- the statuses' test beside that of the messages
sorted : (s x y m z : Bool) → (s && (x && (y && (m && z)))) ≡ ((x && y) && ((s && m) && z))
sorted true true y m z = refl
sorted true false y m z = refl
sorted false true true m z = refl
sorted false true false m z = refl
sorted false false y m z = refl

-- and the last tests beside the counts
last-first : (s x y m k e n h : Bool)
    → (s && (x && (y && (m && (k && (e && (n && h))))))) ≡ (((x && y) && h) && ((s && m) && (k && (e && n))))
last-first s x y m k e n true = rw (and-true n, and-true (x && y)) (sorted s x y m (k && (e && n)))
last-first s x y m k e n false =
    rw (
      and-false n,
      and-false e,
      and-false k,
      and-false m,
      and-false y,
      and-false x,
      and-false s,
      and-false (x && y),
    )

module _ (t : Table) (b : HeldBoard) (c : Columns) (m : MatchColumns) where
  -- the senders, each by itself and all together
  abbrev pub senders_test : Bool
  senders_test =
      every (sender_ok t (board_in t b c m)) (map (sender_in t) b.senders) &&
      none_shared (map (sender_in t) b.senders)

  -- the matches, each on the board
  abbrev pub matches_test : Bool
  matches_test = every (match_ok t (board_in t b c m)) (matches_from t m 0 b.matches)

  -- a sound board, in the order of the code
  pub sound-is : length b.senders ≡ 32
      → (statuses_ok b.messages c.statuses && sound t (board_in t b c m))
      ≡ (((leb b.messages 1024 && leb b.matches 1024)
      && (shares_ok b.tallies b.messages && backoffs_pass b.backoffs))
      && (messages_ok t (board_in t b c m) c b.messages && (matches_test && senders_test)))
  unfolding sound statuses_ok
  sound-is e =
      rw (
        length-map b.senders (sender_in t),
        e,
        length-messages c 0 b.messages,
        length_from (match_in t m) 0 b.matches,
      )
      (last-first (statuses_ok b.messages c.statuses) (leb b.messages 1024) (leb b.matches 1024)
      (every (message_ok t (board_in t b c m)) (messages_from c 0 b.messages)) matches_test
      (every (sender_ok t (board_in t b c m)) (map (sender_in t) b.senders))
      (none_shared (map (sender_in t) b.senders))
      (shares_ok b.tallies b.messages && backoffs_pass b.backoffs))

  -- what the test of senders sees of the board
  pub seen-on : Seen (board_in t b c m) b.messages b.matches c.channels
  seen-on = record {
    count = length-messages c 0 b.messages;
    matches_count = length_from (match_in t m) 0 b.matches;
    channel = nth-channel c b.messages;
  }

  pub known_on : b.messages ≤ length c.channels → messages_ok t (board_in t b c m) c b.messages ≡ true
      → Known t b.messages c.channels
  unfolding statuses_ok
  known_on l e =
      known_by t (board_in t b c m) c b.messages l (both {t = statuses_ok b.messages c.statuses} e).1
