-- What a board call has where its first tests refuse nothing.
use mathlib.Core.Path.{◌≡◌}
use mathlib.Core.Bool.{true, ◌&&◌}
use mathlib.Core.List.{List}
use Prim.Native.Nat.{ℕ, ◌≤◌}
use native.Mathlib.Omega.{arith}
use borrow.Author.Tests.{eqb-true}
use Rattle.model.specs.Boards.{backoffs_pass}
use Rattle.model.specs.Layout.{table_refusal, table_of}
use Rattle.model.specs.Sound.{sound}
use Rattle.model.proofs.Tests.{both, unless-none, first-none}
use Rattle.model.proofs.Shares.{Shares}
use Rattle.model.proofs.SoundFacts.{SoundBoard, sound-facts, sound-rests}
use Rattle.columns.specs.Columns.{Columns}
use Rattle.columns.specs.MatchColumns.{MatchColumns, match_in}
use Rattle.columns.proofs.ListFrom.{length_from}
use Rattle.columns.proofs.Messages.{length-messages}
use Rattle.boards.specs.Boards.{HeldBoard, board_in}
use Rattle.refusals.specs.Judged.{lent_ok, statuses_ok, board_refusal, Lengths}
use Rattle.refusals.proofs.Parts.{parts}

module _ (c : Columns) (m : MatchColumns) where
  -- lent columns that are accepted, by their lengths
  pub lengths-by : lent_ok c m ≡ true → Lengths c m
  unfolding lent_ok
  lengths-by e = record {
    channels-len = search (parts, eqb-true) depth 30;
    keys-len = search (parts, eqb-true) depth 30;
    cents-len = search (parts, eqb-true) depth 30;
    statuses_len = search (parts, eqb-true) depth 30;
    matched_len = search (parts, eqb-true) depth 30;
    wakers_len = search (parts, eqb-true) depth 30;
    units_len = search (parts, eqb-true) depth 30;
    chords-len = search (parts, eqb-true) depth 30;
    messages_len = search (parts, eqb-true) depth 30;
  }

module _ (s : List ℕ) (b : HeldBoard) (c : Columns) (m : MatchColumns) (e : board_refusal s b c m ≡ 0) where
  -- the three tests, all passed
  three : (table_refusal s ≡ 0) × (lent_ok c m ≡ true) ×
      ((statuses_ok b.messages c.statuses && sound (table_of s) (board_in (table_of s) b c m)) ≡ true)
  unfolding board_refusal
  three =
      let p = first-none (table_refusal s) _ e in
      let q = unless-none (lent_ok c m) 29 _ p.1 in
      (p.0, q.0, (unless-none _ 29 0 q.1).0)

  pub table-accepted : table_refusal s ≡ 0
  table-accepted = three.0

  pub lent-whole : Lengths c m
  lent-whole = lengths-by c m three.1

  pub statuses-known : statuses_ok b.messages c.statuses ≡ true
  statuses-known = (both three.2).0

  pub board-sound : sound (table_of s) (board_in (table_of s) b c m) ≡ true
  board-sound = (both {t = statuses_ok b.messages c.statuses} three.2).1

  pub sound-board : SoundBoard (table_of s) (board_in (table_of s) b c m)
  sound-board = sound-facts (table_of s) (board_in (table_of s) b c m) board-sound

  pub messages_few : b.messages ≤ 1024
  messages_few = omega (arith, length-messages c 0 b.messages, sound-board.messages_few)

  pub board-shares : Shares b.tallies b.messages
  board-shares = rw (length-messages c 0 b.messages) at sound-board.shares

  pub board-rests : backoffs_pass b.backoffs ≡ true
  board-rests = sound-rests (table_of s) (board_in (table_of s) b c m) board-sound

  pub matches_few : b.matches ≤ 1024
  matches_few = omega (arith, length_from (match_in (table_of s) m) 0 b.matches, sound-board.matches_few)
