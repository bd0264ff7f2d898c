-- What is written to the lent lists.
use Rattle.std.specs.Prelude.{◌≡◌, ℕ}
use Rattle.columns.specs.Columns.{Columns, columns_of}
use Rattle.columns.specs.MatchColumns.{MatchColumns, matches_of}
use Rattle.state.specs.declared.Change as DG
use Rattle.state.specs.declared.Job as DJ
use Rattle.boards.specs.Layout.{Lists, columns_in, matches_in}
use Rattle.writes.specs.Writes.{statuses_by, matched_by, wakers_by, chords_by, match_messages_by}

-- the columns after a change, and the matches with match k
abbrev pub columns_after : DG.Change → Columns → Columns
columns_after g c =
    columns_of c.channels c.keys c.cents (statuses_by g c.statuses) (matched_by g c.matched)
    (wakers_by g c.wakers) c.units

abbrev pub matches_with : DG.Change → ℕ → DJ.Job → MatchColumns → MatchColumns
matches_with g k j m = matches_of (chords_by g k j.chord m.chords) (match_messages_by g k j.chosen m.messages)

-- the lists l hold the columns c and the matches m
pub record ListsHold (c : Columns) (m : MatchColumns) (l : Lists) : Type 0 where
  pub columns : columns_in l ≡ c
  pub matches : matches_in l ≡ m
