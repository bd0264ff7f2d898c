-- The lent matches, flat, as the model's matches (rules 1.5 and 1.11): a chord a match, and eight message numbers a
-- match, of which those past the chord's size may hold anything.
use Rattle.std.specs.Prelude.{List, ℕ, ◌*◌, get_or, take, drop}
use Rattle.model.specs.Tables.{Table, size}
use Rattle.model.specs.Boards.{Match}
use Rattle.columns.specs.Columns.{list_from}

pub record MatchColumns : Type 0 where
  pub chords : List ℕ
  pub messages : List ℕ

abbrev pub matches_of : List ℕ → List ℕ → MatchColumns
matches_of chords messages = record { chords = chords; messages = messages }

unfoldable pub match_in : Table → MatchColumns → ℕ → Match
match_in t m k = record {
  chord = get_or m.chords k 0;
  messages = take (size t (get_or m.chords k 0)) (drop (8 * k) m.messages);
}

abbrev pub matches_from : Table → MatchColumns → ℕ → ℕ → List Match
matches_from t m k n = list_from (match_in t m) k n
