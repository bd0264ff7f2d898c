-- The next chord that names a channel (rule 4.1), as a number that is never over the number of chords.
-- The model's own may be over it, where the search starts there.
use Rattle.std.specs.Prelude.{ℕ, ltb, length}
use Rattle.model.specs.Basics.{pick}
use Rattle.model.specs.Tables.{Table, naming}

-- `naming` where it is a chord of the table, else the number of chords
unfoldable pub next_naming : Table → ℕ → ℕ → ℕ
next_naming t channel from =
    pick (ltb (naming t channel from) (length t.chords)) (naming t channel from) (length t.chords)
