-- What the reader's first tests (rule 2.6) say of the bytes: counts in range, then a length that is theirs.
-- Later tests take these facts instead of the tests.
use Rattle.std.specs.Prelude.{◌≡◌, List, ℕ, ◌+◌, ◌≤◌, length}
use Rattle.model.specs.Layout.{count_t, count_r, count_m, members_start, members_sum, chord_bytes}

-- the sum of the chords' member counts, as their entries give it
abbrev pub entries_sum : List ℕ → ℕ
entries_sum s = members_sum (count_r s) (chord_bytes s)

pub record Counts (s : List ℕ) : Type 0 where
  pub long : 12 ≤ length s
  pub kinds_some : 1 ≤ count_t s
  pub kinds_few : count_t s ≤ 16
  pub chords_few : count_r s ≤ 32
  pub members_few : count_m s ≤ 256

pub record Header (s : List ℕ) : Type 0 where
  pub counts : Counts s
  pub whole : length s ≡ members_start (count_t s) (count_r s) + count_m s
