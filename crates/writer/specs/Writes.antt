-- The tests that decide the reader's number for what a write gives (rule 2.7): counts, kinds, sizes, members.
-- The rest of the layout holds of every written table.
use Rattle.std.specs.Prelude.{Bool, ◌&&◌, List, [], ◌∷◌, ◌++◌, map, ℕ, ◌+◌, ◌*◌, ◌≤◌, leb, ltb, length, take, drop}
use Rattle.std.specs.List.{All, sum_by}
use Rattle.model.specs.Basics.{every}
use Rattle.model.specs.Tables.{Equality, Chord, Table}
use Rattle.model.specs.Layout.{written_members, members_ok, two, equality_byte}
use Rattle.codec.specs.declared.Chord as DC
use Rattle.codec.specs.Views.{chord_in}

-- rule 1.3
unfoldable pub counts_in : Table → Bool
counts_in t =
    leb 1 (length t.kinds) && (leb (length t.kinds) 16 && (leb (length t.chords) 32 &&
    leb (length (written_members t.chords)) 256))

-- rule 1.2
unfoldable pub sized : Chord → Bool
sized c = leb 1 (length c.channels) && leb (length c.channels) 8

-- rule 2.5
unfoldable pub members_written : Table → Bool
members_written t = every (λ c. members_ok (length t.kinds) c.channels) t.chords

-- the number of members of all chords
abbrev pub members_len : List DC.Chord → ℕ
members_len cs = sum_by (λ c. c.len) cs

-- the tests of a chord, as the code makes them: its size, and its channels below n
abbrev pub len_ok : DC.Chord → Bool
len_ok c = leb 1 c.len && leb c.len 8

abbrev pub channels_below : ℕ → DC.Chord → Bool
channels_below n c = every (λ x. ltb x n) (take c.len c.channels)

-- a buffer that begins with these bytes, and is kept past them
abbrev pub stored : List ℕ → List ℕ → List ℕ
stored bytes out = bytes ++ drop (length bytes) out

-- the four bytes of a chord's entry
abbrev pub entry_bytes : ℕ → ℕ → Equality → List ℕ
entry_bytes next n equal = two next ++ (n ∷ (equality_byte equal ∷ []))

-- chords of known sizes, whose members end within the bytes
pub record MembersFit (cs : List DC.Chord) (at : ℕ) (out : List ℕ) : Type 0 where
  pub channels_few : All (λ c. c.len ≤ 8) cs
  pub room : at + members_len cs ≤ length out

-- the table with these kinds and chords
abbrev pub table_with : List ℕ → List DC.Chord → Table
table_with ks cs = record { kinds = ks; chords = map chord_in cs }

-- kinds and chords whose counts are in range
pub record Counted (ks : List ℕ) (cs : List DC.Chord) : Type 0 where
  pub kinds_some : 1 ≤ length ks
  pub kinds_few : length ks ≤ 16
  pub chords_few : length cs ≤ 32

-- kinds and chords that are not refused, and room for their table
pub record Writable (ks : List ℕ) (cs : List DC.Chord) (out : List ℕ) : Type 0 where
  pub kinds_few : length ks ≤ 16
  pub chords_few : length cs ≤ 32
  pub channels_few : All (λ c. c.len ≤ 8) cs
  pub room : 12 + length ks + 4 * length cs + members_len cs ≤ length out
