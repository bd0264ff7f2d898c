-- The five lists that a host lends (rule 1.11), and which part of which list is which column. A new column is one more
-- part, behind the others.
use Rattle.std.specs.Prelude.{◌≡◌, Bool, List, [], ◌∷◌, ℕ, eqb, ℤ, length}
use Rattle.model.specs.Basics.{all_of}
use Rattle.columns.specs.Columns.{Columns, columns_of, days_at}
use Rattle.columns.specs.MatchColumns.{MatchColumns, matches_of}
use Rattle.boards.specs.Parts.{part}

-- board: 0 messages, 1 matches, then 21 numbers for each of 32 senders, 674 whether a day is closed, 675 how many
-- messages each sender has added, 707 the backoff table
abbrev pub closed_at : ℕ
closed_at = 674

abbrev pub tallies_at : ℕ
tallies_at = 675

abbrev pub backoffs_at : ℕ
backoffs_at = 707

abbrev pub board_len : ℕ
board_len = 723

-- bytes: 0 channels, 1,024 statuses, 2,048 the matches' chords
abbrev pub statuses_at : ℕ
statuses_at = 1024

abbrev pub chords_at : ℕ
chords_at = 2048

abbrev pub bytes_len : ℕ
bytes_len = 3072

-- links: 0 the matches that messages note, 1,024 their wakers, 2,048 the matches' messages, eight each, 10,240 the
-- messages' units
abbrev pub wakers_at : ℕ
wakers_at = 1024

abbrev pub members_at : ℕ
members_at = 2048

abbrev pub units_at : ℕ
units_at = 10240

abbrev pub links_len : ℕ
links_len = 11264

-- keys: 0 properties, 1,024 days, 2,048 the close day
abbrev pub close_day_at : ℕ
close_day_at = 2048

abbrev pub keys_len : ℕ
keys_len = 2049

-- cents: 0 cents
abbrev pub cents_len : ℕ
cents_len = 1024

-- rule 1.11
pub record Lists : Type 0 where
  pub board : List ℕ
  pub bytes : List ℕ
  pub links : List ℕ
  pub keys : List ℕ
  pub cents : List ℤ

-- in the order of the calls' parameters
abbrev pub lists : List ℕ → List ℕ → List ℕ → List ℕ → List ℤ → Lists
lists board bytes links keys cents =
    record { board = board; bytes = bytes; links = links; keys = keys; cents = cents }

module _ (board : List ℕ) where
  abbrev pub tallies_in : List ℕ
  tallies_in = part tallies_at 32 board

  abbrev pub backoffs_in : List ℕ
  backoffs_in = part backoffs_at 16 board

module _ (bytes : List ℕ) where
  abbrev pub channels_in : List ℕ
  channels_in = part 0 1024 bytes

  abbrev pub statuses_in : List ℕ
  statuses_in = part statuses_at 1024 bytes

  abbrev pub chords_in : List ℕ
  chords_in = part chords_at 1024 bytes

module _ (links : List ℕ) where
  abbrev pub matched_in : List ℕ
  matched_in = part 0 1024 links

  abbrev pub wakers_in : List ℕ
  wakers_in = part wakers_at 1024 links

  abbrev pub members_in : List ℕ
  members_in = part members_at 8192 links

  abbrev pub units_in : List ℕ
  units_in = part units_at 1024 links

module _ (keys : List ℕ) where
  abbrev pub properties_in : List ℕ
  properties_in = part 0 1024 keys

  abbrev pub days_in : List ℕ
  days_in = part days_at 1024 keys

abbrev pub columns_in : Lists → Columns
columns_in l =
    columns_of (channels_in l.bytes) l.keys l.cents (statuses_in l.bytes) (matched_in l.links)
    (wakers_in l.links) (units_in l.links)

abbrev pub matches_in : Lists → MatchColumns
matches_in l = matches_of (chords_in l.bytes) (members_in l.links)

-- rules 1.11 and 6.2: the lists that hold messages and matches are of their lengths
unfoldable pub lists_ok : Lists → Bool
lists_ok l =
    all_of
    (eqb (length l.bytes) bytes_len ∷ eqb (length l.links) links_len ∷ eqb (length l.keys) keys_len ∷
    eqb (length l.cents) cents_len ∷ [])

pub record Sized (l : Lists) : Type 0 where
  pub bytes-len : length l.bytes ≡ bytes_len
  pub links-len : length l.links ≡ links_len
  pub keys-len : length l.keys ≡ keys_len
  pub cents-len : length l.cents ≡ cents_len
