-- What every board call tests first, on any bytes and numbers (rule 6.2).
use Rattle.std.specs.Prelude.{◌≡◌, Bool, ◌&&◌, List, [], ◌∷◌, ℕ, eqb, leb, length, take}
use Rattle.model.specs.Basics.{all_of, every, unless, first_of}
use Rattle.model.specs.Layout.{table_refusal, table_of}
use Rattle.model.specs.Sound.{sound}
use Rattle.columns.specs.Columns.{Columns}
use Rattle.columns.specs.MatchColumns.{MatchColumns}
use Rattle.boards.specs.Boards.{HeldBoard, board_in}
use Rattle.boards.specs.Layout.{keys_len}

-- rules 1.11 and 6.2: each column of messages has 1,024, two of them and the close day are the keys, and the matches
-- have 1,024 chords, with eight messages each
unfoldable pub lent_ok : Columns → MatchColumns → Bool
lent_ok c m =
    all_of
    (eqb (length c.channels) 1024 ∷
    eqb (length c.keys) keys_len ∷
    eqb (length c.cents) 1024 ∷
    eqb (length c.statuses) 1024 ∷
    eqb (length c.matched) 1024 ∷
    eqb (length c.wakers) 1024 ∷
    eqb (length c.units) 1024 ∷
    eqb (length m.chords) 1024 ∷
    eqb (length m.messages) 8192 ∷ [])

-- rule 6.2: the first n bytes are statuses; a byte over 3 is none
unfoldable pub statuses_ok : ℕ → List ℕ → Bool
statuses_ok n s = every (λ x. leb x 3) (take n s)

-- rule 6.2: the reader's numbers for the table, then 30
unfoldable pub board_refusal : List ℕ → HeldBoard → Columns → MatchColumns → ℕ
board_refusal s b c m =
    first_of (table_refusal s)
    (unless (lent_ok c m) 30
    (unless (statuses_ok b.messages c.statuses && sound (table_of s) (board_in (table_of s) b c m)) 30 0))

-- the lengths of lent columns that are accepted
pub record Lengths (c : Columns) (m : MatchColumns) : Type 0 where
  pub channels-len : length c.channels ≡ 1024
  pub keys-len : length c.keys ≡ keys_len
  pub cents-len : length c.cents ≡ 1024
  pub statuses_len : length c.statuses ≡ 1024
  pub matched_len : length c.matched ≡ 1024
  pub wakers_len : length c.wakers ≡ 1024
  pub units_len : length c.units ≡ 1024
  pub chords-len : length m.chords ≡ 1024
  pub messages_len : length m.messages ≡ 8192
