-- The first number that passes a test, and the tests that a look makes of a message's number (rules 4.2 and 4.3).
use Rattle.std.specs.Prelude.{◌≡◌, Bool, true, false, ◌&&◌, not, List, ℕ, zero, suc, ◌+◌, ◌%◌, ◌<◌, ◌≤◌, eqb, ltb, get_or}
use Rattle.model.specs.Basics.{is_in, pick}
use Rattle.model.specs.Tables.{agrees, Chord}
use Rattle.model.specs.Boards.{Sent}
use Rattle.table.specs.Equalities.{equality_in}
use Rattle.columns.specs.Columns.{days_at}
use Rattle.columns.specs.declared.Want as DW

-- the first of n numbers from i on that passes, plus 1; 0 for none
unfoldable pub first_from : (ℕ → Bool) → ℕ → ℕ → ℕ
first_from p i zero = 0
first_from p i (suc n) = pick (p i) (suc i) (first_from p (suc i) n)

-- whether there is one
abbrev pub found : ℕ → Bool
found zero = false
found (suc k) = true

-- whole blocks of 64 are passed over, from number i up to j: none of their numbers passes
abbrev pub Skipped : (ℕ → Bool) → ℕ → ℕ → Type 0
Skipped p i j = (i ≤ j) × (j ≤ 1024) × (j % 64 ≡ 0) × ((k : ℕ) → i ≤ k → k < j → p k ≡ false)

-- message k is of the channel and of the status
unfoldable pub of_kind : List ℕ → List ℕ → ℕ → ℕ → ℕ → Bool
of_kind channels statuses wanted status k = eqb (get_or channels k 0) wanted && eqb (get_or statuses k 0) status

-- message k has the property
unfoldable pub of_property : List ℕ → ℕ → ℕ → Bool
of_property keys property k = eqb (get_or keys k 0) property

-- message k has the property and the unit
unfoldable pub of_both : List ℕ → List ℕ → ℕ → ℕ → ℕ → Bool
of_both keys units property unit k = eqb (get_or keys k 0) property && eqb (get_or units k 0) unit

-- message k is of a day before that day
unfoldable pub of_day_before : List ℕ → ℕ → ℕ → Bool
of_day_before keys day k = ltb (get_or keys (days_at + k) 0) day

-- message k is like what is wanted: it has what is to be equal
unfoldable pub is_like : List ℕ → List ℕ → DW.Want → ℕ → Bool
is_like keys units want k =
    agrees (equality_in want.equal) (eqb (get_or keys k 0) want.property) (eqb (get_or units k 0) want.unit)

-- message k fits: it is of the channel and of the status, and like what is wanted
unfoldable pub fitting : List ℕ → List ℕ → List ℕ → List ℕ → DW.Want → ℕ → Bool
fitting channels keys units statuses want k =
    of_kind channels statuses want.channel want.status k && is_like keys units want k

-- message k is not chosen
unfoldable pub unchosen : List ℕ → ℕ → Bool
unchosen chosen k = not (is_in k chosen)

-- message k fits, and is not chosen
unfoldable pub eligible : List ℕ → List ℕ → List ℕ → List ℕ → DW.Want → List ℕ → ℕ → Bool
eligible channels keys units statuses want chosen k =
    fitting channels keys units statuses want k && unchosen chosen k

-- rule 4.2: want is what chord c wants to be equal of a message beside one like s
pub record Wants (want : DW.Want) (c : Chord) (s : Sent) : Type 0 where
  pub equal : c.equal ≡ equality_in want.equal
  pub property : s.property ≡ want.property
  pub unit : s.unit ≡ want.unit
