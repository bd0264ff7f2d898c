-- Channels and chords (rules 1.1 to 1.3), as the steps use them.
use Rattle.std.specs.Prelude.{Bool, true, false, ◌&&◌, not, List, [], ℕ, zero, suc, ◌-◌, eqb, ltb, length, get_or}
use Rattle.model.specs.Basics.{is_in, first_by}

-- rule 1.2: what a chord wants to be equal of all its messages: nothing, the property, or the property and the unit
pub data Equality : Type 0 where
  any same_property same_unit : Equality

-- rule 1.2: whether it has that, by whether the properties are equal and whether the units are
abbrev pub agrees : Equality → Bool → Bool → Bool
agrees any p u = true
agrees same_property p u = p
agrees same_unit p u = p && u

-- rule 1.2: the channels that its members name, in order
pub record Chord : Type 0 where
  pub channels : List ℕ
  pub equal : Equality

-- rules 1.1 and 1.3. The kind of a channel is its byte: 0 asynchronous, 1 synchronous.
pub record Table : Type 0 where
  pub kinds : List ℕ
  pub chords : List Chord

abbrev pub no_chord : Chord
no_chord = record { channels = []; equal = any }

abbrev pub chord_at : Table → ℕ → Chord
chord_at t r = get_or t.chords r no_chord

abbrev pub size : Table → ℕ → ℕ
size t r = length (chord_at t r).channels

abbrev pub channel_at : Table → ℕ → ℕ → ℕ
channel_at t r k = get_or (chord_at t r).channels k 0

-- rule 1.1; a number that is no channel is not synchronous
unfoldable pub is_sync : Table → ℕ → Bool
is_sync t x = eqb (get_or t.kinds x 0) 1

-- rule 4.7: the place of the first synchronous member; the size for none
unfoldable pub first_sync : Table → ℕ → ℕ
first_sync t r = first_by (is_sync t) (chord_at t r).channels

-- rules 4.6 and 4.7: the last claim wakes and does not match, for a subject of this channel
unfoldable pub wakes : Table → ℕ → ℕ → Bool
wakes t r channel = not (is_sync t channel) && ltb (first_sync t r) (size t r)

-- the first chord from `from` on, of n, that names the channel; from + n for none
abbrev pub naming_up_to : Table → ℕ → ℕ → ℕ → ℕ
naming_up_to t channel from zero = from
naming_up_to t channel from (suc n) =
    elim (is_in channel (chord_at t from).channels) [ true ↦ from | false ↦ naming_up_to t channel (suc from) n ]

-- rule 4.1: the next chord that names the channel; the number of chords or more for none
unfoldable pub naming : Table → ℕ → ℕ → ℕ
naming t channel from = naming_up_to t channel from (length t.chords - from)
