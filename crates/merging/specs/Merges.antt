-- Two tables merged by a map of the second's channels (rules 9.2 to 9.4): refusals, the merged table, and what it owes.
use Rattle.std.specs.Prelude.{◌≡◌, Bool, true, false, ◌&&◌, ◌||◌, not, List, [], ◌∷◌, ◌++◌, map, ℕ, ◌+◌, eqb, ltb, leb, length, get_or, drop}
use Rattle.model.specs.Basics.{all_of, pick, every, is_in, unless, first_of, flag}
use Rattle.model.specs.Tables.{Chord, Table}
use Rattle.model.specs.Layout.{table_refusal, table_of, table_bytes, written_members}
use Rattle.model.specs.Boards.{empty_board}
use Rattle.model.specs.Pools.{Call, adds, steps, closes, history, match_reads}
use Rattle.model.specs.Demands.{board_after}

-- rule 9.2: 255 for a new channel, else the first's channel that it becomes
abbrev pub is_new : ℕ → Bool
is_new m = eqb m 255

-- rule 9.2: what each channel of the second becomes; the new ones take the numbers from n on, in their order
abbrev pub targets : ℕ → List ℕ → List ℕ
targets n [] = []
targets n (m ∷ ms) = pick (is_new m) n m ∷ targets (n + flag (is_new m)) ms

-- rule 9.2: the kinds of the new channels, in their order
abbrev pub new_kinds : List ℕ → List ℕ → List ℕ
new_kinds [] ks = []
new_kinds (m ∷ ms) [] = []
new_kinds (m ∷ ms) (k ∷ ks) = pick (is_new m) (k ∷ new_kinds ms ks) (new_kinds ms ks)

-- rule 9.2: a chord of the second with its channels mapped
abbrev pub merged_chord : List ℕ → Chord → Chord
merged_chord ts c = record { channels = map (λ x. get_or ts x 0) c.channels; equal = c.equal }

abbrev pub merged_chords : Table → Table → List ℕ → List Chord
merged_chords t u ms = map (merged_chord (targets (length t.kinds) ms)) u.chords

-- rule 9.2: the first's channels and chords keep their numbers, the second's follow
unfoldable pub merged_table : Table → Table → List ℕ → Table
merged_table t u ms =
    record { kinds = t.kinds ++ new_kinds ms u.kinds; chords = t.chords ++ merged_chords t u ms }

-- rule 9.3: no channel of the first is named twice
abbrev pub joined_once : List ℕ → Bool
joined_once [] = true
joined_once (m ∷ ms) = (is_new m || not (is_in m ms)) && joined_once ms

-- rule 9.3: channels that are joined are of one kind
abbrev pub kinds_agree : List ℕ → List ℕ → List ℕ → Bool
kinds_agree ks [] us = true
kinds_agree ks (m ∷ ms) [] = true
kinds_agree ks (m ∷ ms) (u ∷ us) = (is_new m || eqb (get_or ks m 0) u) && kinds_agree ks ms us

-- rule 9.3, 17: a byte for each channel of the second, channels that the first has, none twice, kinds that agree
unfoldable pub map_ok : Table → Table → List ℕ → Bool
map_ok t u ms =
    all_of
    (eqb (length ms) (length u.kinds) ∷
    every (λ m. is_new m || ltb m (length t.kinds)) ms ∷
    joined_once ms ∷
    kinds_agree t.kinds ms u.kinds ∷ [])

-- rule 9.3, 18: the limits of rule 1.3
unfoldable pub counts_fit : Table → Bool
counts_fit t =
    all_of
    (leb (length t.kinds) 16 ∷
    leb (length t.chords) 32 ∷
    leb (length (written_members t.chords)) 256 ∷ [])

-- the table that the bytes s and z give by the map ms, and its bytes
abbrev pub merged_of : List ℕ → List ℕ → List ℕ → Table
merged_of s z ms = merged_table (table_of s) (table_of z) ms

abbrev pub merged_bytes : List ℕ → List ℕ → List ℕ → List ℕ
merged_bytes s z ms = table_bytes (merged_of s z ms)

-- rule 9.3: the reader's number for the first, then for the second, then 17, then 18
unfoldable pub merge_refusal : List ℕ → List ℕ → List ℕ → ℕ
merge_refusal s z ms =
    first_of (table_refusal s)
    (first_of (table_refusal z)
    (unless (map_ok (table_of s) (table_of z) ms) 17 (unless (counts_fit (merged_of s z ms)) 18 0)))

-- rule 9.3: then 31 for a short buffer
unfoldable pub merge_write_refusal : List ℕ → List ℕ → List ℕ → List ℕ → ℕ
merge_write_refusal s z ms out =
    first_of (merge_refusal s z ms) (unless (leb (length (merged_bytes s z ms)) (length out)) 31 0)

-- rule 2.7: the buffer after a merge, as it was past the table; all of it as it was where refused
unfoldable pub merge_written : List ℕ → List ℕ → List ℕ → List ℕ → List ℕ
merge_written s z ms out =
    pick (eqb (merge_write_refusal s z ms out) 0)
    (merged_bytes s z ms ++ drop (length (merged_bytes s z ms)) out) out

-- The law (rule 9.4): on channels of the first that no chord of the second names after the map, a merge alters nothing.

abbrev pub named_by : ℕ → List Chord → Bool
named_by x [] = false
named_by x (c ∷ cs) = is_in x c.channels || named_by x cs

unfoldable pub own_channel : Table → Table → List ℕ → ℕ → Bool
own_channel t u ms x = ltb x (length t.kinds) && not (named_by x (merged_chords t u ms))

-- rule 9.4: a call that adds to none but such channels, refused or not
abbrev pub adds_to : (ℕ → Bool) → Call → Bool
adds_to f (adds i x) = f x.channel
adds_to f (steps i) = true
adds_to f (closes day) = true

-- rule 9.4: the same answers and the same board, so that every read of it is the same
pub record SameSchedule (t v : Table) (rests : List ℕ) (cs : List Call) : Type 0 where
  pub answers : history v (empty_board rests) cs ≡ history t (empty_board rests) cs
  pub board : board_after v rests cs ≡ board_after t rests cs
  pub reads : match_reads v (board_after v rests cs) ≡ match_reads t (board_after t rests cs)

pub record Merges : Type 0 where
  -- rule 9.4: what is written is accepted by the reader, and reads as the merged table
  pub accepted : (s z ms : List ℕ) → merge_refusal s z ms ≡ 0
      → (table_refusal (merged_bytes s z ms) ≡ 0) × (table_of (merged_bytes s z ms) ≡ merged_of s z ms)
  pub same : (s z ms rests : List ℕ) (cs : List Call) → merge_refusal s z ms ≡ 0
      → every (adds_to (own_channel (table_of s) (table_of z) ms)) cs ≡ true
      → SameSchedule (table_of s) (table_of (merged_bytes s z ms)) rests cs
