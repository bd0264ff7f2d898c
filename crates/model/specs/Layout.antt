-- Table bytes (rules 2.1 to 2.9): refusals 1 to 7 in their order, the table read and written, a chord's channels as a
-- part.
use Rattle.std.specs.Prelude.{◌≡◌, Bool, true, ◌&&◌, List, [], ◌∷◌, ◌++◌, ℕ, zero, suc, ◌+◌, ◌*◌, ◌/◌, ◌%◌, ◌<◌, eqb, ltb, leb, length, get_or, take, drop}
use Rattle.model.specs.Basics.{all_of, pick, every, unless, first_of}
use Rattle.model.specs.Tables.{Equality, any, same_property, same_unit, Chord, Table, chord_at}

-- rule 2.1: the i-th number of the bytes s
unfoldable pub word : ℕ → List ℕ → ℕ
word i s = get_or s (2 * i) 0 + 256 * get_or s (2 * i + 1) 0

-- rule 2.2: how many channels, chords and members there are, and where chords and members begin
abbrev pub count_t : List ℕ → ℕ
count_t s = word 0 s

abbrev pub count_r : List ℕ → ℕ
count_r s = word 1 s

abbrev pub count_m : List ℕ → ℕ
count_m s = word 2 s

abbrev pub chords_start : ℕ → ℕ
chords_start T = 12 + T

abbrev pub members_start : ℕ → ℕ → ℕ
members_start T R = 12 + (T + 4 * R)

-- rule 2.2, and refusal 2 of rule 2.6
unfoldable pub counts_ok : List ℕ → Bool
counts_ok s = all_of (leb 1 (count_t s) ∷ leb (count_t s) 16 ∷ leb (count_r s) 32 ∷ leb (count_m s) 256 ∷ [])

-- rule 2.2, and refusal 3 of rule 2.6
unfoldable pub offsets_ok : List ℕ → Bool
offsets_ok s =
    all_of
    (eqb (word 3 s) 12 ∷
    eqb (word 4 s) (chords_start (count_t s)) ∷
    eqb (word 5 s) (members_start (count_t s) (count_r s)) ∷
    eqb (length s) (members_start (count_t s) (count_r s) + count_m s) ∷ [])

-- rule 2.2: the bytes from where channels, chords and members begin
abbrev pub kind_bytes : List ℕ → List ℕ
kind_bytes s = take (count_t s) (drop 12 s)

abbrev pub chord_bytes : List ℕ → List ℕ
chord_bytes s = drop (chords_start (count_t s)) s

abbrev pub member_bytes : List ℕ → List ℕ
member_bytes s = drop (members_start (count_t s) (count_r s)) s

-- rule 2.3, and refusal 4 of rule 2.6
unfoldable pub kinds_ok : List ℕ → Bool
kinds_ok ks = every (λ k. leb k 1) ks

-- rule 2.4, and refusal 5 of rule 2.6: the four bytes of a chord whose members begin at next
unfoldable pub chord_ok : ℕ → List ℕ → Bool
chord_ok next s = all_of (eqb (word 0 s) next ∷ leb 1 (get_or s 2 0) ∷ leb (get_or s 2 0) 8 ∷ leb (get_or s 3 0) 2 ∷ [])

-- rule 2.4: each of n chords, from where the members before it end
abbrev pub chords_ok : ℕ → ℕ → List ℕ → Bool
chords_ok zero next s = true
chords_ok (suc n) next s = chord_ok next s && chords_ok n (next + get_or s 2 0) (drop 4 s)

-- rule 2.6, refusal 6: the sizes of n chords together
abbrev pub members_sum : ℕ → List ℕ → ℕ
members_sum zero s = 0
members_sum (suc n) s = get_or s 2 0 + members_sum n (drop 4 s)

-- rule 2.5, and refusal 7 of rule 2.6
unfoldable pub members_ok : ℕ → List ℕ → Bool
members_ok T ms = every (λ m. ltb m T) ms

-- rule 2.6: refusals 1 to 7; 0 for an accepted table
unfoldable pub table_refusal : List ℕ → ℕ
table_refusal s =
    unless (leb 12 (length s)) 1
    (unless (counts_ok s) 2
    (unless (offsets_ok s) 3
    (unless (kinds_ok (kind_bytes s)) 4
    (unless (chords_ok (count_r s) 0 (chord_bytes s)) 5
    (unless (eqb (members_sum (count_r s) (chord_bytes s)) (count_m s)) 6
    (unless (members_ok (count_t s) (member_bytes s)) 7 0))))))

-- rule 2.4: what a chord wants, by its last byte; one over 2 is refused 5 (rule 2.6)
abbrev pub equality_of : ℕ → Equality
equality_of zero = any
equality_of (suc zero) = same_property
equality_of (suc (suc k)) = same_unit

-- rules 2.4 and 2.5: n chords, from their bytes and the members' bytes
abbrev pub chords_from : ℕ → List ℕ → List ℕ → List Chord
chords_from zero s ms = []
chords_from (suc n) s ms =
    record { channels = take (get_or s 2 0) ms; equal = equality_of (get_or s 3 0) } ∷ chords_from n (drop 4 s)
    (drop (get_or s 2 0) ms)

-- rules 2.2 to 2.5: the table that accepted bytes are
unfoldable pub table_of : List ℕ → Table
table_of s = record { kinds = kind_bytes s; chords = chords_from (count_r s) (chord_bytes s) (member_bytes s) }

-- rule 2.8: where a chord's part starts, and its length
abbrev pub chord_entry : List ℕ → ℕ → List ℕ
chord_entry s r = drop (chords_start (count_t s) + 4 * r) s

abbrev pub part_start : List ℕ → ℕ → ℕ
part_start s r = members_start (count_t s) (count_r s) + word 0 (chord_entry s r)

abbrev pub part_size : List ℕ → ℕ → ℕ
part_size s r = get_or (chord_entry s r) 2 0

-- rule 2.8: the reader's numbers, then 32, no such chord
unfoldable pub chord_refusal : List ℕ → ℕ → ℕ
chord_refusal s r = first_of (table_refusal s) (unless (ltb r (count_r s)) 32 0)

-- rule 2.8: empty when refused; an accepted chord has 1 to 8 channels, so this is no part of one
unfoldable pub chord_part : List ℕ → ℕ → List ℕ
chord_part s r = pick (eqb (chord_refusal s r) 0) (take (part_size s r) (drop (part_start s r) s)) []

-- rules 2.1 to 2.5 the other way: the bytes of a table
abbrev pub two : ℕ → List ℕ
two v = v % 256 ∷ (v / 256 ∷ [])

abbrev pub equality_byte : Equality → ℕ
equality_byte any = 0
equality_byte same_property = 1
equality_byte same_unit = 2

abbrev pub written_chords : ℕ → List Chord → List ℕ
written_chords next [] = []
written_chords next (c ∷ cs) =
    two next ++ (length c.channels ∷ (equality_byte c.equal ∷ written_chords (next + length c.channels) cs))

abbrev pub written_members : List Chord → List ℕ
written_members [] = []
written_members (c ∷ cs) = c.channels ++ written_members cs

abbrev pub written_header : ℕ → ℕ → ℕ → List ℕ
written_header T R M =
    two T ++ (two R ++ (two M ++ (two 12 ++ (two (chords_start T) ++ two (members_start T R)))))

-- rule 2.7
unfoldable pub table_bytes : Table → List ℕ
table_bytes t =
    written_header (length t.kinds) (length t.chords) (length (written_members t.chords)) ++
    (t.kinds ++ (written_chords 0 t.chords ++ written_members t.chords))

-- rule 2.7: the reader's numbers for the bytes of the table, then 31 for a buffer that is shorter
unfoldable pub write_refusal : Table → List ℕ → ℕ
write_refusal t out = first_of (table_refusal (table_bytes t)) (unless (leb (length (table_bytes t)) (length out)) 31 0)

-- rule 2.7: the buffer after it, as it was past the table; all of it as it was where refused
unfoldable pub written : Table → List ℕ → List ℕ
written t out = pick (eqb (write_refusal t out) 0) (table_bytes t ++ drop (length (table_bytes t)) out) out

-- rule 1.2: one to eight members, each one of T channels
unfoldable pub chord_keeps : ℕ → Chord → Bool
chord_keeps T c = all_of (leb 1 (length c.channels) ∷ leb (length c.channels) 8 ∷ members_ok T c.channels ∷ [])

-- rules 1.1 to 1.3: a table that can be written
unfoldable pub keeps_layout : Table → Bool
keeps_layout t =
    all_of
    (leb 1 (length t.kinds) ∷
    leb (length t.kinds) 16 ∷
    leb (length t.chords) 32 ∷
    leb (length (written_members t.chords)) 256 ∷
    kinds_ok t.kinds ∷
    every (chord_keeps (length t.kinds)) t.chords ∷ [])

abbrev pub all_bytes : List ℕ → Bool
all_bytes s = every (λ b. ltb b 256) s

-- rules 2.8 and 2.9: a table survives being written and read, both ways, and its chords' parts are their channels
pub record TablesSurvive : Type 0 where
  pub back : (s : List ℕ) → all_bytes s ≡ true → table_refusal s ≡ 0 → table_bytes (table_of s) ≡ s
  pub there : (t : Table) → keeps_layout t ≡ true → (table_refusal (table_bytes t) ≡ 0) × (table_of (table_bytes t) ≡ t)
  pub part : (s : List ℕ) (r : ℕ) → table_refusal s ≡ 0 → r < count_r s → chord_part s r ≡ (chord_at (table_of s) r).channels
