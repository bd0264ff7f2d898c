-- How many bytes a written table takes, by its header; and a list's front, as many as it counts.
use Rattle.std.proofs.Common.{◌≡◌, List, ◌++◌, ℕ, ◌+◌, ◌*◌, length, take, get_or, refl, arith}
use Rattle.std.proofs.lemmas.Grind.{common_steps}
use Rattle.model.specs.Tables.{Table}
use Rattle.model.specs.Layout.{word, table_bytes}
use Rattle.model.proofs.Written.{header, whole-written}
use Rattle.texts.specs.Counts.{IsPrefixLen}

-- the two words that give the length, also where more bytes follow
abbrev pub size : List ℕ → ℕ
size s = (get_or s 10 0 + 256 * get_or s 11 0) + (get_or s 4 0 + 256 * get_or s 5 0)

size-front : (t : Table) (rest : List ℕ)
    → size (table_bytes t ++ rest) ≡ word 5 (table_bytes t) + word 2 (table_bytes t)
unfolding word table_bytes
size-front t rest = refl

pub size_is : (t : Table) (rest : List ℕ) → size (table_bytes t ++ rest) ≡ length (table_bytes t)
size_is t rest = omega (arith, header t.kinds t.chords, whole-written t.kinds t.chords, size-front t rest)

-- the front of a list that starts with b, by its length
pub front : (b rest s : List ℕ) (n : ℕ) → s ≡ b ++ rest → n ≡ length b → IsPrefixLen n s × (take n s ≡ b)
front b rest s n e k = grind (arith, common_steps)
