-- The declared table as the model's, and the table that a refused read gives.
-- A length over its array's is kept as it is, so that the reader's numbers refuse it as they refuse such a count.
use Rattle.std.specs.Prelude.{List, [], ◌∷◌, map, ℕ, zero, suc, eqb, length, replicate}
use Rattle.std.proofs.lemmas.List.Edits.{sets}
use Rattle.codec.specs.declared.Chord as DC
use Rattle.codec.specs.declared.Table as DT
use Rattle.codec.specs.declared.Read as DR
use Rattle.model.specs.Basics.{pick}
use Rattle.model.specs.Tables.{Chord, Table, no_chord}
use Rattle.model.specs.Layout.{table_refusal, table_of}
use Rattle.table.specs.declared.Equality.TheVariants as E
use Rattle.table.specs.Equalities.{equality_in, equality_for}

-- the first n of a list, and d for each that the list does not have
abbrev pub firsts : {A : Type 0} → A → ℕ → List A → List A
firsts d zero xs = []
firsts d (suc n) [] = d ∷ firsts d n []
firsts d (suc n) (x ∷ xs) = x ∷ firsts d n xs

unfoldable pub chord_in : DC.Chord → Chord
chord_in c = record { channels = firsts 0 c.len c.channels; equal = equality_in c.equal }

unfoldable pub table_in : DT.Table → Table
table_in t = record {
  kinds = firsts 0 t.kinds_len t.kinds;
  chords = firsts no_chord t.chords_len (map chord_in t.chords);
}

abbrev pub empty_chord : DC.Chord
empty_chord = record { channels = replicate 8 0; len = 0; equal = E.Any }

-- what is read from refused bytes
abbrev pub empty_table : DT.Table
empty_table = record { kinds = replicate 16 0; kinds_len = 0; chords = replicate 32 empty_chord; chords_len = 0 }

-- what is read from accepted bytes: each array holds its list from the start, and is empty past it
unfoldable pub chord_for : Chord → DC.Chord
chord_for c = record {
  channels = sets (replicate 8 0) 0 c.channels;
  len = length c.channels;
  equal = equality_for c.equal;
}

unfoldable pub table_for : Table → DT.Table
table_for t = record {
  kinds = sets (replicate 16 0) 0 t.kinds;
  kinds_len = length t.kinds;
  chords = sets (replicate 32 empty_chord) 0 (map chord_for t.chords);
  chords_len = length t.chords;
}

-- rule 2.6: what a read answers
unfoldable pub table_read : List ℕ → DR.Read
table_read s = record {
  number = table_refusal s;
  table = pick (eqb (table_refusal s) 0) (table_for (table_of s)) empty_table;
}
