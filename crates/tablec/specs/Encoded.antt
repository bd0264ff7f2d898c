-- What is written to standard output (rule 2.7): the bytes of the table that the text declares, which are accepted.
use Rattle.std.specs.Prelude.{◌≡◌, List, ℕ}
use Rattle.model.specs.Layout.{table_refusal, table_bytes}
use Rattle.codec.specs.declared.Table as DT
use Rattle.codec.specs.Views.{table_in}

pub record Encoded (t : DT.Table) (s : List ℕ) : Type 0 where
  pub bytes : s ≡ table_bytes (table_in t)
  pub accepted : table_refusal s ≡ 0
