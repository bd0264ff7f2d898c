-- What is written to standard output (rule 9.4): the bytes of the merged table, which the reader reads as that table.
use Rattle.std.specs.Prelude.{◌≡◌, List, ℕ}
use Rattle.model.specs.Layout.{table_refusal, table_of}
use Rattle.merging.specs.Merges.{merged_of, merged_bytes}

pub record Merged (first second ms s : List ℕ) : Type 0 where
  pub bytes : s ≡ merged_bytes first second ms
  pub accepted : table_refusal s ≡ 0
  pub reads : table_of s ≡ merged_of first second ms
