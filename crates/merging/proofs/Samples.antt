-- The samples computed.
use mathlib.Core.Path.{◌≡◌, refl}
use mathlib.Core.List.{[], ◌∷◌, ◌++◌, map}
use lib.ListN.{replicate}
use Rattle.model.specs.Layout.{table_bytes}
use Rattle.model.specs.Samples.{table_p}
use Rattle.model.proofs.Samples.{opened}
use Rattle.merging.specs.Merges.{merged_table, map_ok, counts_fit, merge_refusal, merge_write_refusal, merge_written}
use Rattle.merging.specs.Samples.{merge_samples, two_p}

pub sample-numbers : map (λ x. merge_write_refusal x.first x.second x.map (replicate x.room 7)) merge_samples
    ≡ map (λ x. x.number) merge_samples
unfolding opened merged_table map_ok counts_fit merge_refusal merge_write_refusal table_bytes
sample-numbers = refl

-- rule 2.7: the buffer stays past the table
pub two-p : merge_written table_p table_p (0 ∷ 255 ∷ []) (replicate 29 7) ≡ two_p ++ (7 ∷ 7 ∷ [])
unfolding opened merged_table map_ok counts_fit merge_refusal merge_write_refusal merge_written table_bytes
two-p = refl
