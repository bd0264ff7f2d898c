-- A merge into a buffer for the longest table: it is never too short, and its front is the merged table.
use Rattle.std.proofs.Common.{◌≡◌, true, List, ◌++◌, ℕ, ◌≤◌, length, take, drop, arith}
use Rattle.std.proofs.lemmas.Bool.Decides.{nat_tests}
use Rattle.texts.specs.Counts.{IsPrefixLen}
use Rattle.model.specs.Tables.{Table}
use Rattle.model.specs.Layout.{table_bytes}
use Rattle.model.proofs.Tests.{first-none}
use Rattle.model.proofs.Written.{whole-written}
use Rattle.merging.specs.Merges.{counts_fit, merged_of, merged_bytes, merge_refusal, merge_write_refusal, merge_written}
use Rattle.merging.proofs.MergedAccepted.{mergeable, merge-accepted}
use Rattle.texts.proofs.Sizes.{front}
use Rattle.tablemerge.specs.Merged.{Merged}

fits-buffer : (t : Table) → counts_fit t ≡ true → length (table_bytes t) ≤ 412
unfolding counts_fit
fits-buffer t e = grind (arith, nat_tests, whole-written t.kinds t.chords)

fits : (s z ms : List ℕ) → merge_refusal s z ms ≡ 0 → length (merged_bytes s z ms) ≤ 412
fits s z ms e = fits-buffer (merged_of s z ms) (mergeable s z ms e).fits

module _ (s z ms out : List ℕ) where
  pub number_is : 412 ≤ length out → merge_write_refusal s z ms out ≡ merge_refusal s z ms
  unfolding merge_write_refusal
  number_is h = grind (arith, nat_tests, fits s z ms)

  -- n is what the front's header says, and after is the buffer after the merge
  pub merged_front : (after : List ℕ) (n : ℕ) → merge_write_refusal s z ms out ≡ 0 → after ≡ merge_written s z ms out
      → ((t : Table) (rest : List ℕ) → after ≡ table_bytes t ++ rest → n ≡ length (table_bytes t))
      → IsPrefixLen n after × Merged s z ms (take n after)
  unfolding merge_write_refusal merge_written
  merged_front after n e w f =
      let b = merged_bytes s z ms in
      let rest = drop (length b) out in
      let k : after ≡ b ++ rest = rw e at w in
      let r = front b rest after n k (f (merged_of s z ms) rest k) in
      let a = merge-accepted s z ms (first-none (merge_refusal s z ms) _ e).0 in
      (r.0, record { bytes = r.1; accepted = rw r.1 a.0; reads = rw r.1 a.1 })
