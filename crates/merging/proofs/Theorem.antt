-- What a merge owes, whole.
use mathlib.Core.Path.{subst⁻¹}
use Rattle.model.specs.Tables.{Table}
use Rattle.model.specs.Layout.{table_of}
use Rattle.model.proofs.AcceptedChords.{table-ok}
use Rattle.merging.specs.Merges.{SameSchedule, Merges}
use Rattle.merging.proofs.Merged.{same-schedule}
use Rattle.merging.proofs.MergedAccepted.{mergeable, merge-accepted}

pub merges : Merges
merges = record {
  accepted = merge-accepted;
  same = λ s z ms rests cs e a. subst⁻¹ (λ (v : Table). SameSchedule (table_of s) v rests cs)
      (merge-accepted s z ms e).1
      (same-schedule (table_of s) (table_of z) ms (table-ok s (mergeable s z ms e).first) rests cs a);
}
