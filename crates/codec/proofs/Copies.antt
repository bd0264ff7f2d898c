-- A list copied over a part of another is the list stored there.
use Rattle.std.proofs.Common.{◌≡◌, ℕ, ◌+◌, ◌≤◌, List, length, append_assoc, arith}
use Rattle.std.proofs.lemmas.List.{drop-drop}
use Rattle.std.proofs.lemmas.List.Edits.{sets, sets-eq}
use borrow.Rule.Slice.PartMut.{put_mid}

pub put_mid-sets : {A : Type 0} (at k : ℕ) (l xs : List A) → length xs ≡ k → at + k ≤ length l
    → put_mid at k l xs ≡ sets l at xs
put_mid-sets at k l xs e h =
    rw (← e, sets-eq xs l at (omega arith), append_assoc, drop-drop)
