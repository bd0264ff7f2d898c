-- A sender's numbers written to a part of a list: its fields, and then its chosen messages.
use Rattle.std.proofs.Common.{◌≡◌, List, ◌++◌, ℕ, ◌+◌, ◌-◌, ◌≤◌, length, refl, sym, arith}
use Rattle.std.proofs.Math.Seq.{paste}
use Rattle.std.proofs.lemmas.List.Edits.{paste-paste}
use Rattle.std.proofs.lemmas.Slice.{put_mid-paste}
use borrow.Rule.Slice.PartMut.{put_mid}

pub both_pasted : (s xs ys zs : List ℕ) (at n m : ℕ) → at ≤ length s → length xs ≡ n → length ys ≡ m → xs ++ ys ≡ zs
    → paste (put_mid at (at + n - at) s xs) (at + n) ys m ≡ paste s at zs (n + m)
both_pasted s xs ys zs at n m h k l e =
    let w : at + n - at ≡ n = omega arith in
    rw (w, put_mid-paste at n s xs xs n refl refl (sym k), ← e) (paste-paste s at xs ys n m (sym k) (sym l) h)
