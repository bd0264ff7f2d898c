-- A list tested chunk by chunk, and what is left by itself, is tested whole.
use Rattle.std.proofs.Common.{◌≡◌, ℕ, zero, suc, ◌+◌, ◌*◌, Bool, ◌&&◌, List, take, drop, ◌∙◌, sym, ap, arith}
use Rattle.std.proofs.Math.Bool.{and_assoc}
use Rattle.std.specs.Simd.{first_chunks}
use Rattle.std.proofs.lemmas.List.{take-append-drop, drop-drop}
use Rattle.std.proofs.lemmas.List.Folds.{list_all-append}
use Rattle.model.specs.Basics.{every}

pub by_chunks : {A : Type 0} (p : A → Bool) (n k : ℕ) (s : List A)
    → (every (every p) (first_chunks n k s) && every p (drop (k * n) s)) ≡ every p s
by_chunks p n zero s = let z : 0 * n ≡ 0 = omega arith in rw z
by_chunks p n (suc k) s =
    let e : suc k * n ≡ n + k * n = omega arith in
    rw (and_assoc, e, ← drop-drop (k * n) n s, by_chunks p n k (drop n s))
    (sym (list_all-append p (take n s) (drop n s)) ∙ ap (every p) (take-append-drop n s))
