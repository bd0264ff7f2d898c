-- Laws of lines printed one after the other from the start of a buffer.
use mathlib.Core.Path.{◌≡◌, refl, sym, ap, ◌∙◌}
use mathlib.Core.List.{List, [], ◌∷◌, ◌++◌, append-nil, append_assoc}
use Prim.Native.Nat.{ℕ, suc, ◌+◌, ◌-◌, ◌<◌, ◌≤◌}
use native.Mathlib.Omega.{arith}
use lib.ListN.{length, get_or, take, drop, length-drop}
use lib.Seq.{take-add, take-suc, get_or-drop}
use Rattle.model.proofs.Parts.{take-sets}
use Rattle.prints.specs.Printed.{Printed}
use Rattle.prints.proofs.Texts.{then, none}
use Rattle.reports.specs.Parts.{all_lines, between}

pub joined-append : (vs ws : List (List ℕ)) → all_lines (vs ++ ws) ≡ all_lines vs ++ all_lines ws
joined-append [] ws = refl
joined-append (v ∷ vs) ws = ap (λ r. v ++ r) (joined-append vs ws) ∙ sym (append_assoc v (all_lines vs) (all_lines ws))

module _ (ws : List (List ℕ)) where
  -- those up to n, then those up to m
  pub parts-on : (n m : ℕ) → n ≤ m → all_lines (take n ws) ++ all_lines (between n m ws) ≡ all_lines (take m ws)
  parts-on n m h =
      let y : n + (m - n) ≡ m = omega arith in
      sym (joined-append (take n ws) (between n m ws)) ∙ ap all_lines (rw y at (sym (take-add n (m - n) ws)))

  module _ (k n : ℕ) (h : k ≤ n) (l : n < length ws) where
    between_next : between k (n + 1) ws ≡ between k n ws ++ (get_or ws n [] ∷ [])
    between_next =
        let e : n + 1 - k ≡ suc (n - k) = omega arith in
        let z : k + (n - k) ≡ n = omega arith in
        rw (e, take-suc (drop k ws) (n - k) [] (omega (arith, length-drop k ws)), get_or-drop k ws (n - k) [], z)

    line-next : {out mid done : List ℕ} {p r : ℕ} → Printed out 0 (all_lines (between k n ws)) p mid
        → Printed mid p (get_or ws n []) r done → Printed out 0 (all_lines (between k (n + 1) ws)) r done
    line-next p q =
        rw (between_next, joined-append (between k n ws) (get_or ws n [] ∷ []), append-nil (get_or ws n [])) (then p q)

-- what was printed from the start, up to its end
pub written : {out done text : List ℕ} {at : ℕ} → Printed out 0 text at done → at ≤ length out → take at done ≡ text
written {out} {done} {text} {at} p h =
    let e : at ≡ 0 + length text = p.place in
    rw (e, p.bytes) (take-sets out 0 text (omega (arith, p.place)))

-- lines k to n - 1 stand at the start of the buffer
pub record Lined (ws : List (List ℕ)) (k : ℕ) (out : List ℕ) (n at : ℕ) (done : List ℕ) : Type 0 where
  pub inside : at ≤ length out
  pub moved : 1 ≤ at → k < n
  pub text : Printed out 0 (all_lines (between k n ws)) at done

module _ {ws : List (List ℕ)} {k : ℕ} where
  -- no line yet
  pub lined-none : (out : List ℕ) → Lined ws k out k 0 out
  lined-none out =
      let z : k - k ≡ 0 = omega arith in
      record { inside = omega arith; moved = λ l. omega arith; text = rw z (none out 0) }

  -- one line more
  pub lined-next : {out mid done : List ℕ} {n at r : ℕ} → Lined ws k out n at mid → k ≤ n → n < length ws
      → Printed mid at (get_or ws n []) r done → r ≤ length out → Lined ws k out (n + 1) r done
  lined-next {out} {mid} {done} {n} {at} {r} p b l q h =
      record { inside = h; moved = λ m. omega (arith, b); text = line-next ws k n b l p.text q }

  pub lined-text : {out done : List ℕ} {n at : ℕ} → Lined ws k out n at done
      → take at done ≡ all_lines (between k n ws)
  lined-text p = written p.text p.inside
