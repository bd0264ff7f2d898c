-- Laws of an empty board's numbers, written from the front: the same sender 32 times, a flag, tallies and the table.
use Rattle.std.proofs.Common.{◌≡◌, List, ◌∷◌, ◌++◌, ℕ, zero, suc, ◌+◌, ◌*◌, ◌≤◌, length, take, set, replicate, ap, sym}
use Rattle.std.proofs.Common.{◌∙◌, arith, add-one, append_assoc, append-nil}
use Rattle.std.proofs.lemmas.Grind.{common_steps}
use Rattle.std.proofs.lemmas.List.{take_more_set}
use Rattle.std.proofs.lemmas.Slice.{take-put_mid}
use Rattle.std.proofs.Math.Seq.{paste, take-paste, take_all}
use borrow.Rule.Slice.PartMut.{put_mid}
use Rattle.state.specs.declared.Sender as DD
use Rattle.rows.specs.Numbers.{sender_numbers, senders_numbers}

-- the same sender once more
same_more : (i : ℕ) (d : DD.Sender)
    → senders_numbers (replicate (suc i) d) ≡ senders_numbers (replicate i d) ++ sender_numbers d
unfolding senders_numbers
same_more zero d = append-nil (sender_numbers d)
same_more (suc i) d =
    ap (λ x. sender_numbers d ++ x) (same_more i d)
    ∙ sym (append_assoc (sender_numbers d) (senders_numbers (replicate i d)) (sender_numbers d))

pub sender_written : (d : DD.Sender) (s front : List ℕ) (i : ℕ) → 2 + 21 * i + 21 ≤ length s
    → length (sender_numbers d) ≡ 21 → take (2 + 21 * i) s ≡ front ++ senders_numbers (replicate i d)
    → take (2 + 21 * (i + 1)) (paste s (2 + 21 * i) (sender_numbers d) 21)
    ≡ front ++ senders_numbers (replicate (i + 1) d)
sender_written d s front i h l e =
    let n : 2 + 21 * (i + 1) ≡ 2 + 21 * i + 21 = omega arith in
    rw (
      n,
      take-paste s (2 + 21 * i) (sender_numbers d) 21 (omega arith) (omega arith),
      take_all 21 (sender_numbers d) (omega arith),
      e,
      add-one i,
      same_more i d,
    ) (append_assoc front (senders_numbers (replicate i d)) (sender_numbers d))

-- the last part of a list
last_part : (s ys : List ℕ) (a k : ℕ) → length s ≡ a + k → put_mid a k s ys ≡ take a s ++ ys
last_part s ys a k h = grind (arith, common_steps)

pub ends_written : (s xs zs rests : List ℕ) (x a n m : ℕ) → take a s ≡ xs → length s ≡ a + 1 + n + m → length zs ≡ n
    → length rests ≡ m → put_mid (a + 1 + n) m (put_mid (a + 1) n (set s a x) zs) rests ≡ xs ++ (x ∷ (zs ++ rests))
ends_written s xs zs rests x a n m e h k l =
    rw (
      last_part (put_mid (a + 1) n (set s a x) zs) rests (a + 1 + n) m (grind (arith, common_steps)),
      take-put_mid (a + 1) n (set s a x) zs (a + 1 + n) (omega arith) (grind (arith, common_steps)),
      take_more_set s a x (omega arith),
      e,
    ) (grind (arith, common_steps))
