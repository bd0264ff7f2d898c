-- Laws of the senders' numbers, read and written one sender after another.
use Rattle.std.proofs.Common.{◌≡◌, true, List, [], ◌∷◌, ◌++◌, ℕ, zero, suc, ◌+◌, ◌*◌, ◌<◌, ◌≤◌, length, get_or, take}
use Rattle.std.proofs.Common.{drop, set, refl, sym, ap, ◌∙◌, arith, rules, tests, add-one, append_assoc, append-nil}
use Rattle.std.proofs.Common.{take-suc}
use Rattle.std.proofs.Math.Seq.{drop-drop, take_all, paste, take-paste}
use Rattle.model.proofs.Tests.{both}
use Rattle.model.proofs.Parts.{drop-next}
use Rattle.state.specs.declared.Sender as DD
use Rattle.boards.specs.Layout.{board_len, closed_at}
use Rattle.rows.specs.Numbers.{sender_numbers, senders_numbers, encodes_sender, encodes_senders, encodes}

-- each sender of those that pass
each-ok : (n i : ℕ) (s : List ℕ) → encodes_senders n s ≡ true → i < n
    → encodes_sender (take 21 (drop (21 * i) s)) ≡ true
unfolding encodes_senders
each-ok zero i s e h = absurd (omega arith)
each-ok (suc n) zero s e h = (both {t = encodes_sender (take 21 s)} e).0
each-ok (suc n) (suc i) s e h =
    rw (← drop-next 21 i s) (each-ok n i (drop 21 s) (both {t = encodes_sender (take 21 s)} e).1 (omega arith))

pub part-ok : (i : ℕ) (s : List ℕ) → encodes_senders 32 (drop 2 s) ≡ true → i < 32
    → encodes_sender (take 21 (drop (2 + 21 * i) s)) ≡ true
part-ok i s e h = rw (← drop-drop (21 * i) 2 s) (each-ok 32 i (drop 2 s) e h)

-- the numbers of one sender more
numbers_more : (ds : List DD.Sender) (d : DD.Sender)
    → senders_numbers (ds ++ (d ∷ [])) ≡ senders_numbers ds ++ sender_numbers d
unfolding senders_numbers
numbers_more [] d = append-nil (sender_numbers d)
numbers_more (x ∷ xs) d =
    rw (numbers_more xs d) (sym (append_assoc (sender_numbers x) (senders_numbers xs) (sender_numbers d)))

-- one sender more is written
pub write-next : (ds : List DD.Sender) (z : DD.Sender) (s s' front : List ℕ) (i : ℕ) → i < length ds
    → 2 + 21 * i + 21 ≤ length s → length (sender_numbers (get_or ds i z)) ≡ 21
    → s' ≡ paste s (2 + 21 * i) (sender_numbers (get_or ds i z)) 21
    → take (2 + 21 * i) s ≡ front ++ senders_numbers (take i ds)
    → take (2 + 21 * (i + 1)) s' ≡ front ++ senders_numbers (take (i + 1) ds)
write-next ds z s s' front i h r l p e =
    let d = get_or ds i z in
    let n : 2 + 21 * (i + 1) ≡ 2 + 21 * i + 21 = omega arith in
    rw (
      n,
      p,
      take-paste s (2 + 21 * i) (sender_numbers d) 21 (omega arith) (omega arith),
      take_all 21 (sender_numbers d) (omega arith),
      e,
      add-one i,
      take-suc ds i z h,
      numbers_more (take i ds) d,
    )
    (append_assoc front (senders_numbers (take i ds)) (sender_numbers d))

pub write-end : (ds : List DD.Sender) (s front : List ℕ) (i : ℕ) → length ds ≡ 32 → i ≡ 32
    → take (2 + 21 * i) s ≡ front ++ senders_numbers (take i ds) → take 674 s ≡ front ++ senders_numbers ds
write-end ds s front i l h e =
    let z = ap (λ (x : List DD.Sender). front ++ senders_numbers x) (take_all i ds (omega arith)) in
    ap (λ (n : ℕ). take (2 + 21 * n) s) (sym h) ∙ e ∙ z

-- the two counts, written
pub counts-set : (s xs : List ℕ) (m k : ℕ) → 2 ≤ length s → set (set (take 2 s ++ xs) 0 m) 1 k ≡ m ∷ k ∷ xs
counts-set [] xs m k h = absurd (omega arith)
counts-set (x ∷ []) xs m k h = absurd (omega arith)
counts-set (x ∷ y ∷ s) xs m k h = refl

-- the two counts, read
pub counts-read : (s : List ℕ) → 2 ≤ length s → get_or s 0 0 ∷ get_or s 1 0 ∷ drop 2 s ≡ s
counts-read [] h = absurd (omega arith)
counts-read (x ∷ []) h = absurd (omega arith)
counts-read (x ∷ y ∷ s) h = refl

-- numbers that pass are of their length, their senders pass, and the one behind these is a flag
pub all-numbers : (s : List ℕ) → encodes s ≡ true
    → (length s ≡ board_len) × (encodes_senders 32 (drop 2 s) ≡ true) × (get_or s closed_at 0 ≤ 1)
unfolding encodes
all-numbers s e = search (rules, tests)
