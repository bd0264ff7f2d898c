-- The board that numbers are has these numbers, and its senders are those of their parts.
use mathlib.Core.Path.{◌≡◌, refl, sym, ap, ◌∙◌}
use mathlib.Core.Bool.{true}
use mathlib.Core.List.{List, ◌∷◌, ◌++◌, append_assoc}
use Prim.Native.Nat.{ℕ, zero, suc, ◌+◌, ◌*◌, ◌<◌, ◌≤◌}
use lib.ListN.{length, get_or, take, drop, length-drop, take-append-drop}
use lib.Seq.{drop-drop, drop-cons, length-take-le, take_all}
use native.Mathlib.Omega.{arith}
use Rattle.model.proofs.Tests.{both}
use Rattle.model.proofs.Parts.{drop-next}
use Rattle.model.proofs.Tests.{flag-byte}
use Rattle.state.specs.declared.Sender as DD
use Rattle.boards.specs.Layout.{board_len, closed_at, tallies_at, backoffs_at, tallies_in, backoffs_in}
use Rattle.boards.specs.Parts.{part}
use Rattle.boards.proofs.PartLaws.{length_part}
use Rattle.rows.specs.Numbers.{senders_numbers, board_numbers}
use Rattle.rows.specs.Numbers.{encodes_sender, encodes_senders, encodes}
use Rattle.rows.specs.Decoded.{sender_from, senders_from, board_from}
use Rattle.rows.specs.Fits.{SendersFit, BoardFits}
use Rattle.rows.proofs.SenderLaws.{sender-from-back}
use Rattle.rows.proofs.WalkLaws.{counts-read, all-numbers}

senders-from-back : (n : ℕ) (s : List ℕ) → 21 * n ≤ length s → encodes_senders n s ≡ true
    → (senders_numbers (senders_from n s) ++ drop (21 * n) s ≡ s) × SendersFit (senders_from n s)
    × (length (senders_from n s) ≡ n)
unfolding senders_numbers senders_from encodes_senders
senders-from-back zero s l ok = (refl, tt, refl)
senders-from-back (suc n) s l ok =
    let p = both {t = encodes_sender (take 21 s)} ok in
    let d = sender-from-back (take 21 s) (length-take-le 21 s (omega (arith, l))) p.0 in
    let r = senders-from-back n (drop 21 s) (omega (arith, l, length-drop 21 s)) p.1 in (
      rw (
        d.0,
        ← drop-next 21 n s,
        append_assoc (take 21 s) (senders_numbers (senders_from n (drop 21 s)))
            (drop (21 * n) (drop 21 s)),
        r.0,
      ) (take-append-drop 21 s),
      (d.1, r.1),
      omega (arith, r.2),
    )

-- the numbers behind the senders
module _ (s : List ℕ) (l : length s ≡ board_len) where
  lasts : drop tallies_at s ≡ tallies_in s ++ backoffs_in s
  unfolding part
  lasts =
      sym (take-append-drop 32 (drop tallies_at s))
      ∙ ap (λ (x : List ℕ). tallies_in s ++ x)
      (drop-drop 32 tallies_at s ∙ sym (take_all 16 (drop backoffs_at s) (omega (arith, length-drop backoffs_at s))))

  behind : drop 672 (drop 2 s) ≡ get_or s closed_at 0 ∷ (tallies_in s ++ backoffs_in s)
  behind =
      drop-drop 672 2 s ∙ drop-cons s closed_at 0 (omega (arith, l))
      ∙ ap (λ (x : List ℕ). get_or s closed_at 0 ∷ x) lasts

-- numbers that pass are those of their board, which fits its types
pub from_back : (s : List ℕ) → encodes s ≡ true → (board_numbers (board_from s) ≡ s) × BoardFits (board_from s)
unfolding board_numbers board_from
from_back s ok =
    let p = all-numbers s ok in
    let r = senders-from-back 32 (drop 2 s) (omega (arith, p.0, length-drop 2 s)) p.1 in (
      rw (flag-byte (get_or s closed_at 0) p.2, ← behind s p.0, r.0) (counts-read s (omega (arith, p.0))),
      record {
        all = r.2;
        each = r.1;
        ends = (
          length_part tallies_at 32 s (omega (arith, p.0)),
          length_part backoffs_at 16 s (omega (arith, p.0)),
        );
      },
    )

senders-from : (n i : ℕ) (s : List ℕ) (z : DD.Sender) → i < n
    → get_or (senders_from n s) i z ≡ sender_from (take 21 (drop (21 * i) s))
unfolding senders_from
senders-from zero i s z h = absurd (omega arith)
senders-from (suc n) zero s z h = refl
senders-from (suc n) (suc i) s z h =
    rw (← drop-next 21 i s) (senders-from n i (drop 21 s) z (omega arith))

-- the sender at a place
pub sender-from : (s : List ℕ) (i : ℕ) (z : DD.Sender) → i < 32
    → get_or (board_from s).senders i z ≡ sender_from (take 21 (drop (2 + 21 * i) s))
unfolding board_from
sender-from s i z h = rw (← drop-drop (21 * i) 2 s) (senders-from 32 i (drop 2 s) z h)
