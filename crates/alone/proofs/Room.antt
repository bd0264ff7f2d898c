-- While a message is pending there is room for a match: 1,024 matches, each with messages of its own, would leave
-- none.
use mathlib.Core.Path.{◌≡◌, refl, sym, ◌∙◌}
use mathlib.Core.Logic.{◌⊎◌, inl, inr, ◌≢◌}
use mathlib.Core.Bool.{true, false}
use Prim.Native.Nat.{ℕ, ◌≤◌, ◌<◌}
use borrow.Author.Tests.{eq-eqb, ne_eqb, ltb-false}
use lib.Dec.{eqb, ltb}
use lib.ListN.{length, get_or}
use native.Mathlib.Omega.{arith}
use Rattle.model.specs.Basics.{pick, is_in}
use Rattle.model.specs.Tables.{Table}
use Rattle.model.specs.Boards.{Board, sender_at, match_at, message_at, pending, consumed}
use Rattle.model.proofs.Tests.{same?, tested, tests}
use Rattle.model.proofs.Lists.{nth-is_in}
use Rattle.model.proofs.Pigeon.{pigeon}
use Rattle.model.proofs.Shares.{shares-fit}
use Rattle.model.proofs.Grows.{apart}
use Rattle.model.proofs.Matches.{WillConsume, consume-holds}
use Rattle.model.proofs.Invariant.{Inv}
use Rattle.alone.proofs.Rests.{Bounded}

module _ (t : Table) (b : Board) (v : Inv t b) (f : Bounded b) (n : ℕ) (on : n < length b.messages)
    (pend : (message_at b n).status ≡ pending) where
  unmatched : (k : ℕ) → k < length b.matches → is_in n (match_at b k).messages ≡ true → ⊥
  unmatched k l e = go (v.matches.taken n k l e)
    where
      go : ((message_at b n).status ≡ consumed) ⊎ ((j : ℕ) × WillConsume (sender_at b j).state n) → ⊥
      go (inl z) = apart refl (sym pend ∙ z)
      go (inr z) =
          apart refl (sym pend ∙ v.holding.claimed_is z.0 n (consume-holds t (sender_at b z.0).state n z.1))

  first : ℕ → ℕ
  first k = get_or (match_at b k).messages 0 0

  -- the first message of each match, and then n: 1,025 numbers below 1,024
  seat : ℕ → ℕ
  seat k = pick (eqb k 1024) n (first k)

  module _ (full : 1024 ≤ length b.matches) where
    first-in : (k : ℕ) → k < 1024 → is_in (first k) (match_at b k).messages ≡ true
    unfolding first
    first-in k l = nth-is_in (match_at b k).messages 0 (f.matches k (omega arith))

    low : (k : ℕ) → k ≤ 1024 → (k ≡ 1024) ⊎ (k ≢ 1024) → seat k < 1024
    unfolding seat
    low k l (inl e) = rw (eq-eqb k 1024 e) (omega (arith, shares-fit v.shares))
    low k l (inr e) =
        let z = v.matches.on_board (first k) k (omega arith) (first-in k (omega arith)) in
        rw (ne_eqb k 1024 e) (omega (arith, shares-fit v.shares, z))

    one : (j k : ℕ) → j ≤ 1024 → k ≤ 1024 → (j ≡ 1024) ⊎ (j ≢ 1024) → (k ≡ 1024) ⊎ (k ≢ 1024) → seat j ≡ seat k → j ≡ k
    unfolding seat
    one j k l m (inl e) (inl g) z = e ∙ sym g
    one j k l m (inl e) (inr g) z =
        let y : n ≡ first k = rw (eq-eqb j 1024 e, ne_eqb k 1024 g) at z in
        absurd (unmatched k (omega arith) (rw (← y) at (first-in k (omega arith))))
    one j k l m (inr e) (inl g) z =
        let y : first j ≡ n = rw (ne_eqb j 1024 e, eq-eqb k 1024 g) at z in
        absurd (unmatched j (omega arith) (rw y at (first-in j (omega arith))))
    one j k l m (inr e) (inr g) z =
        let y : first j ≡ first k = rw (ne_eqb j 1024 e, ne_eqb k 1024 g) at z in
        v.matches.once (first j) j k (omega arith) (omega arith) (first-in j (omega arith))
        (rw (← y) at (first-in k (omega arith)))

    none_left : ⊥
    none_left =
        pigeon 1024 seat (λ k l. low k l (same? k 1024)) (λ j k l m. one j k l m (same? j 1024) (same? k 1024))

  pub room : length b.matches < 1024
  room = go (tested (ltb (length b.matches) 1024))
    where
      go : (ltb (length b.matches) 1024 ≡ true) ⊎ (ltb (length b.matches) 1024 ≡ false)
          → length b.matches < 1024
      go (inl e) = omega tests
      go (inr e) = absurd (none_left (ltb-false _ _ e))
