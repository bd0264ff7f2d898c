-- `columns::weigh::least_of` meets its contract: the least of the word is that of the best so far and the bits left.
use mathlib.Core.Bool.{true}
use mathlib.Core.Logic.{◌≢◌}
use mathlib.Core.Path.{◌≡◌, refl, sym, ◌∙◌}
use Prim.Native.Nat.{ℕ, ◌+◌, ◌-◌, ◌^◌, ◌<◌, ◌≤◌}
use native.Mathlib.Omega.{arith}
use lib.Bits.{bit_and}
use lib.Count.{count_trailing_zeros}
use Rattle.columns.specs.Ranks.{rank_of, better}
use Rattle.columns.specs.Words.{least_bit}
use Rattle.columns.proofs.Ranks.{better-later, better-taken, better-low}
use Rattle.columns.proofs.Words.{lowest-bit, bit-none, Turn, bit-turn}
use Rattle.columns.proofs.weigh.least_of.Goals as goal
use Rattle.columns.proofs.weigh.least_of.Goals.{then-r-b+else-r-lt65536, else-r-b}

module _ (day : ℕ → ℕ) (at b w : ℕ) where
  -- the message of the lowest bit
  abbrev number : ℕ
  number = at + count_trailing_zeros 64 w

  -- that message weighed
  turn : (x : ℕ) → w ≢ 0 → w < 2 ^ 64 → better true (rank_of day number) b ≡ x
      → Turn day number b x 64 w at (count_trailing_zeros 64 w)
  turn x h l q = bit-turn day 64 w at number b x q h l refl

  taken : (r : ℕ) → r ≡ rank_of day number → r < b → better true (rank_of day number) b ≡ r
  taken r e l = better-taken true (rank_of day number) b refl (rw (← e) l) ∙ sym e

  later : (r : ℕ) → r ≡ rank_of day number → b ≤ r → better true (rank_of day number) b ≡ b
  later r e l = better-later true (rank_of day number) b (rw (← e) l)

  -- the word without its lowest bit, and the best after it
  again : (x : ℕ) → w ≢ 0 → w < 2 ^ 64 → 65536 ≤ x → better true (rank_of day number) b ≡ x
      → (bit_and w (w - 1) < 2 ^ 64) × (65536 ≤ x)
      × (least_bit day w b at 64 ≡ least_bit day (bit_and w (w - 1)) x at 64)
  again x h l m q =
      let n = lowest-bit w h l in
      rw n.3 (omega arith, m, (turn x h l q).0)

  -- none is less than a rank of day 0
  found : (r : ℕ) → w ≢ 0 → w < 2 ^ 64 → 65536 ≤ b → r ≡ rank_of day number → r < b → r < 65536
      → least_bit day w b at 64 ≡ r
  found r h l m e f g =
      let q = taken r e f in
      let t = turn r h l q in
      let low = better-low day true number b r (sym q) m g in
      t.0 ∙ t.1 (omega arith)

pub returns-then-r-lt65536 : goal.returns-then-r-lt65536
returns-then-r-lt65536 c =
    let l = c.loop-w in
    sym (l.invariant.2
    ∙ found _ c.args.at l.b l.w c.rank-r.result c.loop-w-test.true l.invariant.0 l.invariant.1 c.rank-r.ensures
    c.if-r-b.true c.if-r-lt65536.true)

pub loop-w-preserved : goal.loop-w-preserved
loop-w-preserved c =
    let l = c.loop-w in
    let r = c.rank-r in
    let i = l.invariant in
    elim c.if-r-b.branch [
      | then-r-b+else-r-lt65536 w ↦
          let n = again _ c.args.at l.b l.w r.result c.loop-w-test.true i.0 w.if-r-lt65536.false
          (taken _ c.args.at l.b l.w r.result r.ensures w.if-r-b.true) in
          rw w.b-is (n.0, n.1, i.2 ∙ n.2)
      | else-r-b w ↦
          let n = again _ c.args.at l.b l.w l.b c.loop-w-test.true i.0 i.1
          (later _ c.args.at l.b l.w r.result r.ensures w.if-r-b.false) in
          rw w.b-is (n.0, n.1, i.2 ∙ n.2)
    ]

pub returns : goal.returns
returns c =
    let z : c.loop-w.w ≡ 0 = c.loop-w-test.false in
    sym (c.loop-w.invariant.2 ∙ rw z (bit-none _ _ _ 64))
