-- `columns::by_blocks` meets its contract: the least of all is the least of the best so far and what is left.
use mathlib.Core.Bool.{Bool}
use mathlib.Core.Logic.{inl, ⊎_elim}
use mathlib.Core.Path.{◌≡◌, refl, sym, ◌∙◌}
use Prim.Native.Nat.{ℕ, ◌-◌, ◌%◌, ◌<◌, ◌≤◌}
use native.Mathlib.Omega.{arith}
use borrow.Author.Rules.{rules}
use Rattle.columns.specs.Firsts.{eligible}
use Rattle.columns.specs.Ranks.{day_in, no_rank, least_from, RankBelow}
use Rattle.columns.proofs.Blocks.{below_more, block-below}
use Rattle.columns.proofs.Messages.{lent-less}
use Rattle.columns.proofs.Ranks.{least-here, least-later, least-end}
use Rattle.columns.proofs.Walks.{kind-skip}
use Rattle.columns.proofs.by_blocks.Statement.{statement}
use Rattle.columns.proofs.by_blocks.Tie as tie

abbrev invariant-loop : tie.invariant-loop-at
invariant-loop channels keys units statuses from n want chosen b₀ at₀ b at =
    (at ≤ n) × (at < n → at % 64 ≡ 0) × (65536 ≤ b) × RankBelow (day_in keys) at b
    × (least_from (day_in keys) (eligible channels keys units statuses want chosen) no_rank from (n - from)
    ≡ least_from (day_in keys) (eligible channels keys units statuses want chosen) b at (n - at))

abbrev decreases-loop : tie.decreases-loop-at
decreases-loop channels keys units statuses from n want chosen b₀ at₀ b at = n - at

abbrev start : tie.At-loop-at invariant-loop decreases-loop → tie.Start invariant-loop decreases-loop
start p = p.before.before.before.before.before.before

abbrev loop : tie.After-block_from-k invariant-loop decreases-loop → tie.At-loop-at invariant-loop decreases-loop
loop c = c.before.before

-- the test that a look makes of a message's number
abbrev passes : tie.Start invariant-loop decreases-loop → ℕ → Bool
passes s =
    let a = s.args in
    eligible a.channels.now a.keys.now a.units.now a.statuses.now a.want a.chosen.now

-- none up to number j, where no block before it has a message of the channel and of the status
passed : (c : tie.After-block_from-k invariant-loop decreases-loop) (j : ℕ) → let p = loop c in
    let a = (start p).args in
    p.loop-at.at ≤ j → j ≤ a.n → j ≤ c.block_from-k.result
    → least_from (day_in a.keys.now) (passes (start p)) no_rank a.from (a.n - a.from)
    ≡ least_from (day_in a.keys.now) (passes (start p)) p.loop-at.b j (a.n - j)
passed c j h l m =
    let p = loop c in
    let a = (start p).args in
    p.loop-at.invariant.4
    ∙ kind-skip a.channels.now a.keys.now a.units.now a.statuses.now a.want a.chosen.now
    p.loop-at.b p.loop-at.at j a.n h l (λ k x y. c.block_from-k.ensures.3 k x (omega arith))

-- the best so far is a message's before the block
below : (c : tie.After-block_from-k invariant-loop decreases-loop) → let p = loop c in
    RankBelow (day_in (start p).args.keys.now) c.block_from-k.result p.loop-at.b
below c =
    let p = loop c in
    below_more (day_in (start p).args.keys.now) p.loop-at.at c.block_from-k.result p.loop-at.b
    c.block_from-k.ensures.0 p.loop-at.invariant.3

loop-holds : tie.Need-loop-at-init invariant-loop decreases-loop
loop-holds c =
    (c.requires.0, λ l. c.requires.1, search rules, inl refl, refl)

block-from-requires : tie.Need-block_from-k-requires invariant-loop decreases-loop
block-from-requires c κs =
    let p = c.before in
    let l = (start p).requires.2 in
    ((p.loop-at.invariant.1 (omega arith), search rules, l.few), (l.channels_all, l.statuses_all))

returns : tie.Need-returns-then-n-k invariant-loop decreases-loop
returns c =
    let k = c.before in
    let p = loop k in
    let a = (start p).args in
    sym (passed k a.n (omega arith) (omega arith) (omega arith)
    ∙ least-end (day_in a.keys.now) _ p.loop-at.b a.n a.n (omega arith))

block-end-requires : tie.Need-block_end-to-requires invariant-loop decreases-loop
block-end-requires c κs = (omega arith, (start (loop c.before)).requires.2.few)

in-block-requires : tie.Need-in_block-b-requires invariant-loop decreases-loop
in-block-requires c κs =
    let k = c.before.before in
    let p = loop k in
    let s = start p in
    let l = s.requires.2 in
    let m = k.block_from-k.ensures.2 in (
      (search rules, search rules, omega (arith, l.few), p.loop-at.invariant.2),
      (lent-less c.block_end-to.result s.args.n (omega arith) l, below k),
    )

returns-2 : tie.Need-returns-then-b-lt65536 invariant-loop decreases-loop
returns-2 c =
    let f = c.before in
    let e = f.before in
    let k = e.before.before in
    let p = loop k in
    let a = (start p).args in
    sym (passed k k.block_from-k.result (omega arith) (omega arith) (omega arith)
    ∙ least-here (day_in a.keys.now) _ p.loop-at.b k.block_from-k.result e.block_end-to.result a.n
    f.in_block-b.result (omega arith) (omega arith) f.in_block-b.ensures p.loop-at.invariant.2 c.if-b-lt65536.true)

loop-less : tie.Need-loop-at-smaller invariant-loop decreases-loop
loop-less c = ⊎_elim (λ e. omega arith) (λ e. omega arith) c.block_end-to.ensures.3

loop-again : tie.Need-loop-at-preserved invariant-loop decreases-loop
loop-again c =
    let f = c.before in
    let e = f.before in
    let k = e.before.before in
    let p = loop k in
    let a = (start p).args in
    let at = k.block_from-k.result in
    let m = k.block_from-k.ensures.2 in (
      search rules,
      λ l. ⊎_elim (λ z. absurd (omega arith)) (λ z. omega arith) e.block_end-to.ensures.3,
      c.if-b-lt65536.false,
      block-below (day_in a.keys.now) _ p.loop-at.b at at e.block_end-to.result f.in_block-b.result
          (omega arith) (omega arith) f.in_block-b.ensures (below k),
      passed k at (omega arith) (omega arith) (omega arith)
          ∙ least-later (day_in a.keys.now) _ p.loop-at.b at e.block_end-to.result a.n f.in_block-b.result
          (omega arith) (omega arith) f.in_block-b.ensures,
    )

returns-3 : tie.Need-returns invariant-loop decreases-loop
returns-3 c =
    let p = c.before in
    let a = (start p).args in
    sym (p.loop-at.invariant.4 ∙ least-end (day_in a.keys.now) _ p.loop-at.b p.loop-at.at a.n (omega arith))

pub by_blocks_spec : {M : Type 1} → statement M
by_blocks_spec =
    tie.close
    (tie.spec
    invariant-loop
    decreases-loop
    loop-holds
    block-from-requires
    returns
    block-end-requires
    in-block-requires
    returns-2
    loop-less
    loop-again
    returns-3)
