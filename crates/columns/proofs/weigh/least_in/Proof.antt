-- `columns::weigh::least_in` meets its contract: the least of all is the least of the best so far and what is left.
use mathlib.Core.Bool.{Bool}
use mathlib.Core.Path.{◌≡◌, refl, sym, ◌∙◌}
use Prim.Native.Nat.{ℕ, ◌-◌, ◌≤◌}
use native.Mathlib.Omega.{arith}
use borrow.Author.Rules.{rules}
use Rattle.columns.specs.Firsts.{eligible}
use Rattle.columns.specs.Ranks.{day_in, no_rank, least_from}
use Rattle.columns.proofs.Ranks.{least_step, least-end, least_first}
use Rattle.columns.proofs.weigh.least_in.Statement.{statement}
use Rattle.columns.proofs.weigh.least_in.Tie as tie

abbrev invariant-loop : tie.invariant-loop-i
invariant-loop channels keys units statuses from n want chosen b₀ i₀ b i =
    (i ≤ n) × (65536 ≤ b)
    × (least_from (day_in keys) (eligible channels keys units statuses want chosen) no_rank from (n - from)
    ≡ least_from (day_in keys) (eligible channels keys units statuses want chosen) b i (n - i))

abbrev decreases-loop : tie.decreases-loop-i
decreases-loop channels keys units statuses from n want chosen b₀ i₀ b i = n - i

abbrev start : tie.At-loop-i invariant-loop decreases-loop → tie.Start invariant-loop decreases-loop
start p = p.before.before.before.before.before.before

-- the test that a look makes of a message's number
abbrev passes : tie.Start invariant-loop decreases-loop → ℕ → Bool
passes s =
    let a = s.args in
    eligible a.channels.now a.keys.now a.units.now a.statuses.now a.want a.chosen.now

loop-holds : tie.Need-loop-i-init invariant-loop decreases-loop
loop-holds c = (search rules, search rules, refl)

returns : tie.Need-returns-then-b-lt65536 invariant-loop decreases-loop
returns c =
    let j = c.judged-b in
    let p = c.before.before.before in
    let a = (start p).args in
    let q = passes (start p) in
    sym (p.loop-i.invariant.2
    ∙ least_first (day_in a.keys.now) q p.loop-i.b p.loop-i.i a.n j.result (omega arith) j.ensures
    p.loop-i.invariant.1 c.if-b-lt65536.true)

loop-again : tie.Need-loop-i-preserved invariant-loop decreases-loop
loop-again c =
    let j = c.judged-b in
    let p = c.before.before.before in
    let a = (start p).args in
    let q = passes (start p) in (
      search rules,
      c.if-b-lt65536.false,
      p.loop-i.invariant.2
          ∙ least_step (day_in a.keys.now) q p.loop-i.b p.loop-i.i a.n j.result (omega arith)
          j.ensures,
    )

returns-2 : tie.Need-returns invariant-loop decreases-loop
returns-2 c =
    let p = c.before in
    let a = (start p).args in
    sym (p.loop-i.invariant.2 ∙ least-end (day_in a.keys.now) _ p.loop-i.b p.loop-i.i a.n (omega arith))

pub least_in_spec : {M : Type 1} → statement M
least_in_spec =
    tie.close
    (tie.spec
    invariant-loop
    decreases-loop
    loop-holds
    (λ c κs. search rules)
    returns
    (λ c. search rules)
    (λ c. search rules)
    loop-again
    returns-2)
