-- `columns::in_block` meets its contract: a block that is passed over, or the bits of its word.
use mathlib.Core.Path.{sym, ◌∙◌}
use mathlib.Core.Bool.{Bool}
use Prim.Native.Nat.{ℕ, ◌-◌}
use native.Mathlib.Omega.{arith}
use borrow.Author.Rules.{rules}
use borrow.Author.Tests.{not-true}
use Rattle.columns.specs.Firsts.{fitting}
use Rattle.columns.specs.Ranks.{day_in}
use Rattle.columns.proofs.Ranks.{better-unless, least-left}
use Rattle.columns.proofs.Walks.{unfit, fitting-unchosen}
use Rattle.columns.proofs.Words.{zero-none, low-least, word_fits}
use Rattle.columns.proofs.in_block.Statement.{statement}
use Rattle.columns.proofs.in_block.Tie as tie

abbrev start : tie.After-is_worth → tie.Start
start c = c.before.before.before.before.before.before

-- which messages fit
abbrev fits : tie.Start → ℕ → Bool
fits s =
    let a = s.args in
    fitting a.channels.now a.keys.now a.units.now a.statuses.now a.want

returns : tie.Need-returns-then-not-is_worth
returns c =
    let a = (start c.before).args in
    let left = c.is_worth.ensures (not-true _ c.if-not-is_worth.true-raw) in
    sym (least-left (day_in a.keys.now) _ a.best a.from (a.to - a.from)
    (λ k h l. left _ k h (omega arith)))

returns-2 : tie.Need-returns-then-w-eq0
returns-2 c =
    let w = c.before in
    let s = start w.before.before in
    let a = s.args in
    let none = zero-none (fits s) a.from 64 (sym w.word_at-w.ensures ∙ c.if-w-eq0.true) in
    sym (least-left (day_in a.keys.now) _ a.best a.from (a.to - a.from)
    (λ k h l. better-unless _ _ a.best (unfit a.channels.now a.keys.now a.units.now a.statuses.now
    a.want a.chosen.now k (none k h (omega arith)))))

returns-3 : tie.Need-returns
returns-3 c =
    let b = c.before in
    let u = b.before in
    let w = u.before.before in
    let s = start w.before.before in
    let a = s.args in
    let e = u.without_chosen-u.ensures (fits s) w.word_at-w.ensures in
    rw (c.least_of.ensures, b.low_bits.ensures (word_fits _ a.from _ e))
    (low-least (day_in a.keys.now) _ _
    (fitting-unchosen a.channels.now a.keys.now a.units.now a.statuses.now a.want a.chosen.now)
    a.best a.from (a.to - a.from) _ (omega (arith, s.requires.0.1)) e)

pub in_block_spec : {M : Type 1} → statement M
in_block_spec =
    tie.close
    (tie.spec
    (λ c κs. search rules)
    returns
    (λ c κs. search rules)
    returns-2
    (λ c κs. search rules)
    (λ c. search rules)
    (λ c κs. search rules)
    (λ c κs. search rules)
    returns-3)
