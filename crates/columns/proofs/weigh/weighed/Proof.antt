-- `columns::weigh::weighed` meets its contract, by the first of its tests that fails.
use mathlib.Core.Path.{sym, ◌∙◌}
use mathlib.Core.Bool.{true, false}
use native.Mathlib.Omega.{arith}
use borrow.Author.Rules.{rules}
use Rattle.columns.specs.Ranks.{day_in, rank_of}
use Rattle.columns.proofs.Ranks.{better-unless, better-later, better-taken}
use Rattle.columns.proofs.Walks.{chosen_is}
use Rattle.columns.proofs.weigh.weighed.Statement.{statement}
use Rattle.columns.proofs.weigh.weighed.Tie as tie

abbrev start : tie.After-rank-r → tie.Start
start c = c.before.before.before

returns : tie.Need-returns-then-best-r
returns c =
    let a = (start c.before).args in
    sym
    (better-later _ (rank_of (day_in a.keys.now) a.k) a.best (rw (← c.rank-r.ensures) c.if-best-r.true))

returns-2 : tie.Need-returns-then-is_in
returns-2 c =
    let a = (start c.before.before.before).args in
    sym (better-unless _ (rank_of (day_in a.keys.now) a.k) a.best
    (chosen_is a.chosen.now a.k true (sym c.if-is_in.true ∙ c.is_in.ensures)))

returns-3 : tie.Need-returns
returns-3 c =
    let e = c.before.before in
    let r = e.rank-r in
    let a = (start e.before).args in
    r.ensures ∙ sym (better-taken _ (rank_of (day_in a.keys.now) a.k) a.best
    (chosen_is a.chosen.now a.k false (sym c.if-is_in.false ∙ c.is_in.ensures))
    (rw (← r.ensures) (omega (arith, e.if-best-r.false))))

pub weighed_spec : {M : Type 1} → statement M
weighed_spec =
    tie.close
    (tie.spec
    (λ c κs. search rules)
    returns
    (λ c. search rules)
    (λ c κs. search rules)
    returns-2
    returns-3)
