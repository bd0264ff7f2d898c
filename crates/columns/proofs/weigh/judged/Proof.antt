-- `columns::weigh::judged` meets its contract: of another kind, unlike what is wanted, or weighed.
use mathlib.Core.Path.{sym, ap, ◌∙◌}
use borrow.Author.Rules.{rules}
use borrow.Author.Tests.{not-true, not-false}
use Rattle.columns.specs.Firsts.{of_kind}
use Rattle.columns.specs.Ranks.{day_in, rank_of, better}
use Rattle.columns.proofs.Ranks.{better-unless}
use Rattle.columns.proofs.Walks.{other-kind, other-like, fitting-is}
use Rattle.columns.proofs.weigh.judged.Statement.{statement}
use Rattle.columns.proofs.weigh.judged.Tie as tie

abbrev start : tie.After-struct_known-2-1 → tie.Start
start c = c.before.before.before.before.before.before.before.before.before

returns : tie.Need-returns-then-not-channels-k
unfolding of_kind
returns c =
    let a = (start c.before).args in
    sym (better-unless _ (rank_of (day_in a.keys.now) a.n) a.best
    (other-kind a.channels.now a.keys.now a.units.now a.statuses.now a.want a.chosen.now a.n
    (not-true _ c.if-not-channels-k.true-raw)))

returns-2 : tie.Need-returns-then-not-is_like
returns-2 c =
    let l = c.before in
    let a = (start l.before.before).args in
    sym (better-unless _ (rank_of (day_in a.keys.now) a.n) a.best
    (other-like a.channels.now a.keys.now a.units.now a.statuses.now a.want a.chosen.now a.n
    (sym l.is_like.ensures ∙ not-true _ c.if-not-is_like.true-raw)))

returns-3 : tie.Need-returns
unfolding of_kind
returns-3 c =
    let e = c.before in
    let l = e.before in
    let a = (start l.before.before).args in
    c.weighed.ensures
    ∙ ap (λ t. better t (rank_of (day_in a.keys.now) a.n) a.best)
    (sym (fitting-is a.channels.now a.keys.now a.units.now a.statuses.now a.want a.chosen.now
    a.n (not-false _ l.if-not-channels-k.false-raw) (sym l.is_like.ensures ∙ not-false _ e.if-not-is_like.false-raw)))

pub judged_spec : {M : Type 1} → statement M
judged_spec =
    tie.close
    (tie.spec
    (λ c. search rules)
    (λ c. search rules)
    returns
    (λ c κs. search rules)
    returns-2
    (λ c κs. search rules)
    returns-3)
