-- `steps::effect_of` meets its contract, state by state; an idle sender may not step.
use mathlib.Core.Path.{sym, ◌∙◌}
use native.Mathlib.Omega.{arith}
use Rattle.model.specs.Layout.{table_of}
use Rattle.columns.specs.Columns.{board_by}
use Rattle.steps.proofs.ReadyLaws.{channels-in, statuses-in, own_in, own_some}
use Rattle.steps.proofs.StateSteps.{work-is, blocked-is, not_idle}
use borrow.Author.Rules.{rules}
use Rattle.steps.proofs.effect_of.Statement.{statement}
use Rattle.steps.proofs.effect_of.Tie as tie

abbrev start : tie.After-shared_slice_known-6-1 → tie.Start
start c = c.before.before.before.before.before.before

returns : tie.Need-returns-in-Idle
returns c =
    let s = start c.before in
    not_idle s.args.d s.requires.0.1 c.in-Idle.is

-- the parts of the links are the columns that they hold
job-step-requires : tie.Need-job_step-requires
job-step-requires c κs =
    let g = c.before in
    let s = start g.before in (
      (s.requires.0.0, g.in-Working.is, s.requires.0.3),
      (rw c.units-units.ensures.0 s.requires.1.0, s.requires.1.1),
    )

returns-2 : tie.Need-returns-in-Working
returns-2 c =
    let u = c.before in
    let g = u.before in
    let s = start g.before in
    let a = s.args in
    λ o em eb ea ew eu. work-is (table_of a.table.now)
    (board_by a.channels.now a.keys.now a.statuses.now a.n o) a.d g.in-Working.is
    (c.job_step.ensures o em eb (eu ∙ sym u.units-units.ensures.0))

blocked-step-requires : tie.Need-blocked_step-requires
blocked-step-requires c κs =
    let m = c.before in
    let g = m.before in
    let s = start g.before in
    let r = s.requires.1.0 in
    let few = r.lent.few in (
      (s.requires.0.0, own_some _ _ _ _ _ _ _ _ r g.in-Blocked.is, own_in _ _ _ _ _ _ _ _ r),
      (
        channels-in _ _ _ _ _ _ _ _ r,
        statuses-in _ _ _ _ _ _ _ _ r,
        omega (arith, few, m.matched-matched.ensures.1),
        omega (arith, few, c.wakers.ensures.1),
      ),
    )

returns-3 : tie.Need-returns-in-Blocked
returns-3 c =
    let w = c.before in
    let m = w.before in
    let g = m.before in
    let s = start g.before in
    let a = s.args in
    λ o em eb ea ew eu. blocked-is (table_of a.table.now)
    (board_by a.channels.now a.keys.now a.statuses.now a.n o) a.d g.in-Blocked.is
    s.requires.0.1
    (c.blocked_step.ensures a.keys.now o (ea ∙ sym m.matched-matched.ensures.0) (ew ∙ sym w.wakers.ensures.0))

pub effect_of_spec : {M : Type 1} → statement M
effect_of_spec =
    tie.close
    (tie.spec
    (λ c. search rules)
    (λ c. search rules)
    (λ c κs. search rules)
    job-step-requires
    (λ c. search rules)
    (λ c κs. search rules)
    (λ c κs. search rules)
    blocked-step-requires
    returns
    returns-2
    returns-3)
