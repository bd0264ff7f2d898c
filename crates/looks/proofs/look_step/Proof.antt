-- `looks::look_step` meets its contract, by whether a message is taken. A chord has at most 8 channels.
use mathlib.Core.Path.{◌≡◌, sym, ◌∙◌}
use Prim.Native.Nat.{ℕ, suc, ◌-◌}
use native.Mathlib.Omega.{arith}
use Rattle.model.specs.Layout.{table_of}
use Rattle.model.specs.Steps.{looked_by, look_step}
use Rattle.model.proofs.AcceptedChords.{table-ok}
use Rattle.columns.specs.Columns.{Others, board_by}
use Rattle.state.specs.Views.{job_in, sender_in}
use Rattle.looks.proofs.Looking.{looks-by}
use borrow.Author.Rules.{rules}
use Rattle.looks.proofs.look_step.Statement.{statement}
use Rattle.looks.proofs.look_step.Tie as tie

abbrev start : tie.After-choice-taken → tie.Start
start c = c.before.before.before.before.before.before.before

-- what was taken is the model's choice, so the look is by it
looked : (c : tie.After-choice-taken) (o : Others) → o.units ≡ (start c).args.units.now → (x : ℕ)
    → x ≡ c.choice-taken.result
    → let a = (start c).args in
    let t = table_of a.table.now in
    let b = board_by a.channels.now a.keys.now a.statuses.now a.n o in
    looked_by t b (sender_in t a.d) (job_in t a.d.job) a.k x
    ≡ look_step t b (sender_in t a.d) (job_in t a.d.job) a.k
looked c o u x e =
    let a = (start c).args in
    let t = table_of a.table.now in
    looks-by t (board_by a.channels.now a.keys.now a.statuses.now a.n o) (sender_in t a.d)
    (job_in t a.d.job) a.k x (e ∙ c.choice-taken.ensures o u)

choice-requires : tie.Need-choice-taken-requires
choice-requires c κs =
    let p = c.requires.1 in
    (c.requires.0, ((p.0.0, p.0.1, p.1.0.0), (p.1.0.1, p.1.1)))

missed-requires : tie.Need-missed-requires
missed-requires c κs =
    let s = start c.before in
    let p = s.requires.1 in
    (s.requires.0, ((p.0.1, p.1.0.0), (p.1.0.1, p.1.1)))

returns : tie.Need-returns-then-taken-eq0
returns c =
    let i = c.before in
    let f = i.before in
    λ o u. c.missed.ensures o u ∙ looked f o u 0 (sym i.if-taken-eq0.true)

found-requires : tie.Need-found-requires
found-requires c κs =
    let s = start c.before.before in
    let l = (table-ok s.args.table.now s.requires.0.0).chord_few s.args.d.job.chord s.requires.0.1 in
    search rules

returns-2 : tie.Need-returns
returns-2 c =
    let g = c.before in
    let i = g.before in
    let f = i.before in
    let a = (start f).args in
    let t = table_of a.table.now in
    let z : suc (f.choice-taken.result - 1) ≡ f.choice-taken.result = omega (arith, i.if-taken-eq0.false) in
    λ o u. c.found.ensures t (board_by a.channels.now a.keys.now a.statuses.now a.n o)
    (sym g.chord_len-size.ensures)
    ∙ looked f o u _ z

pub look_step_spec : {M : Type 1} → statement M
look_step_spec =
    tie.close
    (tie.spec
    choice-requires
    missed-requires
    returns
    (λ c κs. search rules)
    (λ c. search rules)
    found-requires
    returns-2)
