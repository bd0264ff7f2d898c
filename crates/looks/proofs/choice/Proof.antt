-- `looks::choice` meets its contract, for the subject's own place and for another. A chord has at most 8 channels.
use mathlib.Core.Path.{◌≡◌, sym, ap, ◌∙◌}
use Prim.Native.Nat.{◌<◌}
use native.Mathlib.Omega.{arith}
use lib.ListN.{length, get_or, take}
use lib.Seq.{length-take-le}
use Rattle.model.specs.Layout.{table_of}
use Rattle.model.specs.Tables.{chord_at}
use Rattle.model.specs.Boards.{no_message}
use Rattle.model.proofs.AcceptedChords.{table-ok}
use Rattle.columns.specs.Columns.{columns_by, messages_from}
use Rattle.state.specs.Views.{job_in}
use Rattle.looks.proofs.Looking.{nth-property, nth-unit, choice-own, choice-other, chosen-first}
use borrow.Author.Rules.{rules}
use Rattle.looks.proofs.choice.Statement.{statement}
use Rattle.looks.proofs.choice.Tie as tie

abbrev start : tie.After-first_of → tie.Start
start c = c.before.before.before.before.before.before.before.before

under : (s : tie.Start) → s.args.k < 8
under s =
    let l = (table-ok s.args.table.now s.requires.0.0).chord_few s.args.j.chord s.requires.0.1 in
    omega (arith, s.requires.1.0.1)

eight : (s : tie.Start) → length s.args.j.chosen ≡ 8
eight s = omega arith

returns : tie.Need-returns-then-first_of-k
returns c =
    let i = c.before in
    let f = i.before in
    let s = start f in
    let a = s.args in
    λ o e. choice-own (table_of a.table.now) a.channels.now a.keys.now a.statuses.now a.n o
    (job_in (table_of a.table.now) a.j) a.k f.first_of.result s.requires.1.0.2 f.first_of.ensures
    i.if-first_of-k.true

array-share-prefix-chosen : tie.Need-slice_bounds-chosen-end
array-share-prefix-chosen c =
    let s = start c.before.before.before in
    let l = under s in
    let e = eight s in
    omega arith

slice-aggregate-oldest : tie.Need-slice_bounds-oldest-end
slice-aggregate-oldest c =
    let s = start c.before.before.before.before in
    let l = under s in
    let e = eight s in
    sym (length-take-le s.args.k s.args.j.chosen (omega arith))

returns-2 : tie.Need-returns
returns-2 c =
    let w = c.before.before.before in
    let g = w.want_of-want in
    let i = w.before in
    let f = i.before in
    let s = start f in
    let a = s.args in
    let t = table_of a.table.now in
    let h = s.requires.1.0.2 in
    λ o e.
    let m = columns_by a.channels.now a.keys.now a.statuses.now o in
    choice-other t a.channels.now a.keys.now a.statuses.now a.n o (job_in t a.j) a.k
    f.first_of.result h f.first_of.ensures g.result.channel c.oldest.result (take a.k a.j.chosen)
    (chosen-first t a.j a.k s.requires.1.0.0) i.if-first_of-k.false g.ensures.0
    (c.oldest.ensures.1 o (chord_at t a.j.chord) (get_or (messages_from m 0 a.n) a.j.subject no_message).sent
    e (g.ensures.2 _ (nth-property m a.n a.j.subject h)
    (nth-unit m a.n a.j.subject h ∙ ap (λ us. get_or us a.j.subject 0) e)))

pub choice_spec : {M : Type 1} → statement M
choice_spec =
    tie.close
    (tie.spec
    (λ c. search rules)
    (λ c. search rules)
    (λ c κs. search rules)
    (λ c. search rules)
    returns
    (λ c κs. search rules)
    array-share-prefix-chosen
    slice-aggregate-oldest
    (λ c κs. search rules)
    returns-2)
