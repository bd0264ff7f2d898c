-- `columns::gather::word_at` meets its contract: none fits, or the marks of the bytes as a word.
use mathlib.Core.Path.{sym, ◌∙◌}
use borrow.Author.Rules.{rules}
use borrow.Author.Tests.{not-true}
use Rattle.columns.proofs.Bytes.{yes-is, marks-are}
use Rattle.columns.proofs.Fits.{ones-word, none-one}
use Rattle.columns.proofs.gather.word_at.Statement.{statement}
use Rattle.columns.proofs.gather.word_at.Tie as tie

abbrev start : tie.After-bytes_at-y → tie.Start
start c = c.before.before.before.before.before

abbrev bytes : tie.After-any_one → tie.After-bytes_at-y
bytes c = c.before.before

returns : tie.Need-returns-then-not-any_one
returns c =
    let o = c.before in
    let l = bytes o in
    none-one _ _ (start l).args.at l.bytes_at-y.ensures (sym o.any_one.ensures ∙ not-true _ c.if-not-any_one.true-raw)

word-of-requires : tie.Need-word_of-requires
word-of-requires c κs = marks-are _ _ c.marks-z.ensures

returns-2 : tie.Need-returns
returns-2 c =
    let m = c.before.before in
    let l = bytes m.before.before.before in
    c.word_of.ensures
    ∙ ones-word _ _ (start l).args.at l.bytes_at-y.ensures _ (yes-is _ _ m.marks-z.ensures)

pub word_at_spec : {M : Type 1} → statement M
word_at_spec =
    tie.close
    (tie.spec
    (λ c κs. search rules)
    (λ c κs. search rules)
    returns
    (λ c κs. search rules)
    word-of-requires
    returns-2)
