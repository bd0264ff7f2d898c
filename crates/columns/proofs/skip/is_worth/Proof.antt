-- `columns::skip::is_worth` meets its contract: without a best, or by no day before its day.
use mathlib.Core.Path.{sym, ◌∙◌}
use Prim.Native.Nat.{◌+◌}
use native.Mathlib.Omega.{arith}
use borrow.Author.Rules.{rules}
use Rattle.model.proofs.Tests.{never}
use Rattle.columns.specs.Ranks.{day_in}
use Rattle.columns.proofs.Blocks.{rank-day, none_before}
use Rattle.columns.proofs.skip.is_worth.Statement.{statement}
use Rattle.columns.proofs.skip.is_worth.Tie as tie

abbrev start : tie.Else-best-eq-NO_RANK → tie.Start
start c = c.before.before

cast-any-before : tie.Need-overflow_cast-best
cast-any-before c =
    let s = start c in
    let d = c.shared_slice_known-1.given in
    record {
      fits = rank-day (day_in s.args.keys.now) s.args.at s.args.best (omega arith) c.if-best-eq-NO_RANK.false
          s.requires.1 (λ k. omega (arith, d (1024 + k)));
    }

returns-2 : tie.Need-returns
returns-2 c e =
    let k = c.before in
    let s = start k in
    let a = s.args in
    none_before a.keys.now a.best a.at s.requires.1 (omega arith) k.if-best-eq-NO_RANK.false
    (sym c.any_before.ensures ∙ e)

pub is_worth_spec : {M : Type 1} → statement M
is_worth_spec =
    tie.close
    (tie.spec (λ c e. never (sym e)) (λ c. search rules) cast-any-before (λ c κs. search rules) returns-2)
