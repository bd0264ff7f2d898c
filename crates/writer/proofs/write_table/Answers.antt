-- `writer::write_table` meets its contract: counts out of range are refused, and other lists are fronts of the arrays.
use Rattle.std.proofs.Common.{sym, arith, rules}
use Rattle.codec.specs.Views.{table_in}
use Rattle.writer.proofs.Chords.{fronts}
use Rattle.writer.proofs.Refusals.{counts-out, as-found, value-refused}
use Rattle.writer.proofs.write_table.Goals as goal

pub returns-then-not-counts_ok : goal.returns-then-not-counts_ok
returns-then-not-counts_ok c =
    let t = c.args.table in
    let out = c.args.out.now in
    let e = counts-out t (sym c.if-not-counts_ok.ensures) in
    let r = value-refused (table_in t) out 2 (sym e) (λ z. omega arith) in
    record { value = r; out_after = as-found (table_in t) out 2 r (λ z. omega arith) }

pub returns : goal.returns
returns c =
    let e = fronts c.args.table (search rules) (search rules) in
    let w = rw (c.from.ensures, c.from-2.ensures, e) at c.write_lists.ensures in
    record { value = w.value; out_after = w.out_after }
