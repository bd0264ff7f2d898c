-- `writer::write_lists` meets its contract: a refusal comes before the first store, without one the bytes are stored.
use Rattle.std.proofs.Common.{sym, ◌∙◌, arith}
use Rattle.writer.specs.Writes.{table_with}
use Rattle.writer.proofs.Refusals.{as-found, value-refused, buffer-short, none_refused, all-written, channels-few}
use Rattle.writer.proofs.Writes.{length-written}
use Rattle.writer.proofs.write_lists.Goals as goal

pub returns-then-number-ne0 : goal.returns-then-number-ne0
returns-then-number-ne0 c =
    let a = c.args in
    let v = table_with a.kinds.now a.chords.now in
    let r = value-refused v a.out.now _ c.lists_refusal-number.ensures c.if-number-ne0.true in
    record { value = r; out_after = as-found v a.out.now _ r c.if-number-ne0.true }

pub returns-then-out-kinds : goal.returns-then-out-kinds
returns-then-out-kinds c =
    let a = c.args in
    let v = table_with a.kinds.now a.chords.now in
    let w = length-written a.kinds.now a.chords.now in
    let r = buffer-short v a.out.now (sym c.lists_refusal-number.ensures ∙ c.if-number-ne0.false) (omega arith) in
    record { value = r; out_after = as-found v a.out.now 31 r (λ z. omega arith) }

pub put_table-requires : goal.put_table-requires
put_table-requires c =
    let a = c.args in
    let e = sym c.lists_refusal-number.ensures ∙ c.if-number-ne0.false in
    record {
      kinds_few = c.requires.kinds_few;
      chords_few = c.requires.chords_few;
      channels_few = channels-few a.kinds.now a.chords.now c.requires e;
      room = omega arith;
    }

pub returns : goal.returns
returns c =
    let a = c.args in
    let v = table_with a.kinds.now a.chords.now in
    let w = length-written a.kinds.now a.chords.now in
    let r = none_refused v a.out.now (sym c.lists_refusal-number.ensures ∙ c.if-number-ne0.false) (omega arith) in
    record { value = r; out_after = c.put_table.ensures ∙ all-written v a.out.now r }
