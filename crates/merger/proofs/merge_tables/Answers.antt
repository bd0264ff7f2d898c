-- `merger::merge_tables` meets its contract: each test in its order, then a write of the merged value.
use Rattle.std.proofs.Common.{◌≡◌, List, ℕ, length, sym, ap, ◌∙◌, arith}
use Rattle.model.specs.Tables.{Table}
use Rattle.model.specs.Layout.{table_refusal, table_of}
use Rattle.model.proofs.AcceptedChords.{table-ok}
use Rattle.merging.proofs.MergedAccepted.{map-says}
use Rattle.merging.proofs.WriteLaws.{fits-room, write-refusal-is, written_is, first_refused}
use Rattle.merging.proofs.WriteLaws.{second_refused, map_refused, counts_refused, none_refused}
use Rattle.codec.specs.Views.{table_read}
use Rattle.codec.specs.declared.Read as DR
use Rattle.writer.proofs.Chords.{length-kinds-in, length-chords-in}
use Rattle.merger.proofs.Walks.{new-count}
use Rattle.merger.proofs.merge_tables.Goals as goal

number_is : (s : List ℕ) (r : DR.Read) → r ≡ table_read s → r.number ≡ table_refusal s
unfolding table_read
number_is s r e = ap (λ (r : DR.Read). r.number) e

pub returns-then-read-ne0 : goal.returns-then-read-ne0
returns-then-read-ne0 c =
    let a = c.args in
    let e = number_is a.first.now _ c.read_table-read.ensures.value in
    let f = first_refused a.first.now a.second.now a.map.now a.out.now (λ z. c.if-read-ne0.true (e ∙ z)) in
    record { value = e ∙ f.number; out_after = f.kept }

pub returns-then-other-ne0 : goal.returns-then-other-ne0
returns-then-other-ne0 c =
    let a = c.args in
    let first = sym (number_is a.first.now _ c.read_table-read.ensures.value) ∙ c.if-read-ne0.false in
    let e = c.table_refusal-other.ensures in
    let f = second_refused a.first.now a.second.now a.map.now a.out.now first (λ z. c.if-other-ne0.true (e ∙ z)) in
    record { value = e ∙ f.number; out_after = f.kept }

pub map_ok-requires : goal.map_ok-requires
map_ok-requires c = (
  sym (number_is c.args.first.now _ c.read_table-read.ensures.value) ∙ c.if-read-ne0.false,
  sym c.table_refusal-other.ensures ∙ c.if-other-ne0.false,
)

pub returns-then-not-map_ok : goal.returns-then-not-map_ok
returns-then-not-map_ok c =
    let a = c.args in
    let first = sym (number_is a.first.now _ c.read_table-read.ensures.value) ∙ c.if-read-ne0.false in
    let second = sym c.table_refusal-other.ensures ∙ c.if-other-ne0.false in
    let f = map_refused a.first.now a.second.now a.map.now a.out.now first second (sym c.if-not-map_ok.ensures) in
    record { value = f.number; out_after = f.kept }

pub fits-requires : goal.fits-requires
fits-requires c =
    record {
      first_ok = sym (number_is c.args.first.now _ c.read_table-read.ensures.value) ∙ c.if-read-ne0.false;
      second_ok = sym c.table_refusal-other.ensures ∙ c.if-other-ne0.false;
      whole = (map-says _ _ _ (sym c.if-not-map_ok.ensures)).0;
    }

pub returns-then-not-fits : goal.returns-then-not-fits
returns-then-not-fits c =
    let a = c.args in
    let first = sym (number_is a.first.now _ c.read_table-read.ensures.value) ∙ c.if-read-ne0.false in
    let second = sym c.table_refusal-other.ensures ∙ c.if-other-ne0.false in
    let f = counts_refused a.first.now a.second.now a.map.now a.out.now first second (sym c.if-not-map_ok.ensures)
    (sym c.if-not-fits.ensures) in
    record { value = f.number; out_after = f.kept }

pub merged-requires : goal.merged-requires
merged-requires c =
    let a = c.args in
    let first = sym (number_is a.first.now _ c.read_table-read.ensures.value) ∙ c.if-read-ne0.false in
    let second = sym c.table_refusal-other.ensures ∙ c.if-other-ne0.false in
    let t = c.read_table-read.ensures.table_value first in
    let value = c.read_table-read.result.table in
    let w = (map-says _ _ _ (sym c.if-not-map_ok.ensures)).0 in
    let f = fits-room _ _ _ (table-ok _ first) (table-ok _ second) (sym c.if-not-fits.ensures) in
    let k = sym (length-kinds-in value) ∙ ap (λ (x : Table). length x.kinds) t in
    let h = sym (length-chords-in value) ∙ ap (λ (x : Table). length x.chords) t in
    record {
      chords = record { accepted = second; room = omega (arith, f.1, h) };
      whole = w;
      kinds = omega (arith, f.0, k, new-count a.map.now (table_of a.second.now).kinds w);
    }

pub returns : goal.returns
returns c =
    let a = c.args in
    let first = sym (number_is a.first.now _ c.read_table-read.ensures.value) ∙ c.if-read-ne0.false in
    let second = sym c.table_refusal-other.ensures ∙ c.if-other-ne0.false in
    let n = none_refused a.first.now a.second.now a.map.now a.out.now first second (sym c.if-not-map_ok.ensures)
    (sym c.if-not-fits.ensures) in
    let e = rw (c.read_table-read.ensures.table_value first) at c.merged.ensures in
    let w = rw e at c.write_table.ensures in
    record {
      value = w.value ∙ sym (write-refusal-is a.first.now a.second.now a.map.now a.out.now n);
      out_after = w.out_after ∙ sym (written_is a.first.now a.second.now a.map.now a.out.now n);
    }
