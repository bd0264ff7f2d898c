-- `soundness::match_ok` meets its contract: no chord has more channels than a match has numbers.
use Rattle.std.proofs.Common.{arith, refl, ◌∙◌}
use lib.ListN.{length-take}
use Rattle.model.proofs.TableLaws.{size_few}
use Rattle.soundness.proofs.Columns.{below-at}
use Rattle.soundness.proofs.match_ok.Goals as goal

pub slice_bounds-below-end : goal.slice_bounds-below-end
slice_bounds-below-end c =
    let k = size_few _ c.args.chord c.requires.table_value.0 c.requires.table_value.1 in
    rw length-take (omega (arith, c.chord_len.ensures))

pub returns : goal.returns
returns c =
    let k = size_few _ c.args.chord c.requires.table_value.0 c.requires.table_value.1 in
    below-at c.args.numbers.now c.below.ensures refl (c.from-n.ensures ∙ c.chord_len.ensures) (omega arith)
