-- `tablemerge::merge` meets its contract: the merged table's bytes, as many as their header says.
use Rattle.std.proofs.Common.{rules}
use Rattle.tablemerge.proofs.Outcomes.{merged_front}
use Rattle.tablemerge.proofs.merge.Goals as goal

pub returns-in-0-clause-merged : goal.returns-in-0-clause-merged
returns-in-0-clause-merged c =
    merged_front _ _ _ c.args.out.now _ _ (search rules) c.merge_tables.ensures.out_after c.table_len.ensures
