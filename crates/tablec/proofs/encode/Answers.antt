-- `tablec::encode` meets its contract: the writer's bytes, as many as their header says.
use Rattle.std.proofs.Common.{rules}
use Rattle.tablec.proofs.Written.{encoded}
use Rattle.tablec.proofs.encode.Goals as goal

pub returns-in-0 : goal.returns-in-0
returns-in-0 c = encoded _ c.args.out.now _ _ (search rules) c.write_table.ensures.out_after c.table_len.ensures
