-- `refusals::row_ok` meets its contract: the limits, the phase, and then the state.
use Rattle.std.proofs.Common.{arith, rules}
use Rattle.model.specs.Layout.{table_of}
use Rattle.refusals.proofs.RowLaws.{kind_below, numbers_ok, row_by}
use Rattle.refusals.proofs.row_ok.Goals as goal

pub phase_ok-requires : goal.phase_ok-requires
phase_ok-requires c = grind (arith, kind_below)

pub state_ok-requires-clause-a_encodes : goal.state_ok-requires-clause-a_encodes
state_ok-requires-clause-a_encodes c = (c.requires.a_len.0, grind (arith, numbers_ok))

pub returns-then-phase_ok : goal.returns-then-phase_ok
returns-then-phase_ok c b sees =
    let a = c.args in
    let row = row_by (table_of a.table.now) b a.a.now a.n a.k a.channels.now sees (search rules) in
    grind arith

pub returns-else-phase_ok : goal.returns-else-phase_ok
returns-else-phase_ok c b sees =
    let a = c.args in
    let row = row_by (table_of a.table.now) b a.a.now a.n a.k a.channels.now sees (search rules) in
    grind arith
