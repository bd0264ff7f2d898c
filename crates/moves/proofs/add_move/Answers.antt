-- `moves::add_move` meets its contract: a message more, with a job on it for its sender.
use Rattle.std.proofs.Common.{arith, refl}
use Rattle.model.proofs.AcceptedChords.{table-ok}
use Rattle.moves.proofs.AddLaws.{add-plays}
use Rattle.moves.proofs.add_move.Goals as goal

pub overflow_cast-x : goal.overflow_cast-x
overflow_cast-x c = let few = (table-ok _ c.requires.0).kinds_few in omega arith

pub returns-clause-plays : goal.returns-clause-plays
returns-clause-plays c = λ h i z e r.
    let f = rw (← e) at c.new_sender.ensures in
    rw (← e) (add-plays c.args.table.now h z i c.args.x c.new_sender.result (omega (arith, c.requires.2)) r f)

pub returns-clause-by_index : goal.returns-clause-by_index
returns-clause-by_index c =
    let few = (table-ok _ c.requires.0).kinds_few in
    (λ _. record { room = (c.requires.2, omega arith); sure = tt }, refl)
