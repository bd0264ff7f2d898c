-- `moves::move_of` meets its contract: an add that is not refused has room for its message.
use Rattle.std.proofs.Common.{refl}
use Rattle.model.proofs.Shares.{room-left}
use Rattle.model.specs.Layout.{table_of}
use Rattle.boards.specs.Calls.{sent_in}
use Rattle.boards.specs.Layout.{lists}
use Rattle.rows.specs.Decoded.{board_from}
use Rattle.refusals.specs.Held.{held_of}
use Rattle.refusals.proofs.Refusals.{table-accepted, board-shares}
use Rattle.moves.proofs.RefusedLaws.{unrefused}
use Rattle.moves.proofs.move_of.Goals as goal

pub add_move-requires : goal.add_move-requires
unfolding board_from
add_move-requires c =
    let z = c.requires.accepted.accepted in
    let f = rw c.in-Add.is at c.requires.call_value in
    let u = unrefused (table_of c.args.table.now) (board_from c.args.board.now) c.args.keys.now _
    (sent_in c.in-Add.x) f in
    (table-accepted _ _ _ _ z, u.1, room-left (board-shares _ _ _ _ z) _ u.0 u.2)

pub returns-in-Add : goal.returns-in-Add
unfolding board_from
returns-in-Add c =
    let a = c.args in
    let h = held_of (lists a.board.now a.bytes.now a.links.now a.keys.now a.cents.now) in
    let e = c.add_move.ensures in
    let f = rw c.in-Add.is at c.requires.call_value in
    record {
      plays = rw c.in-Add.is (e.plays h c.in-Add.field-0 c.requires.accepted.accepted refl f);
      fits = (e.by_index.0 _, e.by_index.1);
    }
