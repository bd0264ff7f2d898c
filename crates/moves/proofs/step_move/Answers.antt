-- `moves::step_move` meets its contract: the effect of a sender that may step.
use Rattle.std.proofs.Common.{◌≡◌, length, refl, sym, rules}
use Rattle.boards.specs.Layout.{lists}
use Rattle.rows.specs.Decoded.{board_from}
use Rattle.refusals.specs.Held.{held_of}
use Rattle.refusals.proofs.Refusals.{table-accepted, board-rests}
use Rattle.moves.proofs.StepLaws.{others, counted, is-ready, step-same, step-plays, step-fits}
use Rattle.moves.proofs.step_move.Goals as goal

pub effect_of-said-requires-clause-table_value : goal.effect_of-said-requires-clause-table_value
unfolding board_from
effect_of-said-requires-clause-table_value c =
    let z = c.requires.accepted in (
      table-accepted _ _ _ _ z.accepted,
      rw c.sender_at.ensures c.requires.i_bound.1,
      z.sized.links-len,
      rw c.backoffs.ensures.0 (board-rests _ _ _ _ z.accepted),
    )

pub effect_of-said-requires-clause-ready : goal.effect_of-said-requires-clause-ready
unfolding board_from
effect_of-said-requires-clause-ready c =
    let a = c.args in
    let h = held_of (lists a.board.now a.bytes.now a.links.now a.keys.now a.cents.now) in
    rw (c.channels.ensures.0, c.statuses.ensures.0, c.sender_at.ensures)
    (is-ready a.table.now h c.requires.accepted.accepted a.i)

pub returns : goal.returns
unfolding board_from
returns c =
    let a = c.args in
    let t = a.table.now in
    let h = held_of (lists a.board.now a.bytes.now a.links.now a.keys.now a.cents.now) in
    let z = c.requires.accepted.accepted in
    let x = c.effect_of-said.result in
    let e = c.effect_of-said.ensures (others t h z a.i) (counted t h z a.i) (sym c.backoffs.ensures.0) refl refl refl in
    let q = step-same t h z a.i x c.channels.ensures.0 c.statuses.ensures.0 c.sender_at.ensures e in
    let eight : length x.sender.job.chosen ≡ 8 = search rules in
    record {
      plays = step-plays t h z a.i x c.requires.i_bound.0 eight q;
      fits = step-fits t h z a.i x c.requires.i_bound.0 eight q;
    }
