-- `refusals::board_refusal` meets its contract: the reader's number, or 30 where a test fails.
use Rattle.std.proofs.Common.{arith}
use Rattle.boards.specs.Layout.{lists, lists_ok}
use Rattle.rows.specs.Numbers.{encodes}
use Rattle.refusals.proofs.HeldLaws.{refusal_is}
use Rattle.refusals.proofs.board_refusal.Goals.{then-board-le1, else-board-le1}
use Rattle.refusals.proofs.board_refusal.Goals as goal

pub returns-then-number-ne0 : goal.returns-then-number-ne0
returns-then-number-ne0 c =
    let a = c.args in
    let is = refusal_is a.table.now (lists a.board.now a.bytes.now a.links.now a.keys.now a.cents.now) in
    grind arith

pub is_sound-sound-requires-clause-bytes_len : goal.is_sound-sound-requires-clause-bytes_len
unfolding lists_ok
is_sound-sound-requires-clause-bytes_len c =
    let listed = c.lists_ok.ensures c.args.board.now in
    grind arith

pub returns-then-sound : goal.returns-then-sound
returns-then-sound c =
    let a = c.args in
    let is = refusal_is a.table.now (lists a.board.now a.bytes.now a.links.now a.keys.now a.cents.now) in
    let listed = c.lists_ok.ensures a.board.now in
    elim c.if-board-le1.branch [
      | then-board-le1 w ↦ let e = w.is_sound-sound.ensures a.keys.now in grind arith
      | else-board-le1 w ↦ grind arith
    ]

pub returns-else-sound : goal.returns-else-sound
unfolding encodes
returns-else-sound c =
    let a = c.args in
    let is = refusal_is a.table.now (lists a.board.now a.bytes.now a.links.now a.keys.now a.cents.now) in
    let listed = c.lists_ok.ensures a.board.now in
    elim c.if-board-le1.branch [
      | then-board-le1 w ↦ let e = w.is_sound-sound.ensures a.keys.now in grind arith
      | else-board-le1 w ↦ grind arith
    ]
