-- `calls::close` meets its contract: refused for its lists, or played.
use mathlib.Core.Path.{sym, ◌∙◌}
use Rattle.model.specs.Pools.{closes}
use Rattle.boards.specs.Layout.{lists}
use Rattle.refusals.specs.Held.{Accepted}
use Rattle.refusals.proofs.HeldLaws.{accepted-lists}
use Rattle.calls.proofs.PublicLaws.{call-refused, call_played}
use Rattle.calls.proofs.close.Goals as goal

pub returns-then-number-ne0 : goal.returns-then-number-ne0
returns-then-number-ne0 c =
    let a = c.args in
    call-refused a.table.now (lists a.board.now a.bytes.now a.links.now a.keys.now a.cents.now) (closes a.day) _
    c.board_refusal-number.ensures c.if-number-ne0.true

pub close-requires : goal.close-requires
close-requires c =
    let z = accepted-lists _ _ (sym c.board_refusal-number.ensures ∙ c.if-number-ne0.false) in
    (z.numbers, z.sized.keys-len)

pub returns : goal.returns
returns c =
    let a = c.args in
    let l = lists a.board.now a.bytes.now a.links.now a.keys.now a.cents.now in
    let z : Accepted a.table.now l = accepted-lists _ _ (sym c.board_refusal-number.ensures ∙ c.if-number-ne0.false) in
    call_played a.table.now l (closes a.day) _ _ z
    (c.close.ensures.by_index a.table.now a.bytes.now a.links.now a.cents.now z)
