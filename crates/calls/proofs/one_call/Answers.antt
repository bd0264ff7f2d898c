-- `calls::one_call` meets its contract: refused for its lists, or played.
use mathlib.Core.Path.{sym, ◌∙◌}
use native.Mathlib.Omega.{arith}
use Rattle.boards.specs.Layout.{lists}
use Rattle.refusals.specs.Held.{Accepted}
use Rattle.refusals.proofs.HeldLaws.{accepted-lists}
use Rattle.plays.specs.Replays.{call_rows, call_at}
use Rattle.calls.proofs.PublicLaws.{call-refused, call_played}
use Rattle.calls.proofs.one_call.Goals as goal

pub returns-then-number-ne0 : goal.returns-then-number-ne0
returns-then-number-ne0 c =
    let a = c.args in
    call-refused a.table.now (lists a.board.now a.bytes.now a.links.now a.keys.now a.cents.now)
    (call_at (call_rows a.calls.now a.numbers.now a.amounts.now) 0) _ c.board_refusal-number.ensures c.if-number-ne0.true

pub replay_core-requires : goal.replay_core-requires
replay_core-requires c =
    let p = c.requires in
    record {
      accepted = accepted-lists _ _ (sym c.board_refusal-number.ensures ∙ c.if-number-ne0.false);
      fit = record {
        calls-len = omega (arith, p.0, p.2);
        numbers_len = omega (arith, p.1, p.2);
        answers_all = omega (arith, p.2);
      };
    }

pub returns : goal.returns
returns c =
    let a = c.args in
    let l = lists a.board.now a.bytes.now a.links.now a.keys.now a.cents.now in
    let z : Accepted a.table.now l = accepted-lists _ _ (sym c.board_refusal-number.ensures ∙ c.if-number-ne0.false) in
    call_played a.table.now l (call_at (call_rows a.calls.now a.numbers.now a.amounts.now) 0) _ _ z
    (c.replay_core.ensures.plays_in c.requires.2)
