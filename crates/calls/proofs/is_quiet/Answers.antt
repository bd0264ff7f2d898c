-- `calls::is_quiet` meets its contract: a sender that may step is a no.
use mathlib.Core.Path.{refl, sym, ◌∙◌}
use native.Mathlib.Omega.{arith}
use Rattle.calls.proofs.SenderRows.{quiet_all, rest-no, rest-next, rest-none}
use Rattle.calls.proofs.is_quiet.Goals as goal

pub loop-i-init : goal.loop-i-init
loop-i-init c = (omega arith, λ t. refl)

pub returns-then-steps_at : goal.returns-then-steps_at
returns-then-steps_at c t cols pairs =
    let s = c.args.board.now in
    sym (quiet_all t s cols pairs ∙ c.loop-i.invariant.1 t ∙ rest-no t s c.loop-i.i (omega arith)
    (sym c.steps_at.ensures ∙ c.if-steps_at.true))

pub loop-i-preserved : goal.loop-i-preserved
loop-i-preserved c =
    let s = c.args.board.now in (
      omega arith,
      λ t. c.loop-i.invariant.1 t ∙ rest-next t s c.loop-i.i (omega arith) (sym c.steps_at.ensures ∙ c.if-steps_at.false),
    )

pub returns : goal.returns
returns c t cols pairs =
    let s = c.args.board.now in
    sym (quiet_all t s cols pairs ∙ c.loop-i.invariant.1 t ∙ rest-none t s c.loop-i.i (omega arith))
