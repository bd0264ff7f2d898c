-- `refusals::state_ok` meets its contract: only a working sender is left, and its job is that of the decoded one.
use Rattle.std.proofs.Common.{◌≡◌, get_or, ◌∙◌, arith}
use Rattle.model.specs.Layout.{table_of}
use Rattle.rows.proofs.SenderLaws.{sender-fits}
use Rattle.rows.proofs.Encoded.{read-back}
use Rattle.refusals.proofs.RowLaws.{working-by}
use Rattle.refusals.proofs.state_ok.Goals as goal

pub returns-in_default-2 : goal.returns-in_default-2
returns-in_default-2 c b sees =
    let a = c.args.a.now in
    let f = (sender-fits a c.requires.a_encodes.1).state in
    let one : get_or a 0 0 ≡ 1 = omega arith in
    c.job_ok.ensures b sees
    ∙ working-by (table_of c.args.table.now) b a (read-back c.sender_of.ensures.0) (λ z. omega arith) one
