-- `rows::put_sender` meets its contract: the fields in their order, then the chosen messages; each fits by its type.
use Rattle.std.proofs.Common.{rules, arith, ◌∙◌}
use Rattle.rows.specs.Numbers.{sender_numbers}
use Rattle.rows.proofs.SenderLaws.{numbers-listed}
use Rattle.rows.proofs.StoreLaws.{both_pasted}
use Rattle.rows.proofs.put_sender.Goals as goal

pub returns : goal.returns
returns c =
    let a = c.args in (
      c.put_chosen.ensures
          ∙ both_pasted a.s.now c.copy_from_slice.new.self a.d.job.chosen (sender_numbers a.d) a.at 13 8 (omega arith)
          (search rules) (search rules) (rw (c.copy_from_slice.ensures.after, numbers-listed a.d) (search rules)),
      search rules,
    )
