-- `rows::sender_of` meets its contract: it is the sender that the numbers decode to.
use Rattle.std.proofs.Common.{drop, length-drop, arith}
use Rattle.std.proofs.Math.Seq.{take_all}
use Rattle.rows.proofs.SenderLaws.{sender-from-back}
use Rattle.rows.proofs.sender_of.Goals as goal

pub returns : goal.returns
returns c =
    let a = c.args.a.now in
    rw (
      c.state_of.ensures,
      c.phase_of.ensures,
      c.copy_from_slice.ensures.after,
      take_all 8 (drop 13 a) (omega (arith, length-drop 13 a)),
    )
    (sender-from-back a c.requires.0 c.requires.1)
