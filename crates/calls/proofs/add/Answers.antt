-- `calls::add` meets its contract: the call of its row.
use mir.ValLaws.{to_z-of_z}
use mir.Syntax.{w64}
use Rattle.plays.specs.Replays.{sender_call}
use Rattle.calls.proofs.add.Goals as goal

pub returns : goal.returns
unfolding sender_call
returns c =
    let back = to_z-of_z w64 c.args.x.cents (record { sfits = c.struct_told-1.given.1.1.0.1 }) in
    rw back at c.one_call.ensures
