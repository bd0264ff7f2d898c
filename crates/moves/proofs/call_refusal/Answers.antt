-- `moves::call_refusal` meets its contract: an add is refused by what is read of its sender and the days.
use Rattle.std.proofs.Common.{◌∙◌}
use Rattle.rows.specs.Decoded.{board_from}
use Rattle.moves.proofs.call_refusal.Goals as goal

pub returns-in-Add-2 : goal.returns-in-Add-2
unfolding board_from
returns-in-Add-2 c =
    rw (← c.in-Add.call-is, c.in-Add-2.is)
    (c.add_refusal.ensures
    ∙ rw (c.is_idle-idle.ensures, c.day_open-timely.ensures, c.has_room-room.ensures, c.tallies.ensures.0))
