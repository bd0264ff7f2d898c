-- `calls::open` meets its contract: an opening with the built-in table.
use Rattle.calls.proofs.open.Goals as goal

pub returns : goal.returns
returns c =
    rw (← c.builtin-rests.ensures) c.open_with_rests.ensures
