-- What is held after a close (rule 9.8).
use Rattle.std.specs.Prelude.{true, ℕ, set}
use Rattle.columns.specs.Columns.{columns_of}
use Rattle.boards.specs.Boards.{HeldBoard}
use Rattle.boards.specs.Calls.{Held, held}
use Rattle.boards.specs.Layout.{close_day_at}

-- a day is closed
abbrev pub closed_board : HeldBoard → HeldBoard
closed_board b = record b { closed = true }

-- what is held once the days up to this one are closed
abbrev pub closed_held : Held → ℕ → Held
closed_held h day =
    let c = h.columns in
    held (closed_board h.board)
    (columns_of c.channels (set c.keys close_day_at day) c.cents c.statuses c.matched c.wakers
    c.units)
    h.matches
