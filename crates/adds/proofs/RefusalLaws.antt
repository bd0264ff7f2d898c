-- The refusals of an add, by what the code reads of the board.
use mathlib.Core.Path.{◌≡◌}
use Prim.Native.Nat.{ℕ}
use lib.Dec.{leb}
use lib.ListN.{get_or, get_or-map}
use Rattle.model.specs.Tables.{Table}
use Rattle.model.specs.Boards.{Sent}
use Rattle.model.specs.Shares.{has_room}
use Rattle.model.specs.Adds.{add_refusal}
use Rattle.columns.specs.Columns.{Columns}
use Rattle.columns.specs.MatchColumns.{MatchColumns}
use Rattle.state.specs.Views.{sender_in, idle_is}
use Rattle.state.proofs.StateLaws.{idle-is}
use Rattle.boards.specs.Boards.{HeldBoard, board_in, closed_in, zero_sender}
use Rattle.adds.specs.Refusals.{refusal_by}

pub refusal_is : (t : Table) (b : HeldBoard) (c : Columns) (m : MatchColumns) (i : ℕ) (x : Sent)
    → add_refusal t (board_in t b c m) i x
    ≡ refusal_by t i (idle_is (get_or b.senders i zero_sender).state) (leb (closed_in b c.keys) x.day)
    x.channel x.cents (has_room b.tallies i)
unfolding add_refusal
refusal_is t b c m i x =
    let d = get_or b.senders i zero_sender in
    rw (get_or-map (sender_in t) b.senders i zero_sender, idle-is d.state _)
