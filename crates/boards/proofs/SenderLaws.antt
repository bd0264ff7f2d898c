-- One sender of a board.
use mathlib.Core.Path.{◌≡◌, sym}
use mathlib.Core.List.{List, map}
use Prim.Native.Nat.{ℕ}
use lib.ListN.{get_or, set, get_or-map}
use Rattle.std.proofs.lemmas.List.{map-set}
use Rattle.model.specs.Tables.{Table}
use Rattle.model.specs.Boards.{idle_sender}
use Rattle.state.specs.declared.Sender as DD
use Rattle.state.specs.Views.{sender_in}
use Rattle.boards.specs.Boards.{zero_sender}

pub nth-sender : (t : Table) (ds : List DD.Sender) (i : ℕ)
    → sender_in t (get_or ds i zero_sender) ≡ get_or (map (sender_in t) ds) i idle_sender
nth-sender t ds i = sym (get_or-map (sender_in t) ds i zero_sender)

pub set-sender : (t : Table) (ds : List DD.Sender) (i : ℕ) (d : DD.Sender)
    → map (sender_in t) (set ds i d) ≡ set (map (sender_in t) ds) i (sender_in t d)
set-sender t ds i d = map-set (sender_in t) ds i d
