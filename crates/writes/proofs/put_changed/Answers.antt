-- `writes::put_changed` meets its contract: the sender is written, then the count or the signal.
use Rattle.std.proofs.Common.{◌+◌, ap, ◌∙◌, inl, inr}
use Rattle.boards.specs.Boards.{HeldBoard}
use Rattle.rows.specs.Decoded.{board_from}
use Rattle.writes.proofs.Places.{sender-paste, matches-set}
use Rattle.writes.proofs.put_changed.Goals as goal

pub put_signal-requires : goal.put_signal-requires
put_signal-requires c =
    let s = sender-paste _ c.requires.0 _ c.requires.1 _ _ _ c.from.ensures c.put_sender.ensures in
    (s.0, rw c.in-Signal.is at c.requires.2)

pub returns-in-None : goal.returns-in-None
returns-in-None c =
    let s = sender-paste _ c.requires.0 _ c.requires.1 _ _ _ c.from.ensures c.put_sender.ensures in
    elim c.in-None.is [ inl e ↦ rw e s | inr w ↦ rw w.2 s ]

pub returns-in-Record : goal.returns-in-Record
unfolding board_from
returns-in-Record c =
    let s = sender-paste _ c.requires.0 _ c.requires.1 _ _ _ c.from.ensures c.put_sender.ensures in
    let m = matches-set _ s.0 _ in
    rw c.in-Record.is (m.0, m.1 ∙ ap (λ (b : HeldBoard). record b { matches = b.matches + 1 }) s.1)

pub returns-in-Signal : goal.returns-in-Signal
returns-in-Signal c =
    let s = sender-paste _ c.requires.0 _ c.requires.1 _ _ _ c.from.ensures c.put_sender.ensures in
    let e = c.put_signal.ensures in
    rw c.in-Signal.is (e.0, e.1 ∙ rw s.1)
