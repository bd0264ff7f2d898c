-- What a step's effect (rule 6.8) writes: to a message's columns, to the match columns, to the senders.
use Rattle.std.specs.Prelude.{◌&&◌, ◌||◌, not, List, map, ℕ, ◌+◌, ◌*◌, ◌<◌, ◌≤◌, eqb, get_or, set}
use Rattle.std.proofs.Math.Seq.{paste}
use Rattle.model.specs.Tables.{Table, size}
use Rattle.state.specs.declared.Turn as DU
use Rattle.state.specs.declared.Turn.TheVariants as U
use Rattle.state.specs.declared.Change as DG
use Rattle.state.specs.declared.Change.TheVariants as G
use Rattle.state.specs.declared.Sender as DD
use Rattle.state.specs.declared.Effect as DE
use Rattle.state.specs.Views.{idle_is}
use Rattle.boards.specs.Boards.{HeldBoard, with_senders}

-- eight numbers hold a match of any chord
abbrev pub ChordsFit : Table → Type 0
ChordsFit t = (r : ℕ) → size t r ≤ 8

-- the bytes that a turn writes: the status, the match plus 1, the waker plus 1
abbrev pub status_by : DU.Turn → ℕ
status_by U.Claims = 1
status_by (U.WakesBy h) = 2
status_by (U.Consumes m) = 3
status_by _ = 0

abbrev pub match_by : DU.Turn → ℕ → ℕ
match_by (U.Consumes k) m = k
match_by _ m = m

abbrev pub waker_by : DU.Turn → ℕ → ℕ
waker_by (U.WakesBy h) w = h + 1
waker_by _ w = w

-- the message columns after a change, byte for byte: nothing else is written to them
abbrev pub statuses_by : DG.Change → List ℕ → List ℕ
statuses_by (G.Turn n u) s = set s n (status_by u)
statuses_by (G.Record n) s = set s n 1
statuses_by _ s = s

abbrev pub matched_by : DG.Change → List ℕ → List ℕ
matched_by (G.Turn n u) s = set s n (match_by u (get_or s n 0))
matched_by (G.Record n) s = set s n (get_or s n 0)
matched_by _ s = s

abbrev pub wakers_by : DG.Change → List ℕ → List ℕ
wakers_by (G.Turn n u) s = set s n (waker_by u (get_or s n 0))
wakers_by (G.Record n) s = set s n (get_or s n 0)
wakers_by _ s = s

-- the match columns after a change, and how many matches there are: match k is written, with its chord and messages
abbrev pub chords_by : DG.Change → ℕ → ℕ → List ℕ → List ℕ
chords_by (G.Record n) k chord s = set s k chord
chords_by _ k chord s = s

abbrev pub match_messages_by : DG.Change → ℕ → List ℕ → List ℕ → List ℕ
match_messages_by (G.Record n) k chosen s = paste s (8 * k) chosen 8
match_messages_by _ k chosen s = s

abbrev pub matches_by : DG.Change → ℕ → ℕ
matches_by (G.Record n) k = k + 1
matches_by _ k = k

-- a waker is a message
abbrev pub WakerFits : DU.Turn → Type 0
WakerFits (U.WakesBy h) = h < 1024
WakerFits _ = Unit {0}

-- the numbers of a change are in range, on a board of so many messages and matches
abbrev pub Sure : ℕ → ℕ → DG.Change → Type 0
Sure messages matches G.None = Unit {0}
Sure messages matches (G.Turn n u) = (n < messages) × WakerFits u
Sure messages matches (G.Record n) = (n < messages) × (matches < 1024)
Sure messages matches (G.Signal n) = n < 1024

-- rule 4.8: the sender with its signal set, if it is not idle and message n is its own
abbrev pub signalled_by : ℕ → DD.Sender → DD.Sender
signalled_by n d = record d { signalled = d.signalled || (not (idle_is d.state) && eqb d.own (n + 1)) }

-- every sender signalled, where message n is its own
abbrev pub signalled_board : ℕ → HeldBoard → HeldBoard
signalled_board n b = record b { senders = map (signalled_by n) b.senders }

-- the senders after a change
abbrev pub senders_by : DG.Change → List DD.Sender → List DD.Sender
senders_by (G.Signal n) ds = map (signalled_by n) ds
senders_by _ ds = ds

-- the board whose sender i is d after a change
abbrev pub changed_board : HeldBoard → ℕ → DD.Sender → DG.Change → HeldBoard
changed_board b i d g =
    with_senders b b.messages (matches_by g b.matches) (senders_by g (set b.senders i d))

-- the board after an effect of sender i
abbrev pub effect_board : HeldBoard → ℕ → DE.Effect → HeldBoard
effect_board b i e = changed_board b i e.sender e.change
