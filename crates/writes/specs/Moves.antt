-- A move: what a call that is not refused does to the board (rule 6.8).
use Rattle.std.specs.Prelude.{Bool, true, false, Option, Some, None, IfSome, List, ℕ, ◌+◌, ◌<◌, ◌≤◌, set}
use Rattle.model.specs.Shares.{tally}
use Rattle.columns.specs.Columns.{Columns, columns_of, days_at}
use Rattle.state.specs.declared.Change as DG
use Rattle.state.specs.declared.Change.TheVariants as G
use Rattle.boards.specs.Boards.{HeldBoard}
use Rattle.boards.specs.Calls.{Held, held}
use Rattle.boards.specs.declared.Sent as DS
use Rattle.writes.specs.Writes.{Sure, changed_board}
use Rattle.writes.specs.Written.{columns_after, matches_with}
use Rattle.writes.specs.declared.Move as DM

-- a column with a at place n, where a message is added
abbrev pub put_if : {A : Type 0} → Bool → List A → ℕ → A → List A
put_if true xs n a = set xs n a
put_if false xs n a = xs

abbrev pub messages_by : Option DS.Sent → ℕ → ℕ
messages_by (Some x) n = n + 1
messages_by None n = n

-- the columns, where a message is added with it as number n: pending, of no match and with no waker
abbrev pub columns_with : Option DS.Sent → ℕ → Columns → Columns
columns_with (Some x) n c =
    columns_of (set c.channels n x.channel) (set (set c.keys n x.property) (days_at + n) x.day)
    (set c.cents n x.cents) (set c.statuses n 0) (set c.matched n 0) (set c.wakers n 0) (set c.units n x.unit)
columns_with None n c = c

-- the message that a change turns; start where it turns none
abbrev pub turned_from : DG.Change → ℕ → ℕ
turned_from (G.Turn n u) start = n
turned_from (G.Record n) start = n
turned_from _ start = start

abbrev pub tallies_by : Option DS.Sent → List ℕ → ℕ → List ℕ
tallies_by (Some x) ts i = set ts i (tally ts i + 1)
tallies_by None ts i = ts

-- the board with one message more, which its sender at place i has added, where a message is added
abbrev pub added_board : HeldBoard → ℕ → Option DS.Sent → HeldBoard
added_board b i a = record b { messages = messages_by a b.messages; tallies = tallies_by a b.tallies i }

-- what is held after a move of the sender at place i
abbrev pub moved_held : Held → ℕ → DM.Move → Held
moved_held h i m =
    held (changed_board (added_board h.board i m.added) i m.sender m.change)
    (columns_after m.change (columns_with m.added h.board.messages h.columns))
    (matches_with m.change h.board.matches m.sender.job h.matches)

-- the numbers of a move are in range, on a board of n messages and k matches
pub record Fits (n k : ℕ) (m : DM.Move) : Type 0 where
  pub room : IfSome m.added (λ x. (n < 1024) × (x.channel ≤ 255))
  pub sure : Sure n k m.change
