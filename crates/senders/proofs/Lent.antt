-- A board of lent columns is seen by its counts and its column of channels, and sound messages have known channels.
use mathlib.Core.Path.{◌≡◌}
use mathlib.Core.Bool.{true}
use Prim.Native.Nat.{ℕ, ◌<◌, ◌≤◌}
use borrow.Author.Tests.{ltb-true}
use lib.Dec.{ltb}
use lib.ListN.{length, get_or}
use Rattle.model.specs.Basics.{every}
use Rattle.model.specs.Tables.{Table}
use Rattle.model.specs.Boards.{Board, Message, no_message}
use Rattle.model.specs.Sound.{message_ok}
use Rattle.model.proofs.Tests.{both}
use Rattle.model.proofs.Lists.{every-nth}
use Rattle.columns.specs.Columns.{Columns, messages_from}
use Rattle.columns.proofs.Messages.{length-messages, nth-channel}
use Rattle.senders.specs.Seen.{Known}

module _ (t : Table) (b : Board) where
  channel-in : (x : Message) → message_ok t b x ≡ true → x.sent.channel < length t.kinds
  unfolding message_ok
  channel-in x e = ltb-true _ _ (both {t = ltb x.sent.channel (length t.kinds)} e).0

  pub known_by : (c : Columns) (n : ℕ) → n ≤ length c.channels
      → every (message_ok t b) (messages_from c 0 n) ≡ true → Known t n c.channels
  known_by c n l e = record {
    all = l;
    known = λ i h.
        let m = channel-in (get_or (messages_from c 0 n) i no_message)
        (every-nth (message_ok t b) (messages_from c 0 n) no_message e i (rw (length-messages c 0 n) h)) in
        rw (← nth-channel c n i h) m;
  }
