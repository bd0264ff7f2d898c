-- The message and its sender, written, are the model's board after an add.
use mathlib.Core.Path.{◌≡◌}
use mathlib.Core.List.{List, [], ◌∷◌, ◌++◌}
use Prim.Native.Nat.{ℕ, ◌+◌}
use native.Mathlib.Numerals.{add-one}
use native.Mathlib.Omega.{arith}
use lib.IntN.{ℤ}
use lib.ListN.{get_or, set}
use Rattle.std.proofs.lemmas.Grind.{common_steps}
use Rattle.model.specs.Tables.{Table}
use Rattle.model.specs.Boards.{Message, Sent, no_message}
use Rattle.model.specs.Shares.{tally}
use Rattle.model.specs.Adds.{new_message, new_sender, added}
use Rattle.columns.specs.Columns.{Columns, messages_from, columns_of}
use Rattle.columns.specs.MatchColumns.{MatchColumns}
use Rattle.columns.proofs.Messages.{length-messages}
use Rattle.state.specs.declared.Sender as DD
use Rattle.state.specs.Views.{sender_in}
use Rattle.boards.specs.Boards.{HeldBoard, board_in}
use Rattle.boards.proofs.SenderLaws.{set-sender}
use Rattle.adds.proofs.MessageLaws.{Room, keyed, close-kept, message-added}

-- the board with sender i and one message more, which it has added
abbrev pub with_message : HeldBoard → ℕ → DD.Sender → HeldBoard
with_message b i d = record b {
  messages = b.messages + 1;
  senders = set b.senders i d;
  tallies = set b.tallies i (tally b.tallies i + 1);
}

module _ (t : Table) (b : HeldBoard) (i : ℕ) (x : Sent) (d : DD.Sender) (c : Columns) (m : MatchColumns)
    (room : Room c b.messages) where
  abbrev n : ℕ
  n = b.messages

  abbrev is : List Message
  is = messages_from c 0 n ++ (new_message x ∷ [])

  -- the new message is message n
  channel_is : (get_or is n no_message).sent.channel ≡ x.channel
  channel_is = grind (arith, common_steps, length-messages)

  pub added_is : (ch ks : List ℕ) (ce : List ℤ) (st ma wa us : List ℕ)
      → ((ms : List Message) → (get_or ms n no_message).sent.channel ≡ x.channel → sender_in t d ≡ new_sender t ms n)
      → ch ≡ set c.channels n x.channel → ks ≡ keyed c.keys n x.property x.day
      → ce ≡ set c.cents n x.cents → st ≡ set c.statuses n 0 → ma ≡ set c.matched n 0
      → wa ≡ set c.wakers n 0 → us ≡ set c.units n x.unit
      → board_in t (with_message b i d) (columns_of ch ks ce st ma wa us) m ≡ added t (board_in t b c m) i x
  unfolding added
  added_is ch ks ce st ma wa us f e1 e2 e3 e4 e5 e6 e7 = rw (
    e1,
    e2,
    e3,
    e4,
    e5,
    e6,
    e7,
    add-one n,
    message-added c n x room,
    close-kept c.keys n x.property x.day room.few,
    set-sender t b.senders i d,
    f is channel_is,
    length-messages c 0 n,
    add-one (tally b.tallies i),
  )
