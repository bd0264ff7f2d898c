-- An add's move is the call: one message more.
use Rattle.std.proofs.Common.{◌≡◌, ℕ, ◌<◌, List, get_or, Some, refl, ◌∙◌, arith, add-one, length-set, drop-set-lt}
use Rattle.model.specs.Boards.{Message, no_message}
use Rattle.model.specs.Effects.{Item}
use Rattle.model.specs.Layout.{table_of}
use Rattle.model.specs.Adds.{new_sender}
use Rattle.model.specs.Pools.{adds}
use Rattle.columns.specs.Columns.{Columns}
use Rattle.columns.proofs.Messages.{length-messages}
use Rattle.state.specs.declared.Sender as DD
use Rattle.state.specs.declared.Said.TheVariants as W
use Rattle.state.specs.declared.Change.TheVariants as G
use Rattle.state.specs.Views.{sender_in}
use Rattle.boards.specs.declared.Sent as DS
use Rattle.boards.specs.Calls.{Held, sent_in}
use Rattle.adds.proofs.RefusalLaws.{refusal_is}
use Rattle.adds.proofs.MessageLaws.{Room, close-kept}
use Rattle.adds.proofs.AddLaws.{added_is}
use Rattle.refusals.specs.Judged.{Lengths}
use Rattle.refusals.specs.Calls.{refusal_of, Beyond, Plays}
use Rattle.refusals.proofs.Refusals.{lent-whole, statuses-known}
use Rattle.refusals.proofs.CallLaws.{status-added, plays-it}
use Rattle.writes.specs.declared.Move as DM
use Rattle.writes.specs.Moves.{moved_held}
use Rattle.writes.proofs.Parts.{part_writes}
use Rattle.moves.specs.Refused.{call_refusal}
use Rattle.moves.proofs.AfterLaws.{others-after}

-- message x is added as number n, by a sender that is d from then on
abbrev pub addition : ℕ → DS.Sent → DD.Sender → DM.Move
addition n x d = record { said = W.Item n; sender = d; added = Some x; change = G.None }

module _ (s : List ℕ) (h : Held) (z : refusal_of s h ≡ 0) (i : ℕ) (x : DS.Sent) (d : DD.Sender)
    (few : h.board.messages < 1024) where
  abbrev n : ℕ
  n = h.board.messages

  abbrev o : Columns
  o = h.columns

  abbrev h' : Held
  h' = moved_held h i (addition n x d)

  lent : Lengths o h.matches
  lent = lent-whole s _ _ _ z

  lengths : Lengths h'.columns h'.matches
  lengths = record {
    channels-len = simp length-set lent.channels-len;
    keys-len = simp length-set lent.keys-len;
    cents-len = simp length-set lent.cents-len;
    statuses_len = simp length-set lent.statuses_len;
    matched_len = simp length-set lent.matched_len;
    wakers_len = simp length-set lent.wakers_len;
    units_len = simp length-set lent.units_len;
    chords-len = lent.chords-len;
    messages_len = lent.messages_len;
  }

  beyond : Beyond h h'
  beyond = record {
    messages_grow = omega arith;
    matches_grow = omega arith;
    channels = grind (arith, drop-set-lt);
    properties = grind (arith, part_writes, drop-set-lt);
    days = grind (arith, part_writes, drop-set-lt);
    cents = grind (arith, drop-set-lt);
    statuses = grind (arith, drop-set-lt);
    matched = grind (arith, drop-set-lt);
    wakers = grind (arith, drop-set-lt);
    units = grind (arith, drop-set-lt);
    chords = refl;
    messages = refl;
    recorded = refl;
    stays_closed = λ e. e;
    close_day = λ _. close-kept o.keys n x.property x.day few;
  }

  room : Room o n
  room = record {
    few = few;
    channels = omega (arith, few, lent.channels-len);
    keys = omega (arith, few, lent.keys-len);
    cents = omega (arith, few, lent.cents-len);
    statuses = omega (arith, few, lent.statuses_len);
    matched = omega (arith, few, lent.matched_len);
    wakers = omega (arith, few, lent.wakers_len);
    units = omega (arith, few, lent.units_len);
  }

  pub add-plays : call_refusal (table_of s) h.board o.keys (adds i (sent_in x)) ≡ 0
      → ((ms : List Message) → (get_or ms n no_message).sent.channel ≡ x.channel
      → sender_in (table_of s) d ≡ new_sender (table_of s) ms n)
      → Plays s h (adds i (sent_in x)) (Item n) h'
  add-plays e f =
      let r = refusal_is (table_of s) h.board o h.matches i (sent_in x) ∙ e in
      let a = added_is (table_of s) h.board i (sent_in x) d o h.matches room _ _ _ _ _ _ _ f
      refl refl refl refl refl refl refl in
      plays-it s h (adds i (sent_in x)) z (Item n) h' (rw (r, length-messages o 0 n)) refl (rw r a)
      lengths (rw (add-one n) (status-added n o.statuses 0 (statuses-known s _ _ _ z) (omega arith)))
      beyond (others-after G.None h.board.senders i d) (λ v. absurd (omega (arith, v)))
