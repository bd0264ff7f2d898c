-- A close that is written is the call: nothing but the close day alters.
use Rattle.std.proofs.Common.{◌≡◌, ℕ, ◌<◌, List, refl, ◌∙◌, true≢false, arith, length-set, get_or-set_same}
use Rattle.std.proofs.Common.{get_or-set_other}
use Rattle.model.specs.Effects.{Closed}
use Rattle.model.specs.Layout.{table_of}
use Rattle.model.specs.Closes.{close_refusal, closed_to}
use Rattle.model.specs.Pools.{closes}
use Rattle.columns.specs.Columns.{message_in}
use Rattle.columns.proofs.ListFrom.{same_from}
use Rattle.boards.specs.Calls.{Held}
use Rattle.boards.specs.Layout.{close_day_at}
use Rattle.closes.specs.Closed.{closed_held}
use Rattle.refusals.specs.Judged.{Lengths}
use Rattle.refusals.specs.Calls.{board_of, refusal_of, Beyond, row_at, Plays}
use Rattle.refusals.proofs.Refusals.{lent-whole, statuses-known, messages_few}
use Rattle.refusals.proofs.CallLaws.{row_same, plays-it}
use Rattle.writes.proofs.Parts.{part_writes}
use Rattle.moves.specs.Refused.{call_refusal}

module _ (s : List ℕ) (h : Held) (day : ℕ) (z : refusal_of s h ≡ 0) where
  abbrev h' : Held
  h' = closed_held h day

  whole : Lengths h.columns h.matches
  whole = lent-whole s _ _ _ z

  message-same : (n : ℕ) → n < 1024 → message_in h'.columns n ≡ message_in h.columns n
  unfolding message_in
  message-same n l = grind (arith, get_or-set_other)

  board-is : board_of s h' ≡ closed_to (board_of s h) day
  board-is =
      rw (
        same_from (message_in h.columns) (message_in h'.columns) 0 h.board.messages
            (λ j l. message-same j (omega (arith, l, messages_few s _ _ _ z))),
        get_or-set_same h.columns.keys close_day_at day 0 (omega (arith, whole.keys-len)),
      )

  lengths : Lengths h'.columns h'.matches
  lengths = record {
    channels-len = whole.channels-len;
    keys-len = simp length-set whole.keys-len;
    cents-len = whole.cents-len;
    statuses_len = whole.statuses_len;
    matched_len = whole.matched_len;
    wakers_len = whole.wakers_len;
    units_len = whole.units_len;
    chords-len = whole.chords-len;
    messages_len = whole.messages_len;
  }

  beyond : Beyond h h'
  beyond = record {
    messages_grow = omega arith;
    matches_grow = omega arith;
    channels = refl;
    properties = grind (arith, part_writes);
    days = grind (arith, part_writes);
    cents = refl;
    statuses = refl;
    matched = refl;
    wakers = refl;
    units = refl;
    chords = refl;
    messages = refl;
    recorded = refl;
    stays_closed = λ _. refl;
    close_day = λ e. absurd (true≢false e);
  }

  pub close-plays : call_refusal (table_of s) h.board h.columns.keys (closes day) ≡ 0
      → Plays s h (closes day) Closed h'
  unfolding close_refusal
  close-plays e =
      plays-it s h (closes day) z Closed h' (rw e) refl (board-is ∙ rw e) lengths (statuses-known s _ _ _ z) beyond
      (λ j _. row_same (row_at h j)) (λ x. absurd (omega (arith, x)))
