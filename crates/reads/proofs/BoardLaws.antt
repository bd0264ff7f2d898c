-- What a board that was judged holds of its columns: a message, a match, and all that a read of the match takes for
-- granted.
use mathlib.Core.Path.{◌≡◌, ap, sym, subst⁻¹}
use mathlib.Core.Bool.{true}
use Prim.Native.Nat.{ℕ, ◌+◌, ◌*◌, ◌<◌, ◌≤◌}
use native.Mathlib.Omega.{arith}
use lib.IntN.{ℤ, pos}
use lib.ListN.{length, get_or}
use Rattle.model.specs.Tables.{Table}
use Rattle.model.specs.Boards.{Message, Match, no_match, message_at, match_at}
use Rattle.model.specs.Adds.{cents_ok}
use Rattle.model.proofs.SoundFacts.{SoundBoard, MatchFacts}
use Rattle.columns.specs.Columns.{Columns, message_in}
use Rattle.columns.specs.MatchColumns.{MatchColumns, match_in}
use Rattle.columns.proofs.ListFrom.{length_from, nth-from}
use Rattle.columns.proofs.Messages.{length-messages, nth-message}
use Rattle.boards.specs.Boards.{HeldBoard, board_in}
use Rattle.reads.specs.Reads.{Readable}

module _ (t : Table) (b : HeldBoard) (c : Columns) (m : MatchColumns) where
  pub message-at : (n : ℕ) → n < b.messages → message_in c n ≡ message_at (board_in t b c m) n
  message-at n h = sym (nth-message c b.messages n h)

  pub match-at : (k : ℕ) → k < b.matches → match_in t m k ≡ match_at (board_in t b c m) k
  match-at k h = sym (nth-from (match_in t m) no_match b.matches k h)

  pub cents-at : (n : ℕ) → n < b.messages → (message_at (board_in t b c m) n).sent.cents ≡ get_or c.cents n (pos 0)
  unfolding message_in
  cents-at n h = sym (ap (λ (x : Message). x.sent.cents) (message-at n h))

  pub readable : SoundBoard t (board_in t b c m) → (k : ℕ) → k < b.matches → k < length m.chords
      → 8 * k + 8 ≤ length m.messages → b.messages ≤ length c.cents → Readable t m k b.messages c.cents
  unfolding match_in
  readable s k h hc hm hs = record {
    held = record { chord-in = hc; numbers_in = hm; chord_known = f.chord-in };
    cents-in = hs;
    numbers-below = λ j l. rw (length-messages c 0 b.messages) at (f.messages_in j l);
    in-range = λ i l. subst⁻¹ (λ (z : ℤ). cents_ok z ≡ true) (sym (cents-at i l))
        (s.message-at i (simp length-messages (omega arith))).cents-in;
  }
    where
      f : MatchFacts t (board_in t b c m) (match_in t m k)
      f = subst⁻¹ (λ (x : Match). MatchFacts t (board_in t b c m) x) (match-at k h)
          (s.match-at k (rw (length_from (match_in t m) 0 b.matches) h))
