-- A close (rule 9.8): its refusal, and the board after an accepted one.
use Rattle.std.specs.Prelude.{ℕ, suc, leb}
use Rattle.model.specs.Basics.{unless}
use Rattle.model.specs.Boards.{Board}

-- rule 9.8: a day before the close day
unfoldable pub close_refusal : Board → ℕ → ℕ
close_refusal b day = unless (leb b.closed (suc day)) 20 0

-- rule 9.8: nothing but the close day alters
abbrev pub closed_to : Board → ℕ → Board
closed_to b day = record {
  messages = b.messages;
  matches = b.matches;
  senders = b.senders;
  backoffs = b.backoffs;
  closed = suc day;
  tallies = b.tallies;
}
