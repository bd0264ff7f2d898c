-- The empty board with a backoff table (rules 1.10 and 9.10), and an idle sender of it; its job is not read.
use Rattle.std.specs.Prelude.{false, List, ℕ, replicate}
use Rattle.state.specs.declared.Phase.TheVariants as P
use Rattle.state.specs.declared.State.TheVariants as S
use Rattle.state.specs.declared.Sender as DD
use Rattle.boards.specs.Boards.{HeldBoard}

abbrev pub fresh_sender : DD.Sender
fresh_sender = record {
  state = S.Idle;
  signalled = false;
  own = 0;
  waker = 0;
  reply = 0;
  matched = 0;
  job = record { subject = 0; chord = 0; phase = P.PassEnd; chosen = replicate 8 0; retry = false; retries = 0 };
}

abbrev pub fresh_board : List ℕ → HeldBoard
fresh_board rests = record {
  messages = 0;
  matches = 0;
  senders = replicate 32 fresh_sender;
  closed = false;
  tallies = replicate 32 0;
  backoffs = rests;
}
