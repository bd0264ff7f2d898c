-- What is held of a board beside its columns, and with them the model's board.
use Rattle.std.specs.Prelude.{Bool, false, List, [], map, ℕ, suc, get_or}
use Rattle.model.specs.Basics.{pick}
use Rattle.model.specs.Tables.{Table}
use Rattle.model.specs.Boards.{Board}
use Rattle.columns.specs.Columns.{Columns, messages_from}
use Rattle.columns.specs.MatchColumns.{MatchColumns, matches_from}
use Rattle.state.specs.declared.Phase.TheVariants as P
use Rattle.state.specs.declared.State.TheVariants as S
use Rattle.state.specs.declared.Sender as DD
use Rattle.state.specs.Views.{sender_in}
use Rattle.boards.specs.Layout.{close_day_at}

-- the board without its columns: how many messages and matches there are, the senders, whether a day is closed, how
-- many messages each sender has added, and the backoff table
pub record HeldBoard : Type 0 where
  pub messages : ℕ
  pub matches : ℕ
  pub senders : List DD.Sender
  pub closed : Bool
  pub tallies : List ℕ
  pub backoffs : List ℕ

-- the same with other counts and senders
abbrev pub with_senders : HeldBoard → ℕ → ℕ → List DD.Sender → HeldBoard
with_senders b n k ds = record {
  messages = n;
  matches = k;
  senders = ds;
  closed = b.closed;
  tallies = b.tallies;
  backoffs = b.backoffs;
}

-- rule 9.8: the close day plus 1; 0 where no day is closed
abbrev pub closed_by : Bool → ℕ → ℕ
closed_by closed day = pick closed (suc day) 0

-- the close day is the number behind the days
abbrev pub closed_in : HeldBoard → List ℕ → ℕ
closed_in b keys = closed_by b.closed (get_or keys close_day_at 0)

-- rule 1.11: the board of these counts, senders and columns
abbrev pub board_in : Table → HeldBoard → Columns → MatchColumns → Board
board_in t b c m = record {
  messages = messages_from c 0 b.messages;
  matches = matches_from t m 0 b.matches;
  senders = map (sender_in t) b.senders;
  backoffs = b.backoffs;
  closed = closed_in b c.keys;
  tallies = b.tallies;
}

-- what the code reads past the last sender
abbrev pub zero_sender : DD.Sender
zero_sender = record {
  state = S.Idle;
  signalled = false;
  own = 0;
  waker = 0;
  reply = 0;
  matched = 0;
  job = record { subject = 0; chord = 0; phase = P.Look 0; chosen = []; retry = false; retries = 0 };
}
