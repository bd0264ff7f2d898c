-- The board that numbers are (rule 1.11): the other way round.
use Rattle.std.specs.Prelude.{List, [], ◌∷◌, ℕ, zero, suc, eqb, get_or, drop, take}
use Rattle.model.specs.Basics.{pick}
use Rattle.state.specs.declared.Phase as DP
use Rattle.state.specs.declared.Phase.TheVariants as P
use Rattle.state.specs.declared.State as DS
use Rattle.state.specs.declared.State.TheVariants as S
use Rattle.state.specs.declared.Sender as DD
use Rattle.boards.specs.Boards.{HeldBoard}
use Rattle.boards.specs.Layout.{closed_at, tallies_in, backoffs_in}

abbrev pub state_from : ℕ → DS.State
state_from n = pick (eqb n 0) S.Idle (pick (eqb n 1) S.Working S.Blocked)

abbrev pub phase_from : ℕ → ℕ → ℕ → DP.Phase
phase_from n k s =
    pick (eqb n 0) (P.Look k) (pick (eqb n 1) (P.Claim k) (pick (eqb n 2) (P.Revert k s) (pick (eqb n 3) (P.Consume k s)
    (pick (eqb n 4) (P.Tell k) (pick (eqb n 5) P.Wake (pick (eqb n 6) (P.Free k) (pick (eqb n 7) P.Signal
    (pick (eqb n 8) P.PassEnd (P.Backoff k)))))))))

-- the sender of 21 numbers
abbrev pub sender_from : List ℕ → DD.Sender
sender_from a = record {
  state = state_from (get_or a 0 0);
  signalled = eqb (get_or a 1 0) 1;
  own = get_or a 2 0;
  waker = get_or a 3 0;
  reply = get_or a 4 0;
  matched = get_or a 5 0;
  job = record {
    subject = get_or a 6 0;
    chord = get_or a 7 0;
    phase = phase_from (get_or a 8 0) (get_or a 9 0) (get_or a 10 0);
    chosen = drop 13 a;
    retry = eqb (get_or a 11 0) 1;
    retries = get_or a 12 0;
  };
}

-- n senders, one after another
unfoldable pub senders_from : ℕ → List ℕ → List DD.Sender
senders_from zero s = []
senders_from (suc n) s = sender_from (take 21 s) ∷ senders_from n (drop 21 s)

unfoldable pub board_from : List ℕ → HeldBoard
board_from s = record {
  messages = get_or s 0 0;
  matches = get_or s 1 0;
  senders = senders_from 32 (drop 2 s);
  closed = eqb (get_or s closed_at 0) 1;
  tallies = tallies_in s;
  backoffs = backoffs_in s;
}
