-- The board as 723 plain numbers (rules 1.11, 9.8, 9.9 and 9.10): how many messages and matches there are, then 21
-- numbers for each of 32 senders, then whether a day is closed, how many messages each sender has added, and the
-- backoff table.
use Rattle.std.specs.Prelude.{Bool, true, ◌&&◌, ◌||◌, not, List, [], ◌∷◌, ◌++◌, ℕ, zero, suc, eqb, leb, length, get_or}
use Rattle.std.specs.Prelude.{drop, take}
use Rattle.model.specs.Basics.{all_of, flag}
use Rattle.state.specs.declared.Phase as DP
use Rattle.state.specs.declared.Phase.TheVariants as P
use Rattle.state.specs.declared.State as DS
use Rattle.state.specs.declared.State.TheVariants as S
use Rattle.state.specs.declared.Sender as DD
use Rattle.boards.specs.Boards.{HeldBoard}
use Rattle.boards.specs.Layout.{board_len, closed_at}

abbrev pub state_number : DS.State → ℕ
state_number S.Idle = 0
state_number S.Working = 1
state_number S.Blocked = 2

-- which phase, its place, and its second number; 0 for what it has not
abbrev pub phase_numbers : DP.Phase → List ℕ
phase_numbers (P.Look k) = 0 ∷ k ∷ 0 ∷ []
phase_numbers (P.Claim k) = 1 ∷ k ∷ 0 ∷ []
phase_numbers (P.Revert k claims) = 2 ∷ k ∷ claims ∷ []
phase_numbers (P.Consume k match) = 3 ∷ k ∷ match ∷ []
phase_numbers (P.Tell k) = 4 ∷ k ∷ 0 ∷ []
phase_numbers P.Wake = 5 ∷ 0 ∷ 0 ∷ []
phase_numbers (P.Free k) = 6 ∷ k ∷ 0 ∷ []
phase_numbers P.Signal = 7 ∷ 0 ∷ 0 ∷ []
phase_numbers P.PassEnd = 8 ∷ 0 ∷ 0 ∷ []
phase_numbers (P.Backoff k) = 9 ∷ k ∷ 0 ∷ []

module _ (p : DP.Phase) where
  abbrev pub kind : ℕ
  kind = get_or (phase_numbers p) 0 0

  abbrev pub place : ℕ
  place = get_or (phase_numbers p) 1 0

  abbrev pub second : ℕ
  second = get_or (phase_numbers p) 2 0

-- 0 state, 1 signalled, 2 own, 3 waker, 4 reply, 5 matched, 6 subject, 7 chord, 8 to 10 the phase, 11 retry,
-- 12 retries, 13 to 20 the chosen messages
unfoldable pub sender_numbers : DD.Sender → List ℕ
sender_numbers d =
    state_number d.state ∷ flag d.signalled ∷ d.own ∷ d.waker ∷ d.reply ∷ d.matched ∷ d.job.subject ∷
    d.job.chord ∷ (phase_numbers d.job.phase ++ (flag d.job.retry ∷ d.job.retries ∷ d.job.chosen))

unfoldable pub senders_numbers : List DD.Sender → List ℕ
senders_numbers [] = []
senders_numbers (d ∷ ds) = sender_numbers d ++ senders_numbers ds

-- the numbers behind the senders: the flag of a closed day, the tallies, the backoff table
abbrev pub end_numbers : HeldBoard → List ℕ
end_numbers b = flag b.closed ∷ (b.tallies ++ b.backoffs)

-- 0 messages, 1 matches, then the senders, and those behind them
unfoldable pub board_numbers : HeldBoard → List ℕ
board_numbers b = b.messages ∷ b.matches ∷ (senders_numbers b.senders ++ end_numbers b)

-- wake, signal and pass end have no place
abbrev pub placeless : ℕ → Bool
placeless phase = eqb phase 5 || (eqb phase 7 || eqb phase 8)

-- rule 6.2: numbers of a phase; a second number that is not 0 is a consume's, or a revert's, which fits a byte
unfoldable pub encodes_phase : ℕ → ℕ → ℕ → Bool
encodes_phase phase place second =
    all_of
    (leb phase 9 ∷ leb place 255 ∷ (not (placeless phase) || eqb place 0) ∷
    (eqb phase 3 || (eqb second 0 || (eqb phase 2 && leb second 255))) ∷ [])

-- rule 6.2: 21 numbers are those of a sender
unfoldable pub encodes_sender : List ℕ → Bool
encodes_sender a =
    all_of
    (leb (get_or a 0 0) 2 ∷ leb (get_or a 1 0) 1 ∷ leb (get_or a 7 0) 255 ∷
    encodes_phase (get_or a 8 0) (get_or a 9 0) (get_or a 10 0) ∷ leb (get_or a 11 0) 1 ∷ leb (get_or a 12 0) 255 ∷ [])

-- n senders, one after another
unfoldable pub encodes_senders : ℕ → List ℕ → Bool
encodes_senders zero s = true
encodes_senders (suc n) s = encodes_sender (take 21 s) && encodes_senders n (drop 21 s)

-- rule 6.2: numbers, each below 65,536, that are those of a board
unfoldable pub encodes : List ℕ → Bool
encodes s = all_of (eqb (length s) board_len ∷ encodes_senders 32 (drop 2 s) ∷ leb (get_or s closed_at 0) 1 ∷ [])
