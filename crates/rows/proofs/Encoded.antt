-- A board's numbers pass, and decode to it.
use Rattle.std.proofs.Common.{◌≡◌, true, List, [], ◌∷◌, ◌++◌, ℕ, ◌+◌, ◌*◌, leb, eq-eqb, length, take, drop}
use Rattle.std.proofs.Common.{length-append, append_assoc, refl, sym, ap, ◌∙◌, arith, rules, tests}
use Rattle.std.proofs.Math.Seq.{take_at, take_all, drop_at, get_or_at, drop-append-add}
use Rattle.model.specs.Basics.{flag}
use Rattle.model.proofs.Tests.{flag_small, flag-read}
use Rattle.state.specs.declared.State as DS
use Rattle.state.specs.declared.State.TheVariants as S
use Rattle.state.specs.declared.Sender as DD
use Rattle.boards.specs.Boards.{HeldBoard}
use Rattle.boards.specs.Layout.{board_len, closed_at, tallies_at, backoffs_at, tallies_in, backoffs_in}
use Rattle.boards.specs.Parts.{part}
use Rattle.rows.specs.Numbers.{state_number, sender_numbers, senders_numbers, end_numbers}
use Rattle.rows.specs.Numbers.{board_numbers, encodes_sender, encodes_senders, encodes}
use Rattle.rows.specs.Decoded.{state_from, sender_from, senders_from, board_from}
use Rattle.rows.specs.Fits.{SenderFits, SendersFit, BoardFits}
use Rattle.rows.proofs.PhaseLaws.{numbered}
use Rattle.rows.proofs.SenderLaws.{numbers-listed, sender-long}

state-passes : (s : DS.State) → leb (state_number s) 2 ≡ true
state-passes S.Idle = refl
state-passes S.Working = refl
state-passes S.Blocked = refl

sender-passes : (d : DD.Sender) → SenderFits d → encodes_sender (sender_numbers d) ≡ true
unfolding encodes_sender
sender-passes d f =
    rw (numbers-listed d) (search (rules, tests, state-passes, flag_small, (numbered d.job.phase).passes))

pub senders-long : (ds : List DD.Sender) → SendersFit ds → length (senders_numbers ds) ≡ 21 * length ds
unfolding senders_numbers
senders-long [] f = refl
senders-long (d ∷ ds) f =
    let a = length-append (sender_numbers d) (senders_numbers ds) in
    let b = sender-long d f.0 in
    let e = senders-long ds f.1 in
    omega (arith, a, b, e)

state-back : (s : DS.State) → state_from (state_number s) ≡ s
state-back S.Idle = refl
state-back S.Working = refl
state-back S.Blocked = refl

pub sender-back : (d : DD.Sender) → sender_from (sender_numbers d) ≡ d
sender-back d =
    rw (
      numbers-listed d,
      state-back d.state,
      flag-read d.signalled,
      (numbered d.job.phase).back,
      flag-read d.job.retry,
    )

pub read-back : {d : DD.Sender} {a : List ℕ} → sender_numbers d ≡ a → d ≡ sender_from a
read-back {d} e = rw (← e) (sym (sender-back d))

-- senders' numbers pass, and are those senders'
senders-kept : (ds : List DD.Sender) (rest : List ℕ) → SendersFit ds
    → (encodes_senders (length ds) (senders_numbers ds ++ rest) ≡ true)
    × (senders_from (length ds) (senders_numbers ds ++ rest) ≡ ds)
unfolding senders_numbers encodes_senders senders_from
senders-kept [] rest f = (refl, refl)
senders-kept (d ∷ ds) rest f =
    let l = sender-long d f.0 in
    let r = senders-kept ds rest f.1 in
    rw (
      append_assoc (sender_numbers d) (senders_numbers ds) rest,
      take_at (sender_numbers d) (senders_numbers ds ++ rest) 21 l,
      drop_at (sender_numbers d) (senders_numbers ds ++ rest) 21 l,
      sender-passes d f.0,
      sender-back d,
      r.0,
      r.1,
    )
    (refl, refl)

-- the numbers of every board that the types can hold pass
pub encoded-ok : (b : HeldBoard) → BoardFits b → encodes (board_numbers b) ≡ true
unfolding encodes board_numbers
encoded-ok b f =
    let l = senders-long b.senders f.each in
    let n : length (board_numbers b) ≡ board_len =
    omega (
      arith,
      length-append (senders_numbers b.senders) (end_numbers b),
      l,
      f.all,
      length-append b.tallies b.backoffs,
      f.ends.0,
      f.ends.1,
    ) in
    let z = get_or_at (b.messages ∷ b.matches ∷ senders_numbers b.senders) (flag b.closed)
    (b.tallies ++ b.backoffs) 0 closed_at (omega (arith, l, f.all)) in
    let p = rw f.all at (senders-kept b.senders (end_numbers b) f.each).0 in
    rw (eq-eqb _ board_len n, p, z) (flag_small b.closed)

module _ (b : HeldBoard) (f : BoardFits b) where
  abbrev front : List ℕ
  front = b.messages ∷ b.matches ∷ senders_numbers b.senders

  -- the numbers from a place behind the senders on
  behind : (at k : ℕ) → at ≡ closed_at + k → drop at (front ++ end_numbers b) ≡ drop k (end_numbers b)
  behind at k e =
      let past : at ≡ length front + k = omega (arith, senders-long b.senders f.each, f.all) in
      ap (λ (n : ℕ). drop n (front ++ end_numbers b)) past ∙ drop-append-add front (end_numbers b) k

  tallies-back : tallies_in (front ++ end_numbers b) ≡ b.tallies
  unfolding part
  tallies-back = ap (take 32) (behind tallies_at 1 refl) ∙ take_at b.tallies b.backoffs 32 f.ends.0

  backoffs-back : backoffs_in (front ++ end_numbers b) ≡ b.backoffs
  unfolding part
  backoffs-back =
      ap (take 16) (behind backoffs_at 33 refl ∙ drop_at b.tallies b.backoffs 32 f.ends.0)
      ∙ take_all 16 b.backoffs (omega (arith, f.ends.1))

  pub board-back : board_from (board_numbers b) ≡ b
  unfolding board_numbers board_from
  board-back =
      let l = senders-long b.senders f.each in
      let z = get_or_at front (flag b.closed) (b.tallies ++ b.backoffs) 0 closed_at (omega (arith, l, f.all)) in
      rw (
        rw f.all at (senders-kept b.senders (end_numbers b) f.each).1,
        z,
        flag-read b.closed,
        tallies-back,
        backoffs-back,
      )
