-- Laws of a sender's 21 numbers.
use Rattle.std.proofs.Common.{◌≡◌, true, List, ◌∷◌, ◌++◌, ℕ, zero, suc, ◌+◌, ◌≤◌, length, get_or, drop, length-drop}
use Rattle.std.proofs.Common.{drop-cons, sym, arith, rules, tests}
use Rattle.model.specs.Basics.{flag}
use Rattle.model.proofs.Tests.{flag-byte}
use Rattle.columns.specs.Columns.{list_from}
use Rattle.state.specs.declared.Sender as DD
use Rattle.rows.specs.Decoded.{state_from, sender_from}
use Rattle.rows.specs.Fits.{SenderFits}
use Rattle.rows.specs.Numbers.{state_number, kind, place, second, sender_numbers, encodes_phase, encodes_sender}
use Rattle.rows.proofs.PhaseLaws.{phase-from, numbered}

-- what a sender's numbers hold to
pub record NumbersFit (a : List ℕ) : Type 0 where
  pub state : get_or a 0 0 ≤ 2
  pub signalled : get_or a 1 0 ≤ 1
  pub chord : get_or a 7 0 ≤ 255
  pub phase : encodes_phase (get_or a 8 0) (get_or a 9 0) (get_or a 10 0) ≡ true
  pub retry : get_or a 11 0 ≤ 1
  pub retries : get_or a 12 0 ≤ 255

pub sender-fits : (a : List ℕ) → encodes_sender a ≡ true → NumbersFit a
unfolding encodes_sender
sender-fits a e = record {
  state = search (rules, tests);
  signalled = search (rules, tests);
  chord = search (rules, tests);
  phase = search (rules, tests);
  retry = search (rules, tests);
  retries = search (rules, tests);
}

-- a sender's numbers by their places
abbrev pub listed : DD.Sender → List ℕ
listed d =
    state_number d.state ∷ flag d.signalled ∷ d.own ∷ d.waker ∷ d.reply ∷ d.matched ∷ d.job.subject ∷
    d.job.chord ∷ kind d.job.phase ∷ place d.job.phase ∷ second d.job.phase ∷ flag d.job.retry ∷
    d.job.retries ∷ d.job.chosen

pub numbers-listed : (d : DD.Sender) → sender_numbers d ≡ listed d
unfolding sender_numbers
numbers-listed d = rw (sym ((numbered d.job.phase).spelled (flag d.job.retry ∷ d.job.retries ∷ d.job.chosen)))

pub sender-long : (d : DD.Sender) → SenderFits d → length (sender_numbers d) ≡ 21
sender-long d f = rw (numbers-listed d) (omega (arith, f.chosen))

-- n numbers from place i on, by their places, and the rest
spelled : (a : List ℕ) (i n : ℕ) → i + n ≤ length a → list_from (λ k. get_or a k 0) i n ++ drop (i + n) a ≡ drop i a
spelled a i zero h = let z : i + 0 ≡ i = omega arith in rw z
spelled a i (suc n) h =
    let z : i + suc n ≡ suc i + n = omega arith in
    rw (z, drop-cons a i 0 (omega arith), spelled a (suc i) n (omega arith))

state-from : (n : ℕ) → n ≤ 2 → state_number (state_from n) ≡ n
state-from n h = grind (arith, tests)

-- 21 numbers that pass are those of their sender, which fits its types
pub sender-from-back : (a : List ℕ) → length a ≡ 21 → encodes_sender a ≡ true
    → (sender_numbers (sender_from a) ≡ a) × SenderFits (sender_from a)
unfolding sender_numbers
sender-from-back a l ok =
    let f = sender-fits a ok in
    let p = phase-from (get_or a 8 0) (get_or a 9 0) (get_or a 10 0) f.phase in (
      rw (
        state-from (get_or a 0 0) f.state,
        flag-byte (get_or a 1 0) f.signalled,
        p.0,
        flag-byte (get_or a 11 0) f.retry,
      ) (spelled a 0 13 (omega arith)),
      record { chord = f.chord; phase = p.1; chosen = omega (arith, length-drop 13 a); retries = f.retries },
    )
