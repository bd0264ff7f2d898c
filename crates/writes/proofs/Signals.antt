-- Senders signalled one after another, in their numbers.
use Rattle.std.proofs.Common.{◌≡◌, ℕ, ◌+◌, ◌*◌, ◌<◌, ◌≤◌, Bool, true, false, not, ◌&&◌, List, ◌++◌, map, take, drop}
use Rattle.std.proofs.Common.{length, get_or, set, eqb, refl, ap, ◌∙◌, arith, add-one}
use Rattle.std.proofs.lemmas.List.{set-get_or}
use mathlib.Core.Bool.{or-false, or-true}
use Rattle.model.specs.Basics.{pick}
use Rattle.model.proofs.Walks.{in-place-step, in-place-end}
use Rattle.state.specs.declared.State as DS
use Rattle.state.specs.declared.State.TheVariants as S
use Rattle.state.specs.declared.Sender as DD
use Rattle.state.specs.Views.{idle_is}
use Rattle.boards.specs.Boards.{HeldBoard, zero_sender}
use Rattle.rows.specs.Numbers.{state_number, sender_numbers, encodes}
use Rattle.rows.specs.Decoded.{board_from}
use Rattle.rows.proofs.DecodeLaws.{from_back}
use Rattle.writes.specs.Writes.{signalled_by, signalled_board}
use Rattle.writes.proofs.Places.{IsBoard, with_sender, number-get, signal-set, d}

state-idle : (s : DS.State) → eqb (state_number s) 0 ≡ idle_is s
state-idle S.Idle = refl
state-idle S.Working = refl
state-idle S.Blocked = refl

-- the sender whose numbers are from a place on is not idle, and own is its own message plus 1
abbrev owned_at : List ℕ → ℕ → ℕ → Bool
owned_at s at own = not (eqb (get_or s at 0) 0) && eqb (get_or s (at + 2) 0) own

-- the numbers with that sender's signal set
abbrev pub signal_at : List ℕ → ℕ → ℕ → List ℕ
signal_at s at own = pick (owned_at s at own) (set s (at + 1) 1) s

-- the first i senders signalled, where message n is their own
abbrev pub signalled_to : ℕ → ℕ → HeldBoard → HeldBoard
signalled_to n i b = record b { senders = map (signalled_by n) (take i b.senders) ++ drop i b.senders }

module _ (n : ℕ) (s₀ : List ℕ) (ok : encodes s₀ ≡ true) (s : List ℕ) (i : ℕ)
    (p : IsBoard s (signalled_to n i (board_from s₀))) where
  abbrev b : HeldBoard
  b = board_from s₀

  all : length b.senders ≡ 32
  all = (from_back s₀ ok).1.all

  module _ (h : i < 32) where
    abbrev here : DD.Sender
    here = d s p.0 i h

    owned : owned_at s (2 + 21 * i) (n + 1) ≡ not (idle_is here.state) && eqb here.own (n + 1)
    unfolding sender_numbers
    owned =
        rw (
          number-get s p.0 i h 0 (2 + 21 * i) (omega arith) (omega arith),
          number-get s p.0 i h 2 (2 + 21 * i + 2) (omega arith) (omega arith),
          state-idle here.state,
        )

    by-test : (u : Bool) → not (idle_is here.state) && eqb here.own (n + 1) ≡ u
        → IsBoard (pick u (set s (2 + 21 * i + 1) 1) s) (with_sender s p.0 i h (signalled_by n here))
    by-test true t = rw (t, or-true here.signalled) (signal-set s p.0 i h)
    by-test false t =
        let same : signalled_by n here ≡ here = rw (t, or-false here.signalled) in
        (p.0, rw (same, set-get_or (board_from s).senders i zero_sender))

    pub signal-next : IsBoard (signal_at s (2 + 21 * i) (n + 1)) (signalled_to n (i + 1) b)
    signal-next =
        let r = by-test _ refl in
        let one = λ (g : HeldBoard). record g {
          senders = set g.senders i (signalled_by n (get_or g.senders i zero_sender));
        } in
        let step = in-place-step (signalled_by n) zero_sender b.senders i (omega (arith, all)) in
        rw owned (r.0, r.1 ∙ ap one p.1 ∙ rw (step, add-one i))

  pub signal-end : 32 ≤ i → IsBoard s (signalled_board n b)
  signal-end h = rw (in-place-end (signalled_by n) b.senders i (omega (arith, all))) at p
