-- Fair shares: public calls, by the model's schedule.
use mathlib.Core.Path.{◌≡◌, sym, ap, ◌∙◌}
use mathlib.Core.Logic.{◌≢◌}
use mathlib.Core.List.{List}
use Prim.Native.Nat.{ℕ, ◌+◌, ◌<◌, ◌≤◌}
use native.Mathlib.Omega.{arith}
use Rattle.model.specs.Layout.{table_of}
use Rattle.model.specs.Boards.{Board, Sent}
use Rattle.model.specs.Effects.{Said, Refused}
use Rattle.model.specs.Shares.{tally}
use Rattle.model.specs.Pools.{adds, history}
use Rattle.model.specs.Demands.{accepted_adds}
use Rattle.model.proofs.Shares.{no-tally}
use Rattle.model.proofs.FairShares.{fair-shares}
use Rattle.boards.specs.Layout.{Lists}
use Rattle.boards.specs.Calls.{Held}
use Rattle.rows.specs.Decoded.{board_from}
use Rattle.refusals.specs.Held.{held_in}
use Rattle.refusals.specs.Calls.{board_of, refusal_of}
use Rattle.refusals.proofs.Refusals.{board-sound}
use Rattle.refusals.proofs.HeldLaws.{held-is, accepted-lists}
use Rattle.calls.specs.Calls.{Calls}
use Rattle.schedules.specs.Schedules.{Opened}
use Rattle.schedules.specs.Mixes.{Act, Acts, calls_in}
use Rattle.schedules.specs.Sharing.{tally_in, SharedCalls}
use Rattle.schedules.proofs.PublicCalls as P
use Rattle.schedules.proofs.Mixed.{acts-part}

-- the tallies of accepted lists are those of the model's board
module _ (s : List ℕ) (l : Lists) (z : refusal_of s (held_in l) ≡ 0) where
  tally-is : (i : ℕ) → tally (board_of s (held_in l)).tallies i ≡ tally_in l i
  unfolding board_from
  tally-is i =
      let a = accepted-lists s l z in
      ap (λ (h : Held). tally h.board.tallies i) (held-is l a.numbers a.sized)

  at_most_528 : (i : ℕ) → tally_in l i ≤ 528
  at_most_528 i =
      omega (
        arith,
        tally-is i,
        (fair-shares.shared_out (table_of s) (board_of s (held_in l)) (board-sound s _ _ _ z)
            ).sender_most i,
      )

  first_16 : (l' : Lists) (i : ℕ) (x : Sent) (w : Said) → Calls s l (adds i x) w l' → tally_in l i < 16 → w ≢ Refused 26
  first_16 l' i x w c few e =
      (fair-shares.own_share (table_of s) (board_of s (held_in l))).first_16 i x (omega (arith, tally-is i))
      (sym (P.said-is s (held_in l) (adds i x) w (held_in l') z c.plays) ∙ e)

tallied : (s : List ℕ) (l : Lists) (xs : List Act) (l' : Lists) (i : ℕ) (z : refusal_of s (held_in l) ≡ 0)
    → Acts s l xs l' → tally_in l' i
    ≡ tally_in l i + accepted_adds i (history (table_of s) (board_of s (held_in l)) (calls_in xs))
tallied s l xs l' i z p =
    let r = acts-part s l xs l' z p in
    omega (
      arith,
      tally-is s l z i,
      tally-is s l' r.accepted i,
      ap (λ (b : Board). tally b.tallies i) r.leaves,
      fair-shares.tallied (table_of s) (board_of s (held_in l)) (calls_in xs) (board-sound s _ _ _ z) i,
    )

opened : (s rests : List ℕ) (l : Lists) (i : ℕ) → Opened s rests l → tally_in l i ≡ 0
opened s rests l i o =
    let q = P.opened s rests l o in
    sym (tally-is s l q.0 i) ∙ ap (λ (b : Board). tally b.tallies i) q.1 ∙ no-tally i

pub shared-calls : SharedCalls
shared-calls = record {
  opened = opened;
  tallied = tallied;
  at_most_528 = λ s l i z. at_most_528 s l z i;
  first_16 = λ s l l' i x w z c few. first_16 s l z l' i x w c few;
}
