-- Laws of the tests of a sender by its 21 numbers.
use Rattle.std.proofs.Common.{◌≡◌, ◌≢◌, Bool, true, ◌&&◌, List, ℕ, ◌≤◌, get_or, leb, leb-true, le-leb, Fits, w16, arith}
use Rattle.std.proofs.Common.{sym, ◌∙◌}
use Rattle.model.specs.Tables.{Table}
use Rattle.model.specs.Boards.{Board}
use Rattle.model.specs.Sound.{state_ok, job_ok, sender_ok}
use Rattle.model.proofs.Tests.{same_test, both, and}
use Rattle.state.specs.declared.Sender as DD
use Rattle.state.specs.Views.{job_in, sender_in}
use Rattle.soundness.specs.Tests.{each_below}
use Rattle.senders.specs.Seen.{Seen}
use Rattle.rows.specs.Numbers.{encodes_phase, encodes_sender}
use Rattle.rows.specs.Decoded.{sender_from}
use Rattle.rows.proofs.PhaseLaws.{kind_fits, place-fits}
use Rattle.refusals.specs.Rows.{within, limits, row_sender, row_ok}
use Rattle.refusals.proofs.Parts.{parts}

-- numbers within the limits
module _ (a : List ℕ) (n k : ℕ) (e : within (limits n k) a ≡ true) where
  pub kind_below : get_or a 8 0 ≤ 9
  unfolding within each_below
  kind_below = search (parts, leb-true) depth 30

  pub numbers_ok : encodes_phase (get_or a 8 0) (get_or a 9 0) (get_or a 10 0) ≡ true → encodes_sender a ≡ true
  unfolding within each_below encodes_sender
  numbers_ok p = search (parts, and) depth 30

module _ (t : Table) (b : Board) (a : List ℕ) where
  -- the state by the numbers
  abbrev pub state_test : Bool
  state_test = state_ok t b (row_sender t a) (row_sender t a).state

  pub working-by : {d : DD.Sender} → d ≡ sender_from a → get_or a 2 0 ≢ 0 → get_or a 0 0 ≡ 1
      → job_ok t b (sender_in t d) (job_in t d.job) ≡ state_test
  working-by e o z = rw (e, z, le-leb 1 (get_or a 2 0) (omega arith))

  -- the row by its limits, its phase and its state
  pub row_by : (n k : ℕ) (channels : List ℕ) → Seen b n k channels → ((i : ℕ) → Fits w16 (get_or a i 0))
      → row_ok t b a ≡ (within (limits n k) a
      && (encodes_phase (get_or a 8 0) (get_or a 9 0) (get_or a 10 0) && state_test))
  unfolding row_ok sender_ok encodes_sender within each_below
  row_by n k channels sees small =
      rw (sees.count, sees.matches_count)
      (same_test (λ e.
      let p : encodes_phase (get_or a 8 0) (get_or a 9 0) (get_or a 10 0) ≡ true = search parts depth 30 in
      let kind = le-leb _ _ (kind_fits _ _ _ p) in
      let place = le-leb _ _ (place-fits _ _ _ p) in
      let free : (i : ℕ) → leb (get_or a i 0) 65535 ≡ true =
      λ i. le-leb (get_or a i 0) 65535 (omega (arith, small i)) in
      search (parts, and, free) depth 40)
      (λ e. search (parts, and) depth 30))

  pub row_within : (n k : ℕ) (channels : List ℕ) → Seen b n k channels → ((i : ℕ) → Fits w16 (get_or a i 0))
      → row_ok t b a ≡ true → within (limits n k) a ≡ true
  row_within n k channels sees small e = (both (sym (row_by n k channels sees small) ∙ e)).0
