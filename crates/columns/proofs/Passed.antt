-- Laws of the messages below a number that are all consumed.
use mathlib.Core.Path.{◌≡◌, ap, ◌∙◌}
use mathlib.Core.Bool.{false, and-false}
use mathlib.Core.List.{List}
use Prim.Native.Nat.{ℕ, ◌-◌, ◌<◌, ◌≤◌}
use native.Mathlib.Omega.{arith}
use lib.Dec.{eqb}
use lib.ListN.{get_or}
use borrow.Author.Tests.{ne_eqb}
use Rattle.columns.specs.declared.Want as DW
use Rattle.columns.specs.Columns.{Passed}
use Rattle.columns.specs.Firsts.{of_kind, eligible}
use Rattle.columns.specs.Ranks.{day_in, no_rank, least_from}
use Rattle.columns.proofs.Walks.{kind-skip}

-- no message is below number 0
pub passed_none : (n : ℕ) (statuses : List ℕ) → Passed 0 n statuses
passed_none n statuses = record { within = omega arith; consumed = λ i h. absurd (omega arith) }

pub passed-less : (start from n : ℕ) (statuses : List ℕ) → from ≤ start → Passed start n statuses
    → Passed from n statuses
passed-less start from n statuses l p = record {
  within = let w = p.within in omega arith;
  consumed = λ i h. p.consumed i (omega arith);
}

consumed-kind : (channels statuses : List ℕ) (wanted status k : ℕ) → get_or statuses k 0 ≡ 3 → status < 3
    → of_kind channels statuses wanted status k ≡ false
unfolding of_kind
consumed-kind channels statuses wanted status k e h =
    rw (e, ne_eqb 3 status (λ z. omega arith)) (and-false (eqb (get_or channels k 0) wanted))

-- the least of all is the least from start on
pub passed-skip : (channels keys units statuses : List ℕ) (want : DW.Want) (chosen : List ℕ) (start n : ℕ)
    → Passed start n statuses → want.status < 3
    → let q = eligible channels keys units statuses want chosen in
    least_from (day_in keys) q no_rank 0 n ≡ least_from (day_in keys) q no_rank start (n - start)
passed-skip channels keys units statuses want chosen start n p h =
    let z : n ≡ n - 0 = omega arith in
    ap (least_from (day_in keys) _ no_rank 0) z
    ∙ kind-skip channels keys units statuses want chosen no_rank 0 start n (omega arith) p.within
    (λ k l m. consumed-kind channels statuses want.channel want.status k (p.consumed k m) h)
