-- `looks::chose` meets its contract.
use lib.ListN.{length}
use lib.Seq.{take-suc-set}
use mathlib.Core.Path.{◌≡◌}
use native.Mathlib.Omega.{arith}
use Rattle.looks.proofs.chose.Goals as goal

pub returns : goal.returns
returns c =
    let a = c.args in
    let l : length a.j.chosen ≡ 8 = omega arith in
    λ t e. rw (c.with_at-chosen.ensures, e, c.requires.1, take-suc-set a.j.chosen a.k a.m (omega (arith, c.requires.0)))
