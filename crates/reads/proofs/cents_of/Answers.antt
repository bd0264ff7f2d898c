-- `reads::cents_of` meets its contract: the sum, which stays far from the limits.
use Rattle.std.proofs.Common.{pos, get_or, arith}
use Rattle.std.proofs.lemmas.Int.{ints}
use Rattle.std.proofs.lemmas.List.{at_drop_all}
use Rattle.model.specs.Boards.{cents_of}
use Rattle.reads.proofs.Sums.{sent_by, cents_bound, cents_more, cents-alike}
use Rattle.reads.proofs.cents_of.Goals as goal

pub loop-k-preserved : goal.loop-k-preserved
loop-k-preserved c =
    let a = c.args in
    let i = c.loop-k.k-index in
    let x = get_or a.cents.now c.from.result (pos 0) in
    let b = cents_bound x (rw c.from.ensures (c.requires.in-range i (omega arith))) in (
      λ t. omega (
        arith,
        ints,
        c.loop-k.invariant.0 t,
        rw (← c.from.ensures) at (cents_more t a.cents.now a.numbers.now i (omega arith)),
      ),
      omega (arith, ints),
      omega (arith, ints),
    )

pub returns : goal.returns
returns c =
    let a = c.args in
    λ t sent h. omega (
      arith,
      ints,
      c.loop-k.invariant.0 t,
      at_drop_all (cents_of t (sent_by a.cents.now)) a.numbers.now c.loop-k.k-index (omega arith),
      cents-alike t sent (sent_by a.cents.now) a.numbers.now h,
    )
