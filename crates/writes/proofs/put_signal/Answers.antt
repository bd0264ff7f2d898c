-- `writes::put_signal` meets its contract: each turn signals one sender more.
use Rattle.std.proofs.Common.{◌≡◌, ◌+◌, ◌*◌, arith}
use Rattle.std.proofs.lemmas.Bool.Decides.{nat_tests}
use Rattle.writes.proofs.Signals.{signal_at, signal-next, signal-end}
use Rattle.writes.proofs.put_signal.Goals as goal

pub loop-i-preserved : goal.loop-i-preserved
loop-i-preserved c =
    let e : c.if-s-at-ne0.s ≡ signal_at c.loop-i.s (2 + 21 * c.loop-i.i) (c.args.n + 1) = grind (arith, nat_tests) in
    rw e (signal-next _ _ c.requires.0 _ _ c.loop-i.invariant (omega arith))

pub returns : goal.returns
returns c = signal-end _ _ c.requires.0 _ _ c.loop-i.invariant (omega arith)
