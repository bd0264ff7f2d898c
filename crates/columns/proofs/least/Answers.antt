-- `columns::least` meets its contract: those that are consumed are passed over.
use mathlib.Core.Path.{sym, ◌∙◌}
use Prim.Native.Nat.{◌-◌, ◌%◌}
use native.Mathlib.Omega.{arith}
use Rattle.columns.proofs.Passed.{passed-less, passed-skip}
use Rattle.columns.proofs.least.Goals as goal

pub returns-then-n-start-le24 : goal.returns-then-n-start-le24
returns-then-n-start-le24 c =
    let a = c.args in
    c.least_in.ensures
    ∙ sym (passed-skip a.channels.now a.keys.now a.units.now a.statuses.now a.want a.chosen.now
    a.start a.n c.requires.passed.0 c.requires.passed.1)

pub returns : goal.returns
returns c =
    let a = c.args in
    let from = a.start - a.start % 64 in
    c.by_blocks.ensures
    ∙ sym (passed-skip a.channels.now a.keys.now a.units.now a.statuses.now a.want a.chosen.now
    from a.n (passed-less a.start from a.n a.statuses.now (omega arith) c.requires.passed.0) c.requires.passed.1)
