-- `columns::some_claimed` meets its contract: the claimed ones have a least rank.
use Prim.Native.Nat.{◌+◌}
use native.Mathlib.Omega.{arith}
use Rattle.columns.proofs.Walks.{some-claimed-is}
use Rattle.columns.proofs.some_claimed.Goals as goal

pub returns : goal.returns
returns c =
    let a = c.args in
    let r = c.least-b in
    λ o k x e f. some-claimed-is a.channels.now a.keys.now a.statuses.now o a.n a.want k x
    a.units.now e f c.requires.lent.few (λ k. omega (arith, c.type_inv.keys (1024 + k))) c.requires.passed.1
    r.result r.ensures
