-- `host::put_message` meets its contract: eight stores are the eight numbers.
use mathlib.Core.Path.{refl}
use lib.ListN.{length-set}
use native.Mathlib.Omega.{arith}
use Rattle.host.proofs.ReadLaws.{message-put}
use Rattle.host.proofs.put_message.Goals as goal

pub bounds-out-1 : goal.bounds-out-1
bounds-out-1 c = simp length-set (omega arith)

pub bounds-out-2 : goal.bounds-out-2
bounds-out-2 c = simp length-set (omega arith)

pub bounds-out-3 : goal.bounds-out-3
bounds-out-3 c = simp length-set (omega arith)

pub bounds-out-4 : goal.bounds-out-4
bounds-out-4 c = simp length-set (omega arith)

pub bounds-out-5 : goal.bounds-out-5
bounds-out-5 c = simp length-set (omega arith)

pub bounds-out-6 : goal.bounds-out-6
bounds-out-6 c = simp length-set (omega arith)

pub bounds-out-7 : goal.bounds-out-7
bounds-out-7 c = simp length-set (omega arith)

pub shape_of-out : goal.shape_of-out
shape_of-out c = simp length-set refl

pub returns : goal.returns
returns c =
    let a = c.args in
    let g = c.well_formed.1.0.1.1 in
    message-put a.m c.requires.status_bound a.out.now c.requires.in_bounds (omega (arith, g.0.1)) (omega (arith, g.1.0.1))
    (omega (arith, g.1.1.0.1)) (omega (arith, g.1.1.1.0.1)) (omega (arith, g.1.1.1.1.0.1))
    (omega (arith, g.1.1.1.1.1.1.0.1)) (omega (arith, g.1.1.1.1.1.1.1.0.1))
