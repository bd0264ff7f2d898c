-- `host::put_match` meets its contract: the eight messages, then the three numbers before them.
use mathlib.Core.Path.{◌≡◌}
use mathlib.Core.List.{map}
use lib.ListN.{length}
use lib.IntN.{pos}
use lib.ListN.{length-set}
use lib.Seq.{paste}
use native.Mathlib.Omega.{arith}
use Rattle.host.proofs.ReadLaws.{match-put}
use Rattle.host.proofs.put_match.Goals as goal

pub bounds-out-1 : goal.bounds-out-1
bounds-out-1 c = simp length-set (omega arith)

pub bounds-out-2 : goal.bounds-out-2
bounds-out-2 c = simp length-set (omega arith)

pub returns : goal.returns
returns c =
    let a = c.args in
    let m = a.m in
    let all : length m.messages ≡ 8 = omega arith in
    let e : c.put_eight.new.out ≡ paste a.out.now 3 (map pos m.messages) 8 = c.put_eight.ensures in
    rw e
    (match-put m all c.requires.len_bound.0 c.requires.len_bound.1 a.out.now c.requires.in_bounds (omega arith)
    (omega arith))
