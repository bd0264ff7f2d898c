-- `host::put_eight` meets its contract: each turn writes one message more.
use mathlib.Core.Path.{◌≡◌, subst}
use mathlib.Core.List.{map}
use Prim.Native.Nat.{ℕ}
use borrow.Author.Rules.{rules}
use lib.Seq.{paste, paste-zero}
use lib.IntN.{pos}
use native.Mathlib.Omega.{arith}
use Rattle.host.proofs.ReadLaws.{eight-next}
use Rattle.host.proofs.put_eight.Goals as goal

pub loop-i-init : goal.loop-i-init
loop-i-init c =
    let a = c.args in
    (search rules, paste-zero a.out.now 3 (map pos a.messages.now), search rules)

pub overflow_cast-out : goal.overflow_cast-out
overflow_cast-out c = let x = c.shared_slice_known-1.given c.loop-i.i in record { sfits = omega (arith, x) }

pub loop-i-preserved : goal.loop-i-preserved
loop-i-preserved c =
    let a = c.args in
    let i = c.loop-i.i in (
      search rules,
      rw c.loop-i.invariant.1
          (eight-next a.out.now a.messages.now i c.requires.0 c.requires.1 (omega arith)
          (omega (arith, c.shared_slice_known-1.given i))),
      search rules,
    )

pub returns : goal.returns
returns c =
    let a = c.args in
    let e : c.loop-i.i ≡ 8 = omega arith in
    subst (λ (n : ℕ). c.loop-i.out ≡ paste a.out.now 3 (map pos a.messages.now) n) e c.loop-i.invariant.1
