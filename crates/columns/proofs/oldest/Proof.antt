-- `columns::oldest` meets its contract: the number of the least rank of the pending ones.
use Prim.Native.Nat.{ℕ, ◌+◌, ◌^◌, ◌<◌}
use native.Mathlib.Omega.{arith}
use borrow.Author.Rules.{rules}
use Rattle.columns.specs.Ranks.{day_in}
use Rattle.columns.proofs.Oldests.{least-number}
use Rattle.columns.proofs.Walks.{oldest-is}
use Rattle.columns.proofs.oldest.Statement.{statement}
use Rattle.columns.proofs.oldest.Tie as tie

abbrev keys-known : tie.After-least-b → tie.After-shared_slice_known-2-1
keys-known c = c.before.before.before.before

abbrev start : tie.After-shared_slice_known-2-1 → tie.Start
start c = c.before.before

days : (c : tie.After-shared_slice_known-2-1) (k : ℕ) → day_in (start c).args.keys.now k < 2 ^ 32
days c k = omega (arith, c.shared_slice_known-2-1.given (1024 + k))

returns : tie.Need-returns
returns c =
    let q = keys-known c in
    let s = start q in
    let a = s.args in
    let r = c.least-b in (
      rw r.ensures (least-number (day_in a.keys.now) _ a.n (omega (arith, s.requires.0.few)) (days q)),
      λ o k x e f. oldest-is a.channels.now a.keys.now a.statuses.now o a.n a.want k x
          a.units.now e f s.requires.0.few (days q) s.requires.1.1 a.chosen.now r.result r.ensures,
    )

pub oldest_spec : {M : Type 1} → statement M
oldest_spec = tie.close (tie.spec (λ c κs. search rules) (λ c. search rules) returns)
