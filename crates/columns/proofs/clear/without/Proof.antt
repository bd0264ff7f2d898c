-- `columns::clear::without` meets its contract: the digit of message k is taken away.
use mathlib.Core.Path.{◌≡◌, sym, ◌∙◌}
use mathlib.Core.Logic.{◌≢◌}
use Prim.Native.Nat.{ℕ, ◌-◌, ◌*◌, ◌/◌, ◌%◌, ◌^◌}
use native.Mathlib.Omega.{arith}
use lib.Pow.{pow_pos}
use borrow.Author.Rules.{rules}
use Rattle.columns.proofs.Words.{one_shifted}
use Rattle.columns.proofs.Cleared.{but-none, but-one, digit-in}
use Rattle.columns.proofs.clear.without.Statement.{statement}
use Rattle.columns.proofs.clear.without.Tie as tie

returns : tie.Need-returns-then-k-at
returns c p e =
    let a = c.args in
    e ∙ sym (but-none p a.k a.at 64 (λ j l m. omega arith))

returns-2 : tie.Need-returns-then-t-ge64
returns-2 c p e =
    let a = c.args in
    e ∙ sym (but-none p a.k a.at 64 (λ j l m. omega arith))

-- the place of message k
abbrev place : tie.Else-t-ge64 → ℕ
place c =
    let a = c.args in
    a.k - a.at

one-is : (c : tie.Else-t-ge64) → (1 * 2 ^ place c) % 2 ^ 64 ≡ 2 ^ place c
one-is c = one_shifted (place c) (omega arith)

div-if3 : tie.Need-nonzero_div-w
div-if3 c = rw (one-is c) (pow_pos (place c))

returns-3 : tie.Need-returns-then-w-one-eq0
returns-3 c p e =
    let s = c.before in
    let a = s.args in
    let h = rw (one-is s) at c.if-w-one-eq0.true in
    let r = but-one p a.k a.at 64 (place s) a.w 0 (omega arith) (omega arith) e h in
    omega (arith, r)

-- the digit is not 0
digit : (c : tie.Else-w-one-eq0) → let s = c.before in (s.args.w / 2 ^ place s) % 2 ≢ 0
digit c = rw (one-is c.before) at c.if-w-one-eq0.false

sub-result : tie.Need-overflow_sub-result
sub-result c =
    let s = c.before in
    rw (one-is s) (digit-in s.args.w (place s) (digit c))

returns-4 : tie.Need-returns
returns-4 c p e =
    let s = c.before in
    let a = s.args in
    let h = digit c in
    let r = but-one p a.k a.at 64 (place s) a.w 1 (omega arith) (omega arith) e (omega arith) in
    rw (one-is s) (omega (arith, r))

pub without_spec : {M : Type 1} → statement M
without_spec = tie.close (tie.spec returns returns-2 (λ c. search rules) div-if3 returns-3 sub-result returns-4)
