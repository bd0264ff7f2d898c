-- `columns::gather::word_of` meets its contract: the word of the bytes below p.
use mathlib.Core.Path.{◌≡◌, ◌∙◌}
use Prim.Native.Nat.{◌+◌, ◌-◌, ◌*◌, ◌%◌, ◌^◌, ◌≤◌}
use native.Mathlib.Omega.{arith}
use borrow.Author.Rules.{rules}
use Rattle.columns.specs.Words.{word_from, word_of}
use Rattle.columns.proofs.Bytes.{word_fits, eight-more}
use Rattle.columns.proofs.gather.word_of.Statement.{statement}
use Rattle.columns.proofs.gather.word_of.Tie as tie

abbrev invariant-loop : tie.invariant-loop-p
invariant-loop y w₀ p₀ w p = (p ≤ 64) × (p % 8 ≡ 0) × (w ≡ word_of y 0 p)

abbrev decreases-loop : tie.decreases-loop-p
decreases-loop y w₀ p₀ w p = 64 - p

-- the word with eight bits more
turn : (c : tie.After-wide invariant-loop decreases-loop) → let l = c.before.before.before in
    l.loop-p.w + (c.wide.result * 2 ^ l.loop-p.p) % 2 ^ 64
    ≡ word_of l.args.y.now 0 (l.loop-p.p + 8)
turn c =
    let l = c.before.before.before in
    rw l.loop-p.invariant.2
    (eight-more l.args.y.now l.loop-p.p _ (omega arith) (c.wide.ensures ∙ c.byte_of.ensures))

loop-holds : tie.Need-loop-p-init invariant-loop decreases-loop
unfolding word_from
loop-holds c = search rules

add-w : tie.Need-overflow_add-w invariant-loop decreases-loop
add-w c =
    record { fits = rw (turn c) (word_fits _ 0 (c.loop-p.p + 8) 64 (omega arith)) }

loop-again : tie.Need-loop-p-preserved invariant-loop decreases-loop
loop-again c = (search rules, search rules, turn c)

returns : tie.Need-returns invariant-loop decreases-loop
returns c =
    let z : c.loop-p.p ≡ 64 = omega arith in
    rw z at c.loop-p.invariant.2

pub word_of_spec : {M : Type 1} → statement M
word_of_spec =
    tie.close
    (tie.spec
    invariant-loop
    decreases-loop
    loop-holds
    (λ c κs. (search rules, search rules, c.before.before.requires))
    (λ c κs. search rules)
    (λ c. search rules)
    add-w
    (λ c. search rules)
    (λ c. search rules)
    loop-again
    returns)
