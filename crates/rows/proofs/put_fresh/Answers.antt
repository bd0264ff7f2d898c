-- `rows::put_fresh` meets its contract: from the front on, everything is written.
use Rattle.std.proofs.Common.{◌≡◌, ℕ, ◌∷◌, [], set, length-set, replicate, refl, ◌∙◌, arith, rules}
use Rattle.std.proofs.lemmas.List.{take_more_set}
use Rattle.rows.specs.Fresh.{fresh_sender}
use Rattle.rows.specs.Numbers.{sender_numbers, senders_numbers, board_numbers}
use Rattle.rows.proofs.FreshLaws.{sender_written, ends_written}
use Rattle.rows.proofs.put_fresh.Goals as goal

pub loop-i-init : goal.loop-i-init
unfolding senders_numbers
loop-i-init c =
    let s = c.args.s.now in
    rw (take_more_set (set s 0 0) 1 0 (search rules), take_more_set s 0 0 (search rules)) refl

pub loop-i-preserved : goal.loop-i-preserved
unfolding sender_numbers
loop-i-preserved c =
    let l = c.loop-i in
    rw (c.put_sender.ensures.0, c.row_start.ensures, c.fresh_sender-idle.ensures)
    (sender_written fresh_sender l.s (0 ∷ 0 ∷ []) l.i (omega (arith, length-set {A = ℕ})) refl l.invariant)

pub returns : goal.returns
unfolding board_numbers
returns c =
    let l = c.loop-i in
    let z : l.i ≡ 32 = omega arith in
    let zeros : c.fill.new.self ≡ replicate {A = ℕ} 32 0 = search rules in
    let idle = senders_numbers (replicate 32 fresh_sender) in
    ends_written l.s (0 ∷ 0 ∷ idle) c.fill.new.self c.put_backoffs.new.table 0 674 32 16 (rw z at l.invariant)
    (omega (arith, length-set {A = ℕ})) (search rules) (search rules)
    ∙ rw (zeros, c.put_backoffs.ensures)
