-- `calls::replay` meets its contract: refused as found, or all calls played.
use mathlib.Core.Path.{◌≡◌, sym, ap, ◌∙◌}
use mathlib.Core.List.{List}
use Prim.Native.Nat.{ℕ}
use lib.ListN.{length}
use Rattle.boards.specs.Layout.{Lists, lists}
use Rattle.refusals.specs.Held.{held_in, Accepted}
use Rattle.refusals.proofs.HeldLaws.{accepted-lists}
use Rattle.plays.specs.Replays.{CallRows, call_rows, replay_number, refusal_after, Fit}
use Rattle.plays.proofs.ScheduleLaws.{may-play}
use Rattle.calls.proofs.PublicLaws.{replay-refused, replay-played}
use Rattle.calls.proofs.replay.Goals as goal

-- a replay that is not refused may play
may : (t : List ℕ) (l : Lists) (r : CallRows) (n number : ℕ) → number ≡ replay_number t (held_in l) r n → number ≡ 0
    → Accepted t l × Fit r n
may t l r n number e z = let p = may-play _ r n (sym e ∙ z) in (accepted-lists _ _ p.0, p.1)

pub returns-then-number-ne0 : goal.returns-then-number-ne0
returns-then-number-ne0 c =
    let a = c.args in
    let r = call_rows a.calls.now a.numbers.now a.amounts.now in
    let e = c.replay_refusal-number.ensures
    ∙ ap (λ x. refusal_after x r (length a.answers.now)) c.board_refusal-refusal.ensures in
    replay-refused a.table.now (lists a.board.now a.bytes.now a.links.now a.keys.now a.cents.now) r a.answers.now _ e c.if-number-ne0.true

pub replay_core-requires : goal.replay_core-requires
replay_core-requires c =
    let a = c.args in
    let r = call_rows a.calls.now a.numbers.now a.amounts.now in
    let e = c.replay_refusal-number.ensures
    ∙ ap (λ x. refusal_after x r (length a.answers.now)) c.board_refusal-refusal.ensures in
    let m = may a.table.now (lists a.board.now a.bytes.now a.links.now a.keys.now a.cents.now) r (length a.answers.now) _ e c.if-number-ne0.false in
    record { accepted = m.0; fit = m.1 }

pub returns : goal.returns
returns c =
    let a = c.args in
    let l = lists a.board.now a.bytes.now a.links.now a.keys.now a.cents.now in
    let r = call_rows a.calls.now a.numbers.now a.amounts.now in
    let e = c.replay_refusal-number.ensures
    ∙ ap (λ x. refusal_after x r (length a.answers.now)) c.board_refusal-refusal.ensures in
    let p = c.replay_core.ensures in
    replay-played a.table.now l r a.answers.now _ e c.if-number-ne0.false _ _
    (may a.table.now l r (length a.answers.now) _ e c.if-number-ne0.false).0 p.accepted_2 p.plays_all
