-- `refusals::put_marks` meets its contract: mark by mark.
use Rattle.std.proofs.Common.{◌≡◌, refl, sym, ◌∙◌, ap, arith, rules, drop, get_or, length-set}
use Rattle.boards.specs.Boards.{zero_sender}
use Rattle.model.proofs.Walks.{mapped-step, mapped_end}
use Rattle.senders.specs.Seen.{mark_by}
use Rattle.rows.specs.Decoded.{sender_from}
use Rattle.refusals.specs.Rows.{senders_in}
use Rattle.refusals.proofs.RowWalks.{senders-count, nth-sender}
use Rattle.refusals.proofs.put_marks.Goals as goal

pub loop-i-init : goal.loop-i-init
loop-i-init c = (search rules, refl)

pub loop-i-preserved : goal.loop-i-preserved
loop-i-preserved c =
    let s = c.args.s.now in
    let l = c.loop-i in
    let n = senders-count 32 (drop 2 s) in
    let e : c.mark_of.result ≡ mark_by (get_or (senders_in s) l.i zero_sender)
    = c.mark_of.ensures ∙ ap (λ a. mark_by (sender_from a)) c.row.ensures.0
    ∙ ap mark_by (sym (nth-sender s l.i zero_sender (omega arith))) in (
      length-set l.marks c.from.result _ ∙ l.invariant.0,
      rw (c.from.ensures, e)
          (mapped-step mark_by (senders_in s) l.marks l.i (l.invariant.0 ∙ sym n) l.invariant.1 zero_sender
          (omega arith)),
    )

pub returns : goal.returns
returns c =
    let s = c.args.s.now in
    let l = c.loop-i in
    let n = senders-count 32 (drop 2 s) in
    mapped_end mark_by (senders_in s) l.marks l.i (l.invariant.0 ∙ sym n) l.invariant.1 (omega arith)
