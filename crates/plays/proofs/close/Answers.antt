-- `plays::close` meets its contract: refused by its day, or written.
use Rattle.std.proofs.Common.{sym, ap, ◌∙◌}
use Rattle.boards.specs.Boards.{HeldBoard}
use Rattle.boards.specs.Layout.{lists}
use Rattle.rows.specs.Decoded.{board_from}
use Rattle.plays.proofs.PlayLaws.{play-refused, closed-lists}
use Rattle.plays.proofs.close.Goals as goal

pub returns-then-refusal-ne0-clause-by_index : goal.returns-then-refusal-ne0-clause-by_index
unfolding board_from
returns-then-refusal-ne0-clause-by_index c = λ s bytes links cents ok.
    play-refused s (lists c.args.board.now bytes links c.args.keys.now cents) _ ok _ c.close_refusal-refusal.ensures
    c.if-refusal-ne0.true

pub returns : goal.returns
unfolding board_from
returns c =
    let e = c.put_close.ensures in
    record {
      by_index = λ s bytes links cents ok.
          closed-lists s (lists c.args.board.now bytes links c.args.keys.now cents) c.args.day ok
          (sym c.close_refusal-refusal.ensures ∙ c.if-refusal-ne0.false) _ _ e.0 e.1 e.2;
      board_unchanged = ap (λ (b : HeldBoard). b.messages) e.1;
    }
