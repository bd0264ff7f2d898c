-- `writes::write_move` meets its contract: the message that is added, the change, then the sender.
use Rattle.std.proofs.Common.{◌≡◌, ℕ, ◌≤◌, ap, ◌∙◌, arith, rules}
use Rattle.state.specs.declared.Change as DG
use Rattle.state.specs.declared.Change.TheVariants as G
use Rattle.columns.specs.Columns.{Columns}
use Rattle.columns.specs.MatchColumns.{MatchColumns}
use Rattle.boards.specs.Boards.{HeldBoard}
use Rattle.boards.specs.Calls.{held}
use Rattle.rows.specs.Decoded.{board_from}
use Rattle.writes.specs.Writes.{Sure, changed_board}
use Rattle.writes.specs.Written.{columns_after, matches_with}
use Rattle.writes.proofs.write_move.Goals as goal

-- a change of a board's messages is one of 1,024
sure-all : (n k j : ℕ) (g : DG.Change) → n ≤ 1024 → k ≡ j → Sure n j g → Sure 1024 k g
sure-all n k j G.None l e s = tt
sure-all n k j (G.Turn x u) l e s = (omega (arith, s.0), s.1)
sure-all n k j (G.Record x) l e s = (omega (arith, s.0), omega (arith, s.1))
sure-all n k j (G.Signal x) l e s = s

held-by : {b b' : HeldBoard} {c c' : Columns} {m m' : MatchColumns} → b ≡ b' → c ≡ c' → m ≡ m'
    → held b c m ≡ held b' c' m'
held-by p q r = rw (p, q, r)

pub write_change-requires : goal.write_change-requires
unfolding board_from
write_change-requires c =
    let k = ap (λ (b : HeldBoard). b.matches) c.put_added.ensures.board.1 in
    (sure-all _ _ _ c.args.m.change c.requires.3 k c.requires.6.sure, omega arith, omega arith)

pub put_changed-requires : goal.put_changed-requires
unfolding board_from
put_changed-requires c =
    let k = ap (λ (b : HeldBoard). b.matches) c.put_added.ensures.board.1 in
    (c.put_added.ensures.board.0, c.requires.1, sure-all _ _ _ c.args.m.change c.requires.3 k c.requires.6.sure)

pub returns : goal.returns
unfolding board_from
returns c =
    let m = c.args.m in
    let p = c.put_added.ensures in
    let a = p.lists c.args.board.now in
    let w = c.write_change.ensures c.args.board.now c.put_added.new.keys c.put_added.new.cents in
    let e = c.put_changed.ensures in
    let k = ap (λ (b : HeldBoard). b.matches) p.board.1 in
    let ms = ap (matches_with m.change _ m.sender.job) a.matches in (
      held-by (e.1 ∙ ap (λ (b : HeldBoard). changed_board b c.args.i m.sender m.change) p.board.1)
          (w.columns ∙ ap (columns_after m.change) a.columns) (w.matches ∙ rw k ms),
      e.0,
      search rules,
    )
