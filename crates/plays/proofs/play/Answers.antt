-- `plays::play` meets its contract: refused by itself, or its move, written.
use Rattle.std.proofs.Common.{◌≡◌, ℕ, ◌+◌, ◌<◌, ◌≤◌, Option, Some, None, IfSome, is_some, List, get_or, refl, sym, ap}
use Rattle.std.proofs.Common.{◌∙◌, arith}
use Rattle.model.specs.Layout.{table_of}
use Rattle.model.proofs.Shares.{share-most}
use Rattle.columns.specs.Columns.{Columns}
use Rattle.boards.specs.declared.Sent as DS
use Rattle.boards.specs.Calls.{Held, call_in}
use Rattle.boards.specs.Layout.{tallies_at, Lists, lists, statuses_in}
use Rattle.boards.proofs.PartLaws.{get_d_part}
use Rattle.rows.specs.Decoded.{board_from}
use Rattle.refusals.specs.Held.{Accepted}
use Rattle.refusals.proofs.Refusals.{table-accepted, messages_few, matches_few, board-shares}
use Rattle.writes.specs.Moves.{put_if, messages_by, columns_with}
use Rattle.writes.specs.Writes.{statuses_by}
use Rattle.moves.proofs.RefusedLaws.{caller-in}
use Rattle.plays.proofs.PlayLaws.{play-refused}
use Rattle.plays.proofs.play.Goals as goal

few : (t : List ℕ) (l : Lists) → Accepted t l → (get_or l.board 0 0 ≤ 1024) × (get_or l.board 1 0 ≤ 1024)
unfolding board_from
few t l a = (messages_few _ _ _ _ a.accepted, matches_few _ _ _ _ a.accepted)

tally-few : (t : List ℕ) (l : Lists) → Accepted t l → (i : ℕ) → i < 32 → get_or l.board (tallies_at + i) 0 ≤ 1024
unfolding board_from
tally-few t l a i h =
    omega (
      arith,
      share-most (board-shares _ _ _ _ a.accepted) i,
      get_d_part tallies_at 32 l.board (tallies_at + i) i 0 refl h,
    )

-- with the message that a move adds
added-few : (a : Option DS.Sent) (n : ℕ) → n ≤ 1024 → IfSome a (λ x. (n < 1024) × (x.channel ≤ 255))
    → (n ≤ messages_by a n) × (messages_by a n ≤ 1024)
added-few (Some x) n l r = (omega arith, omega (arith, r.0))
added-few None n l r = (omega arith, l)

statuses-with : (a : Option DS.Sent) (n : ℕ) (c : Columns)
    → (columns_with a n c).statuses ≡ put_if (is_some a) c.statuses n 0
statuses-with (Some x) n c = refl
statuses-with None n c = refl

pub call_refusal-refusal-requires : goal.call_refusal-refusal-requires
call_refusal-refusal-requires c =
    let z = c.requires.accepted in
    (table-accepted _ _ _ _ z.accepted, z.numbers, z.sized.keys-len)

pub returns-then-refusal-ne0-clause-plays_in : goal.returns-then-refusal-ne0-clause-plays_in
returns-then-refusal-ne0-clause-plays_in c =
    let a = c.args in
    rw c.new.ensures.0
    (play-refused a.table.now (lists a.board.now a.bytes.now a.links.now a.keys.now a.cents.now) (call_in a.call)
    c.requires.accepted _ c.call_refusal-refusal.ensures c.if-refusal-ne0.true)

pub write_move-requires : goal.write_move-requires
write_move-requires c =
    let a = c.args in
    let l = lists a.board.now a.bytes.now a.links.now a.keys.now a.cents.now in
    let z = c.requires.accepted in
    let f = few a.table.now l z in
    let k = caller-in (table_of a.table.now) (board_from a.board.now) a.keys.now a.call
    (sym c.call_refusal-refusal.ensures ∙ c.if-refusal-ne0.false) in
    let i : c.caller_of-i.result < 32 = omega (arith, k, c.caller_of-i.ensures) in
    (z.numbers, i, z.sized, f.0, f.1, tally-few a.table.now l z _ i, c.move_of-m.ensures.fits.0)

pub start_after-next-requires : goal.start_after-next-requires
unfolding board_from
start_after-next-requires c =
    let m = added-few c.move_of-m.result.added _ (messages_few _ _ _ _ c.requires.accepted.accepted)
    c.move_of-m.ensures.fits.0.room in
    (omega (arith, m, ap (λ (h : Held). h.board.messages) c.write_move.ensures.0), c.write_move.ensures.2.bytes-len)

pub returns-clause-passed_2 : goal.returns-clause-passed_2
unfolding board_from
returns-clause-passed_2 c =
    let x = c.move_of-m.result in
    let m = added-few x.added _ (messages_few _ _ _ _ c.requires.accepted.accepted) c.move_of-m.ensures.fits.0.room in
    let e = c.write_move.ensures.0 in
    rw c.new-2.ensures.2
    (c.start_after-next.ensures _ (is_some x.added) (statuses_in c.args.bytes.now) c.requires.passed
    (omega (arith, m, ap (λ (h : Held). h.board.messages) e))
    (ap (λ (h : Held). h.columns.statuses) e ∙ ap (statuses_by x.change) (statuses-with x.added _ _)))
