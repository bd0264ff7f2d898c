-- `refusals::is_sound` meets its contract: the tests are the model's, in their order.
use Rattle.std.proofs.Common.{[], ◌≤◌, get_or, length, sym, ◌∙◌, arith}
use mathlib.Mathlib.Data.Bool.Basic.{and_elim_left}
use Rattle.model.specs.Layout.{table_of}
use Rattle.boards.specs.Layout.{lists, columns_in, matches_in}
use Rattle.refusals.proofs.SoundNumbers.{board_on, numbers-sound, seen-numbers, known-numbers}
use Rattle.refusals.proofs.is_sound.Goals.{then-counts_ok, else-counts_ok}
use Rattle.refusals.proofs.is_sound.Goals as goal

pub senders_ok-requires-clause-table_value : goal.senders_ok-requires-clause-table_value
senders_ok-requires-clause-table_value c =
    let a = c.args in
    let l = lists a.board.now a.bytes.now a.links.now [] a.cents.now in
    let t = table_of a.table.now in
    let on = board_on t a.board.now (columns_in l) (matches_in l) in
    let v = seen-numbers t a.board.now (columns_in l) (matches_in l) in
    elim c.if-counts_ok.branch [
      | then-counts_ok w ↦
          let e = w.columns_ok.ensures a.board.now [] on v.count v.matches_count in
          let few : get_or a.board.now 0 0 ≤ length (columns_in l).channels =
          rw (← c.channels.ensures.0) (grind arith) in
          let f = known-numbers t a.board.now (columns_in l) (matches_in l) few
          (and_elim_left _ _ (sym e ∙ sym w.value-is ∙ c.if-columns_ok.true)) in
          (c.requires.table_value.0, rw c.channels.ensures.0 f)
      | else-counts_ok w ↦ grind arith
    ]

pub returns-then-columns_ok : goal.returns-then-columns_ok
returns-then-columns_ok c keys =
    let a = c.args in
    let l = lists a.board.now a.bytes.now a.links.now keys a.cents.now in
    let t = table_of a.table.now in
    let on = board_on t a.board.now (columns_in l) (matches_in l) in
    let v = seen-numbers t a.board.now (columns_in l) (matches_in l) in
    let senders = c.senders_ok.ensures on (rw c.channels.ensures.0 v) in
    rw (numbers-sound t a.board.now (columns_in l) (matches_in l) c.requires.table_value.1 c.requires.table_value.2)
    (elim c.if-counts_ok.branch [
      | then-counts_ok w ↦ let e = w.columns_ok.ensures a.board.now keys on v.count v.matches_count in grind arith
      | else-counts_ok w ↦ grind arith
    ])

pub returns-else-columns_ok : goal.returns-else-columns_ok
returns-else-columns_ok c keys =
    let a = c.args in
    let l = lists a.board.now a.bytes.now a.links.now keys a.cents.now in
    let t = table_of a.table.now in
    let on = board_on t a.board.now (columns_in l) (matches_in l) in
    let v = seen-numbers t a.board.now (columns_in l) (matches_in l) in
    rw (numbers-sound t a.board.now (columns_in l) (matches_in l) c.requires.table_value.1 c.requires.table_value.2)
    (elim c.if-counts_ok.branch [
      | then-counts_ok w ↦ let e = w.columns_ok.ensures a.board.now keys on v.count v.matches_count in grind arith
      | else-counts_ok w ↦ grind arith
    ])
