-- Backoff tables: public calls, by the model's schedule.
use mathlib.Core.Path.{◌≡◌, sym, ap, ◌∙◌}
use mathlib.Core.Bool.{true}
use mathlib.Core.List.{List}
use Prim.Native.Nat.{ℕ}
use lib.Dec.{eqb}
use lib.ListN.{length}
use Rattle.model.specs.Basics.{unless, first_of}
use Rattle.model.specs.Boards.{Board, backoffs_pass, builtin_backoffs}
use Rattle.model.specs.Layout.{table_refusal, table_of}
use Rattle.model.proofs.OwnRests.{own-rests}
use Rattle.boards.specs.Calls.{Held}
use Rattle.boards.specs.Layout.{Lists, board_len, backoffs_in}
use Rattle.rows.specs.Decoded.{board_from}
use Rattle.refusals.specs.Held.{held_in}
use Rattle.refusals.specs.Calls.{board_of, refusal_of}
use Rattle.refusals.proofs.Refusals.{board-sound}
use Rattle.refusals.proofs.HeldLaws.{held-is, accepted-lists}
use Rattle.calls.specs.Opens.{open_number}
use Rattle.schedules.specs.Schedules.{Opened}
use Rattle.schedules.specs.Mixes.{Act, Acts, calls_in}
use Rattle.schedules.specs.Resting.{RestingCalls}
use Rattle.schedules.proofs.PublicCalls as P
use Rattle.schedules.proofs.Mixed.{acts-part}

-- the table of accepted lists is that of the model's board
rests-are : (s : List ℕ) (l : Lists) → refusal_of s (held_in l) ≡ 0
    → (board_of s (held_in l)).backoffs ≡ backoffs_in l.board
unfolding board_from
rests-are s l z =
    let a = accepted-lists s l z in ap (λ (h : Held). h.board.backoffs) (held-is l a.numbers a.sized)

none_given : (s board : List ℕ)
    → open_number s builtin_backoffs board ≡ first_of (table_refusal s) (unless (eqb (length board) board_len) 30 0)
unfolding open_number
none_given s board = rw own-rests.builtin

opened : (s rests : List ℕ) (l : Lists) → Opened s rests l
    → (backoffs_pass rests ≡ true) × (backoffs_in l.board ≡ rests)
opened s rests l o =
    let q = P.opened s rests l o in
    ((P.table-opened s rests l o).1, sym (rests-are s l q.0) ∙ ap (λ (b : Board). b.backoffs) q.1)

kept : (s : List ℕ) (l : Lists) (xs : List Act) (l' : Lists) → refusal_of s (held_in l) ≡ 0 → Acts s l xs l'
    → backoffs_in l'.board ≡ backoffs_in l.board
kept s l xs l' z p =
    let r = acts-part s l xs l' z p in
    sym (rests-are s l' r.accepted)
    ∙ ap (λ (b : Board). b.backoffs) r.leaves
    ∙ own-rests.kept (table_of s) (board_of s (held_in l)) (calls_in xs)
    ∙ rests-are s l z

asked : (s : List ℕ) (l : Lists) → refusal_of s (held_in l) ≡ 0 → backoffs_pass (backoffs_in l.board) ≡ true
asked s l z =
    ap backoffs_pass (sym (rests-are s l z))
    ∙ own-rests.asked (table_of s) (board_of s (held_in l)) (board-sound s _ _ _ z)

pub resting-calls : RestingCalls
resting-calls = record { none_given = none_given; opened = opened; kept = kept; asked = asked }
