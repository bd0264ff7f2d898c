-- What an opening says and leaves, by way out: refused by the table, by the backoff table, by the board's length, or
-- opened. An opened board is the model's empty board, which is accepted with every table that is and any other lists of
-- their lengths.
use mathlib.Core.Path.{◌≡◌, refl, ap, ◌∙◌}
use mathlib.Core.Logic.{◌≢◌}
use mathlib.Core.Bool.{true, false}
use mathlib.Core.List.{List, []}
use Prim.Native.Nat.{ℕ, zero, suc}
use native.Mathlib.Omega.{arith}
use borrow.Author.Tests.{eq-eqb, ne_eqb}
use lib.ListN.{length, replicate}
use Rattle.model.specs.Tables.{Table}
use Rattle.model.specs.Boards.{empty_board, backoffs_pass}
use Rattle.model.specs.Layout.{table_refusal, table_of}
use Rattle.model.specs.Sound.{sound}
use Rattle.model.proofs.Tests.{refused-first, first-none, unless-none}
use Rattle.model.proofs.SoundKept.{sound-exactly}
use Rattle.model.proofs.OwnRests.{own-rests}
use Rattle.columns.specs.Columns.{Columns}
use Rattle.columns.specs.MatchColumns.{MatchColumns}
use Rattle.state.specs.declared.Sender as DD
use Rattle.boards.specs.Boards.{HeldBoard, board_in}
use Rattle.boards.specs.Layout.{Lists, board_len, Sized, columns_in, matches_in}
use Rattle.rows.specs.Numbers.{board_numbers, encodes}
use Rattle.rows.specs.Decoded.{board_from}
use Rattle.rows.specs.Fits.{SenderFits, SendersFit, BoardFits}
use Rattle.rows.specs.Fresh.{fresh_sender, fresh_board}
use Rattle.rows.proofs.Encoded.{encoded-ok, board-back}
use Rattle.refusals.specs.Judged.{statuses_ok}
use Rattle.refusals.specs.Held.{held_of, Accepted}
use Rattle.refusals.specs.Calls.{board_of}
use Rattle.refusals.proofs.CallLaws.{accepts}
use Rattle.refusals.proofs.HeldLaws.{columns-sized}
use Rattle.calls.specs.Opens.{open_number, opened_numbers}
use Rattle.calls.proofs.ReadLaws.{none_first}

module _ (s rests board : List ℕ) where
  -- the number, and the numbers after it
  abbrev Opens : ℕ → List ℕ → Type 0
  Opens r after = (r ≡ open_number s rests board) × (after ≡ opened_numbers s rests board)

  pub opens-table : (f : ℕ) → f ≡ table_refusal s → f ≢ 0 → Opens f board
  unfolding opened_numbers open_number
  opens-table f e h = rw (← e) (refused-first f _ h, none_first f _ h _ _)

  module _ (e : table_refusal s ≡ 0) where
    pub opens-no-rests : backoffs_pass rests ≡ false → Opens 21 board
    unfolding opened_numbers open_number
    opens-no-rests h = rw (e, h) (refl, refl)

    module _ (p : backoffs_pass rests ≡ true) where
      pub opens-none : length board ≢ board_len → Opens 30 board
      unfolding opened_numbers open_number
      opens-none h = rw (e, p, ne_eqb (length board) board_len h) (refl, refl)

      pub opens-fresh : length board ≡ board_len → (after : List ℕ) → after ≡ board_numbers (fresh_board rests)
          → Opens 0 after
      unfolding opened_numbers open_number
      opens-fresh h after q = rw (e, p, eq-eqb (length board) board_len h) (refl, q)

  -- an opening that is not refused
  pub unrefused : open_number s rests board ≡ 0
      → (table_refusal s ≡ 0) × (backoffs_pass rests ≡ true)
      × (opened_numbers s rests board ≡ board_numbers (fresh_board rests))
  unfolding opened_numbers open_number
  unrefused z =
      let a = first-none (table_refusal s) _ z in
      (a.0, (unless-none (backoffs_pass rests) 20 _ a.1).0, rw z)

-- An opened board

pub opens-empty : (t : Table) (rests : List ℕ) (c : Columns) (m : MatchColumns)
    → board_in t (fresh_board rests) c m ≡ empty_board rests
opens-empty t rests c m = refl

none-known : (s : List ℕ) → statuses_ok 0 s ≡ true
unfolding statuses_ok
none-known s = refl

same-fit : (n : ℕ) (d : DD.Sender) → SenderFits d → SendersFit (replicate n d)
same-fit zero d f = tt
same-fit (suc n) d f = (f, same-fit n d f)

module _ (s rests : List ℕ) (p : backoffs_pass rests ≡ true) where
  fresh-fits : BoardFits (fresh_board rests)
  fresh-fits = record {
    all = refl;
    each = same-fit 32 fresh_sender
        (record { chord = omega arith; phase = tt; chosen = refl; retries = omega arith });
    ends = (refl, (own-rests.there rests p).sixteen);
  }

  module _ (l : Lists) (f : l.board ≡ board_numbers (fresh_board rests)) where
    fresh-is : board_from l.board ≡ fresh_board rests
    fresh-is = ap board_from f ∙ board-back (fresh_board rests) fresh-fits

    pub opened-empty : board_of s (held_of l) ≡ empty_board rests
    opened-empty =
        ap (λ (b : HeldBoard). board_in (table_of s) b (columns_in l) (matches_in l)) fresh-is
        ∙ opens-empty (table_of s) rests (columns_in l) (matches_in l)

    pub opened-accepted : table_refusal s ≡ 0 → Sized l → Accepted s l
    opened-accepted e z = record {
      numbers = ap encodes f ∙ encoded-ok (fresh_board rests) fresh-fits;
      sized = z;
      accepted = accepts s (held_of l) e (columns-sized l z)
          (ap (λ (b : HeldBoard). statuses_ok b.messages (columns_in l).statuses) fresh-is ∙ none-known _)
          (ap (sound (table_of s)) opened-empty ∙ sound-exactly (table_of s) rests [] ∙ p);
    }
