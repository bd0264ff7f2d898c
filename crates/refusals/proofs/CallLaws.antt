-- How a call comes to say and leave what it should: refused for the board, refused by the model, or carried out.
use mathlib.Core.Path.{◌≡◌, refl, ap, ◌∙◌}
use mathlib.Core.Logic.{◌≢◌}
use mathlib.Core.Bool.{true}
use mathlib.Core.List.{List}
use Prim.Native.Nat.{ℕ, zero, suc, ◌≤◌}
use native.Mathlib.Omega.{arith}
use borrow.Author.Tests.{le-leb}
use lib.Dec.{leb}
use lib.ListN.{set}
use Rattle.model.specs.Layout.{table_refusal, table_of}
use Rattle.model.specs.Sound.{sound}
use Rattle.model.specs.Effects.{Said, Refused, number_of}
use Rattle.model.specs.Pools.{Call, answer_to}
use Rattle.model.proofs.Lists.{every_set, every-next}
use Rattle.model.proofs.SoundKept.{call-sound}
use Rattle.columns.specs.Columns.{Columns}
use Rattle.columns.specs.MatchColumns.{MatchColumns}
use Rattle.state.specs.declared.Sender as DD
use Rattle.boards.specs.Calls.{Held}
use Rattle.refusals.specs.Judged.{lent_ok, statuses_ok, board_refusal, Lengths}
use Rattle.refusals.specs.Calls.{board_of, refusal_of, Beyond, caller_of, row_at, SameRow, Records, Plays}
use Rattle.refusals.proofs.Refusals.{table-accepted, board-sound}

-- Statuses

module _ (n : ℕ) (s : List ℕ) (x : ℕ) (e : statuses_ok n s ≡ true) (l : x ≤ 3) where
  -- a status is written over another, and to the next record
  pub status-written : (k : ℕ) → statuses_ok n (set s k x) ≡ true
  unfolding statuses_ok
  status-written k = every_set (λ y. leb y 3) n s k x e (le-leb x 3 l)

  pub status-added : statuses_ok (suc n) (set s n x) ≡ true
  unfolding statuses_ok
  status-added = every-next (λ y. leb y 3) n s x e (le-leb x 3 l)

-- Boards that are accepted

pub lengths-ok : (c : Columns) (m : MatchColumns) → Lengths c m → lent_ok c m ≡ true
unfolding lent_ok
lengths-ok c m l =
    rw (
      l.channels-len,
      l.keys-len,
      l.cents-len,
      l.statuses_len,
      l.matched_len,
      l.wakers_len,
      l.units_len,
      l.chords-len,
      l.messages_len,
    )

-- what is needed of a board to be accepted
pub accepts : (s : List ℕ) (h : Held) → table_refusal s ≡ 0 → Lengths h.columns h.matches
    → statuses_ok h.board.messages h.columns.statuses ≡ true → sound (table_of s) (board_of s h) ≡ true
    → refusal_of s h ≡ 0
unfolding board_refusal
accepts s h e l u v = rw (e, lengths-ok h.columns h.matches l, u, v)

pub row_same : (d : DD.Sender) → SameRow d d
row_same d = record { state = refl; own = refl; waker = refl; reply = refl; matched = refl; job = refl }

-- The three ways

module _ (s : List ℕ) (h : Held) where
  pub beyond-same : Beyond h h
  beyond-same = record {
    messages_grow = omega arith;
    matches_grow = omega arith;
    channels = refl;
    properties = refl;
    days = refl;
    cents = refl;
    statuses = refl;
    matched = refl;
    wakers = refl;
    units = refl;
    chords = refl;
    messages = refl;
    recorded = refl;
    stays_closed = λ e. e;
    close_day = λ e. refl;
  }

  module _ (k : Call) where
    -- the call is refused for its board
    pub plays-refused : (f : ℕ) → f ≡ refusal_of s h → f ≢ 0 → Plays s h k (Refused f) h
    plays-refused zero e n = absurd (n refl)
    plays-refused (suc f) e n = record {
      says = rw (← e);
      leaves = λ z. absurd (omega (arith, z, e));
      keeps = λ _. refl;
      accepted = λ z. z;
      beyond = beyond-same;
      others = λ j _. row_same (row_at h j);
      records = λ x. absurd (omega (arith, x));
    }

    module _ (z : refusal_of s h ≡ 0) where
      -- the call alters nothing
      pub plays-nothing : (w : Said) → w ≡ (answer_to (table_of s) (board_of s h) k).said
          → board_of s h ≡ (answer_to (table_of s) (board_of s h) k).board → Plays s h k w h
      plays-nothing w e q = record {
        says = rw z e;
        leaves = λ _. q;
        keeps = λ _. refl;
        accepted = λ x. x;
        beyond = beyond-same;
        others = λ j _. row_same (row_at h j);
        records = λ x. absurd (omega (arith, x));
      }

      -- the call is carried out
      pub plays-it : (w : Said) (h' : Held) → w ≡ (answer_to (table_of s) (board_of s h) k).said → number_of w ≡ 0
          → board_of s h' ≡ (answer_to (table_of s) (board_of s h) k).board → Lengths h'.columns h'.matches
          → statuses_ok h'.board.messages h'.columns.statuses ≡ true → Beyond h h'
          → ((j : ℕ) → j ≢ caller_of k → SameRow (row_at h j) (row_at h' j)) → Records (caller_of k) h h'
          → Plays s h k w h'
      plays-it w h' e n q l u y r v = record {
        says = rw z e;
        leaves = λ _. q;
        keeps = λ x. absurd (x n);
        accepted = λ _. accepts s h' (table-accepted s _ _ _ z) l u
            (ap (sound (table_of s)) q ∙ call-sound (table_of s) (board_of s h) k (board-sound s _ _ _ z));
        beyond = y;
        others = r;
        records = v;
      }
