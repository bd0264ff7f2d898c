-- A replay (rule 6.7): calls lent in rows, played one after another on a board that is tested once.
use Rattle.std.specs.Prelude.{◌≡◌, ◌≢◌, Bool, List, [], ◌∷◌, ◌++◌, map, ℕ, ◌+◌, ◌*◌, ◌<◌, ◌≤◌, eqb, leb, ℤ, pos, length}
use Rattle.std.specs.Prelude.{get_or, drop}
use Rattle.model.specs.Basics.{all_of, pick, unless, first_of}
use Rattle.model.specs.Layout.{table_of}
use Rattle.model.specs.Effects.{Said, word_of, value_of, number_of}
use Rattle.model.specs.Pools.{Call, adds, steps, closes, Exchange, after_all, history}
use Rattle.columns.specs.Columns.{list_from}
use Rattle.boards.specs.Calls.{Held, call_in}
use Rattle.refusals.specs.Calls.{board_of, refusal_of, Beyond, caller_of, row_at, SameRow, Plays}
use Rattle.plays.specs.declared.Row as DR
use Rattle.plays.specs.declared.Row.TheVariants as R

-- the lent calls, a row each: of `calls` the kind, the sender, the channel and the unit, of `numbers` the property and
-- the day
pub record CallRows : Type 0 where
  pub calls : List ℕ
  pub numbers : List ℕ
  pub amounts : List ℤ

abbrev pub call_rows : List ℕ → List ℕ → List ℤ → CallRows
call_rows calls numbers amounts = record { calls = calls; numbers = numbers; amounts = amounts }

abbrev pub calls_len : CallRows → ℕ
calls_len c = length c.amounts

-- row k, its kind and its day
abbrev pub kind_at : CallRows → ℕ → ℕ
kind_at c k = get_or c.calls (4 * k) 0

abbrev pub day_at : CallRows → ℕ → ℕ
day_at c k = get_or c.numbers (2 * k + 1) 0

-- a sender's call: kind 0 is a step, any other an add
unfoldable pub sender_call : CallRows → ℕ → Call
sender_call c k =
    pick (eqb (kind_at c k) 0) (steps (get_or c.calls (4 * k + 1) 0))
    (adds (get_or c.calls (4 * k + 1) 0)
    (record {
      channel = get_or c.calls (4 * k + 2) 0;
      property = get_or c.numbers (2 * k) 0;
      cents = get_or c.amounts k (pos 0);
      day = day_at c k;
      unit = get_or c.calls (4 * k + 3) 0;
    }))

-- kind 2 is a close, which no sender makes
abbrev pub call_at : CallRows → ℕ → Call
call_at c k = pick (eqb (kind_at c k) 2) (closes (day_at c k)) (sender_call c k)

-- the call that a row is
abbrev pub row_in : DR.Row → Call
row_in (R.Close day) = closes day
row_in (R.Of call) = call_in call

abbrev pub calls_of : CallRows → List Call
calls_of c = list_from (call_at c) 0 (calls_len c)

-- sender j makes none of the first n calls
abbrev pub Silent : CallRows → ℕ → ℕ → Type 0
Silent c n j = (k : ℕ) → k < n → j ≢ caller_of (call_at c k)

-- the three lists have as many rows
unfoldable pub rows_fit : CallRows → Bool
rows_fit c = all_of (eqb (length c.calls) (4 * calls_len c) ∷ eqb (length c.numbers) (2 * calls_len c) ∷ [])

-- an answer as one number: the word, and beside it the value or the refusal's number, of which one is 0
unfoldable pub answer_number : Said → ℕ
answer_number w = word_of w * 65536 + (value_of w + number_of w)

abbrev pub answer_numbers : List Exchange → List ℕ
answer_numbers es = map (λ e. answer_number e.said) es

-- rule 6.7: the refusal of the board, then 30 for rows that do not fit, then 31 for no room for the answers
abbrev pub refusal_after : ℕ → CallRows → ℕ → ℕ
refusal_after f c room = first_of f (unless (rows_fit c) 30 (unless (leb (calls_len c) room) 31 0))

abbrev pub replay_number : List ℕ → Held → CallRows → ℕ → ℕ
replay_number s h c room = refusal_after (refusal_of s h) c room

-- the rows fit, and there is room for the answers
pub record Fit (c : CallRows) (room : ℕ) : Type 0 where
  pub calls-len : length c.calls ≡ 4 * calls_len c
  pub numbers_len : length c.numbers ≡ 2 * calls_len c
  pub answers_all : calls_len c ≤ room

-- rule 7.1: the calls, and what is said to them, from h to h'; each call is played on what the one before left
abbrev pub PlaysInTurn : List ℕ → Held → List Call → List Said → Held → Type 0
PlaysInTurn s h [] ws h' = (ws ≡ []) × (h' ≡ h)
PlaysInTurn s h (k ∷ ks) [] h' = ⊥
PlaysInTurn s h (k ∷ ks) (w ∷ ws) h' = (g : Held) × Plays s h k w g × PlaysInTurn s g ks ws h'

-- all calls c played on h leave h', and turn the lent answers from before to after
pub record PlaysAll (s : List ℕ) (h : Held) (c : CallRows) (before after : List ℕ) (h' : Held) : Type 0 where
  pub said : List Said
  pub turns : PlaysInTurn s h (calls_of c) said h'
  pub answers : after ≡ map answer_number said ++ drop (calls_len c) before
  -- so the calls are the model's schedule
  pub leaves : board_of s h' ≡ after_all (table_of s) (board_of s h) (calls_of c)
  pub says : after
      ≡ answer_numbers (history (table_of s) (board_of s h) (calls_of c)) ++ drop (calls_len c) before
  pub accepted : refusal_of s h' ≡ 0
  pub beyond : Beyond h h'
  pub others : (j : ℕ) → Silent c (calls_len c) j → SameRow (row_at h j) (row_at h' j)

-- a replay of the calls c on h answers f, leaves h', and turns the lent answers from before to after
pub record Replays (s : List ℕ) (h : Held) (c : CallRows) (before after : List ℕ) (f : ℕ) (h' : Held) : Type 0 where
  pub number : f ≡ replay_number s h c (length before)
  -- rule 6.1
  pub keeps : f ≢ 0 → (h' ≡ h) × (after ≡ before)
  pub plays : f ≡ 0 → PlaysAll s h c before after h'
  pub beyond : Beyond h h'
  pub others : (j : ℕ) → Silent c (calls_len c) j → SameRow (row_at h j) (row_at h' j)
