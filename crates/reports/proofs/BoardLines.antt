-- The lines of the report on accepted lists, one by one.
use mathlib.Core.Path.{◌≡◌, refl, ap, sym, ◌∙◌}
use mathlib.Core.Bool.{Bool, true, false}
use mathlib.Core.List.{List, [], ◌∷◌, ◌++◌}
use Prim.Native.Nat.{ℕ, zero, suc, ◌+◌, ◌<◌, ◌≤◌}
use native.Mathlib.Nat.{not-suc-le-zero, le_of_suc-le-suc}
use native.Mathlib.Omega.{arith}
use borrow.Author.Rules.{rules}
use lib.ListN.{length, get_or, length-map, length-append, get_or-map, get_or-append}
use lib.Seq.{get_or_at}
use Rattle.model.specs.Tables.{Table}
use Rattle.model.specs.Boards as MB
use Rattle.model.specs.Pools.{read_match, match_reads, quiet}
use Rattle.model.specs.Printing.{match_line, open_line, quiet_line}
use Rattle.model.proofs.Parts.{nth-second}
use Rattle.columns.specs.Columns.{Columns, message_in, status_of}
use Rattle.columns.specs.MatchColumns.{MatchColumns, match_in}
use Rattle.columns.proofs.ListFrom.{length_from}
use Rattle.columns.proofs.Messages.{length-messages, nth-message}
use Rattle.boards.specs.Boards.{HeldBoard, board_in}
use Rattle.reads.proofs.BoardLaws.{match-at}
use Rattle.reports.specs.Parts.{item_line, message_line, numbered, report_lines}

-- a consumed message has no line, another has one
pub item-none : (n s : ℕ) → 3 ≤ s → item_line n (status_of s) ≡ []
item-none n zero h = absurd (omega arith)
item-none n (suc zero) h = absurd (omega arith)
item-none n (suc (suc zero)) h = absurd (omega arith)
item-none n (suc (suc (suc s))) h = refl

pub item-line : (n s : ℕ) → s < 3 → item_line n (status_of s) ≡ open_line n (status_of s)
item-line n zero h = refl
item-line n (suc zero) h = refl
item-line n (suc (suc zero)) h = refl
item-line n (suc (suc (suc s))) h = absurd (omega arith)

pub quiet_short : (q : Bool) → length (quiet_line q) ≤ 10
quiet_short true = search rules
quiet_short false = search rules

module _ {A : Type 0} (f : ℕ → A → List ℕ) where
  numbered-count : (k : ℕ) (xs : List A) → length (numbered f k xs) ≡ length xs
  numbered-count k [] = refl
  numbered-count k (x ∷ xs) = ap suc (numbered-count (suc k) xs)

  numbered-at : (k : ℕ) (xs : List A) (n : ℕ) (d : A) (i : ℕ) → i ≡ k + n → n < length xs
      → get_or (numbered f k xs) n [] ≡ f i (get_or xs n d)
  numbered-at k [] n d i e h = absurd (not-suc-le-zero h)
  numbered-at k (x ∷ xs) zero d i e h = let z : i ≡ k = omega (arith, e) in rw z
  numbered-at k (x ∷ xs) (suc n) d i e h =
      numbered-at (suc k) xs n d i (omega (arith, e)) (le_of_suc-le-suc h)

module _ (t : Table) (b : HeldBoard) (c : Columns) (m : MatchColumns) where
  abbrev on : MB.Board
  on = board_in t b c m

  abbrev firsts : List (List ℕ)
  firsts = numbered match_line 0 (match_reads t on)

  abbrev items : List (List ℕ)
  items = numbered message_line 0 on.messages

  firsts-count : length firsts ≡ b.matches
  firsts-count =
      numbered-count match_line 0 (match_reads t on) ∙ length-map on.matches (read_match t on)
      ∙ length_from (match_in t m) 0 b.matches

  items-count : length items ≡ b.messages
  items-count = numbered-count message_line 0 on.messages ∙ length-messages c 0 b.messages

  pub lines-count : length (report_lines t on) ≡ b.matches + b.messages + 1
  unfolding report_lines
  lines-count =
      let e = length-append firsts (items ++ (quiet_line (quiet on) ∷ [])) in
      let f = length-append items (quiet_line (quiet on) ∷ []) in
      omega (arith, e, f, firsts-count, items-count)

  read_at : (n : ℕ) → n < b.matches
      → read_match t on (match_in t m n) ≡ get_or (match_reads t on) n (read_match t on MB.no_match)
  read_at n h =
      ap (read_match t on) (match-at t b c m n h)
      ∙ sym (get_or-map (read_match t on) on.matches n MB.no_match)

  pub match-line : (n : ℕ) → n < b.matches
      → match_line n (read_match t on (match_in t m n)) ≡ get_or (report_lines t on) n []
  unfolding report_lines
  match-line n h =
      let l : n < length firsts = omega (arith, firsts-count) in
      let k : n < length (match_reads t on)
      = omega (arith, l, numbered-count match_line 0 (match_reads t on)) in
      ap (match_line n) (read_at n h)
      ∙ sym (numbered-at match_line 0 (match_reads t on) n (read_match t on MB.no_match) n (omega arith) k)
      ∙ sym (get_or-append firsts (items ++ (quiet_line (quiet on) ∷ [])) [] n l)

  pub open-line : (i n : ℕ) → i ≡ b.matches + n → n < b.messages
      → item_line n (status_of (get_or c.statuses n 0)) ≡ get_or (report_lines t on) i []
  unfolding report_lines message_in
  open-line i n e h =
      let l : n < length items = omega (arith, items-count) in
      let k : n < length on.messages = omega (arith, l, numbered-count message_line 0 on.messages) in
      sym
      (nth-second firsts (items ++ (quiet_line (quiet on) ∷ [])) i n [] (omega (arith, e, firsts-count))
      ∙ get_or-append items (quiet_line (quiet on) ∷ []) [] n l
      ∙ numbered-at message_line 0 on.messages n MB.no_message n (omega arith) k
      ∙ ap (message_line n) (nth-message c b.messages n h))

  pub last_line : (i : ℕ) → i ≡ b.matches + b.messages → quiet_line (quiet on) ≡ get_or (report_lines t on) i []
  unfolding report_lines
  last_line i e =
      sym
      (nth-second firsts (items ++ (quiet_line (quiet on) ∷ [])) i b.messages [] (omega (arith, e, firsts-count))
      ∙ get_or_at items (quiet_line (quiet on)) [] [] b.messages items-count)
