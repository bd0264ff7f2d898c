-- What the reads of lists that the first tests accept answer, by their parts.
use mathlib.Core.Path.{◌≡◌, ap, sym, subst, ◌∙◌}
use mathlib.Core.List.{List}
use Prim.Native.Nat.{ℕ, ◌+◌, ◌*◌, ◌<◌, ◌≤◌}
use native.Mathlib.Omega.{arith}
use borrow.Author.Tests.{leb-true}
use lib.Dec.{leb}
use lib.IntN.{ℤ, pos}
use lib.ListN.{length, get_or, take}
use lib.Seq.{get_or-take, length-take-le}
use Rattle.model.specs.Tables.{Table}
use Rattle.model.specs.Layout.{table_refusal, table_of}
use Rattle.model.specs.Boards as MB
use Rattle.model.specs.Pools.{MatchRead, no_read, read_match, quiet}
use Rattle.model.proofs.Lists.{every-nth}
use Rattle.columns.specs.Columns.{columns_of, message_in}
use Rattle.columns.specs.MatchColumns.{matches_of, match_in}
use Rattle.boards.specs.Calls.{Held}
use Rattle.boards.specs.Layout.{Lists, board_len, columns_in, matches_in}
use Rattle.rows.specs.Decoded.{board_from}
use Rattle.rows.proofs.WalkLaws.{all-numbers}
use Rattle.refusals.specs.Judged.{statuses_ok}
use Rattle.refusals.specs.Held.{held_of, held_in, Accepted}
use Rattle.refusals.specs.Calls.{board_of, refusal_of}
use Rattle.refusals.proofs.HeldLaws.{held-is, accepted-lists, columns-sized}
use Rattle.refusals.proofs.Refusals.{table-accepted, statuses-known, sound-board, messages_few, matches_few}
use Rattle.reads.specs.Reads.{Readable}
use Rattle.reads.proofs.BoardLaws.{message-at, match-at, cents-at, readable}
use Rattle.calls.specs.Reads.{quiet_answer, reply_number, reply_answer, message_number, message_answer}
use Rattle.calls.specs.Reads.{match_number, match_answer}
use Rattle.calls.proofs.ReadLaws as Reads
use Rattle.calls.proofs.SenderRows.{reply-at}

-- a match's columns that are equal to others
pub readable-by : {ch ch' me me' : List ℕ} {t : Table} {k n : ℕ} {cents : List ℤ} → ch ≡ ch' → me ≡ me'
    → Readable t (matches_of ch' me') k n cents → Readable t (matches_of ch me) k n cents
readable-by e f r = rw (e, f) r

pub match-by : {ch ch' me me' : List ℕ} (t : Table) (k : ℕ) {C : MB.Board → Type 0} {r : MatchRead} → ch ≡ ch'
    → me ≡ me' → ((b : MB.Board) → C b → r ≡ read_match t b (match_in t (matches_of ch me) k))
    → (b : MB.Board) → C b → r ≡ read_match t b (match_in t (matches_of ch' me') k)
match-by t k e f p = rw (← e, ← f) p

-- a message's columns likewise
pub message-by : {ch ch' pr pr' st st' ma ma' wa wa' us us' : List ℕ} (k : List ℤ) (n : ℕ) {r : MB.Message} → ch ≡ ch'
    → pr ≡ pr' → st ≡ st' → ma ≡ ma' → wa ≡ wa' → us ≡ us' → r ≡ message_in (columns_of ch pr k st ma wa us) n
    → r ≡ message_in (columns_of ch' pr' k st' ma' wa' us') n
message-by k n a b c d e f p = rw (← a, ← b, ← c, ← d, ← e, ← f) p

module _ (s : List ℕ) (l : Lists) (z : refusal_of s (held_in l) ≡ 0) where
  pub passed : Accepted s l
  passed = accepted-lists s l z

  -- what is so of what the lists hold
  on-held : (P : Held → Type 0) → P (held_of l) → P (held_in l)
  on-held P p = subst P (sym (held-is l passed.numbers passed.sized)) p

  pub numbers_len : length l.board ≡ board_len
  numbers_len = (all-numbers l.board passed.numbers).0

  pub table-passed : table_refusal s ≡ 0
  table-passed = table-accepted s (held_of l).board (columns_in l) (matches_in l) passed.accepted

  -- the counts
  messages-are : (held_in l).board.messages ≡ get_or l.board 0 0
  unfolding board_from
  messages-are = ap (λ (h : Held). h.board.messages) (held-is l passed.numbers passed.sized)

  matches-are : (held_in l).board.matches ≡ get_or l.board 1 0
  unfolding board_from
  matches-are = ap (λ (h : Held). h.board.matches) (held-is l passed.numbers passed.sized)

  pub messages-within : get_or l.board 0 0 ≤ 1024
  unfolding board_from
  messages-within = messages_few s (held_of l).board (columns_in l) (matches_in l) passed.accepted

  pub quiet_is : quiet (board_of s (held_of l)) ≡ quiet_answer s (held_in l)
  quiet_is =
      on-held (λ (h : Held). quiet (board_of s (held_of l)) ≡ quiet_answer s h)
      (Reads.quiet_is s (held_of l) passed.accepted)

  pub reply_is : (i : ℕ) → i < 32 → (0 ≡ reply_number s (held_in l) i)
      × (get_or l.board (2 + 21 * i + 4) 0 ≡ reply_answer s (held_in l) i)
  reply_is i h =
      let r = Reads.reply_is s (held_of l) passed.accepted i h in
      on-held (λ (x : Held). (0 ≡ reply_number s x i) × (get_or l.board (2 + 21 * i + 4) 0 ≡ reply_answer s x i))
      (r.0, reply-at l.board i h ∙ r.1)

  pub message-none : (n : ℕ) → get_or l.board 0 0 ≤ n
      → (14 ≡ message_number s (held_in l) n) × (MB.no_message ≡ message_answer s (held_in l) n)
  message-none n h = Reads.message-none s (held_in l) z n (omega (arith, messages-are))

  pub message-is : (n : ℕ) → n < get_or l.board 0 0 → (r : MB.Message) → r ≡ message_in (columns_in l) n
      → (0 ≡ message_number s (held_in l) n) × (r ≡ message_answer s (held_in l) n)
  unfolding board_from
  message-is n h r w =
      let a = Reads.message-is s (held_of l) passed.accepted n h in
      let e = message-at (table_of s) (held_of l).board (columns_in l) (matches_in l) n h in
      on-held (λ (x : Held). (0 ≡ message_number s x n) × (r ≡ message_answer s x n)) (a.0, w ∙ e ∙ a.1)

  -- the byte of a message is a status
  pub status-known : (n : ℕ) → n < get_or l.board 0 0 → get_or (columns_in l).statuses n 0 ≤ 3
  unfolding board_from statuses_ok
  status-known n h =
      let st = (columns_in l).statuses in
      let m = get_or l.board 0 0 in
      let k = length-take-le m st (omega (arith, messages-within, (columns-sized l passed.sized).statuses_len)) in
      let a = statuses-known s (held_of l).board (columns_in l) (matches_in l) passed.accepted in
      let p = every-nth (λ x. leb x 3) (take m st) 0 a n (rw k h) in
      leb-true _ 3 (rw (get_or-take m st n 0 h) at p)

  pub match_none : (k : ℕ) → get_or l.board 1 0 ≤ k
      → (15 ≡ match_number s (held_in l) k) × (no_read ≡ match_answer s (held_in l) k)
  match_none k h = Reads.match_none s (held_in l) z k (omega (arith, matches-are))

  module _ (k : ℕ) (h : k < get_or l.board 1 0) where
    pub match-readable : Readable (table_of s) (matches_in l) k (get_or l.board 0 0) l.cents
    unfolding board_from
    match-readable =
        let b = (held_of l).board in
        let a = passed.accepted in
        let n = columns-sized l passed.sized in
        let o = matches_few s b (columns_in l) (matches_in l) a in
        readable (table_of s) b (columns_in l) (matches_in l) (sound-board s b (columns_in l) (matches_in l) a) k h
        (omega (arith, h, o, n.chords-len)) (omega (arith, h, o, n.messages_len))
        (omega (arith, messages-within, n.cents-len))

    -- a read that is the match on any board of these cents
    pub match_is : (r : MatchRead)
        → ((b : MB.Board)
        → ((i : ℕ) → i < get_or l.board 0 0 → (MB.message_at b i).sent.cents ≡ get_or l.cents i (pos 0))
        → r ≡ read_match (table_of s) b (match_in (table_of s) (matches_in l) k))
        → (0 ≡ match_number s (held_in l) k) × (r ≡ match_answer s (held_in l) k)
    unfolding board_from
    match_is r says =
        let t = table_of s in
        let b = board_of s (held_of l) in
        let e = match-at t (held_of l).board (columns_in l) (matches_in l) k h in
        let a = Reads.match_is s (held_of l) passed.accepted k h in
        let w = says b (cents-at t (held_of l).board (columns_in l) (matches_in l)) in
        on-held (λ (x : Held). (0 ≡ match_number s x k) × (r ≡ match_answer s x k))
        (a.0, w ∙ ap (read_match t b) e ∙ a.1)
