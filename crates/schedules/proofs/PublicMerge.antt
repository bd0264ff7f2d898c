-- Public calls are the model's schedule, so the law of a merge holds of what they return.
use mathlib.Core.Path.{◌≡◌, sym, ap, subst, ◌∙◌}
use mathlib.Core.List.{List, [], ◌∷◌, ◌++◌}
use Prim.Native.Nat.{ℕ}
use lib.ListN.{length, get_or, drop}
use Rattle.model.specs.Layout.{table_of}
use Rattle.model.specs.Boards.{Board, empty_board}
use Rattle.model.specs.Effects.{Said, Ended}
use Rattle.model.specs.Pools.{Call, Exchange, MatchRead, history, match_reads, no_read}
use Rattle.model.specs.Demands.{board_after}
use Rattle.model.proofs.Tests.{by-range}
use Rattle.merging.specs.Merges.{merge_refusal, merged_bytes, SameSchedule}
use Rattle.merging.proofs.Theorem.{merges}
use Rattle.boards.specs.Calls.{Held}
use Rattle.boards.specs.Layout.{Lists}
use Rattle.refusals.specs.Held.{held_in}
use Rattle.refusals.specs.Calls.{board_of}
use Rattle.calls.specs.Reads.{match_number, match_answer, message_number, message_answer, reply_number, reply_answer}
use Rattle.calls.proofs.ReadLaws.{match_is, match_none, message-is, message-none, reply_is, reply-none}
use Rattle.plays.specs.Replays.{calls_len, calls_of, answer_numbers}
use Rattle.schedules.specs.Schedules.{CallsInTurn, exchanges, Opened, ReadsAs, KeepsDemand3}
use Rattle.schedules.specs.Merged.{Alike, ReadsAlike, OwnCalls, MergedCalls}
use Rattle.schedules.proofs.PublicCalls.{public-calls}
use Rattle.schedules.proofs.HeldParts.{messages-held, matches-held}

-- boards h and g that the same calls lead to, under the first table and under the merged one
module _ (s z ms rests : List ℕ) (ks : List Call) (h g : Held) (e : merge_refusal s z ms ≡ 0) (o : OwnCalls s z ms ks)
    (d : KeepsDemand3 s rests ks h) (d' : KeepsDemand3 (merged_bytes s z ms) rests ks g) where
  abbrev v : List ℕ
  v = merged_bytes s z ms

  abbrev b : Board
  b = board_after (table_of s) rests ks

  abbrev m : SameSchedule (table_of s) (table_of v) rests ks
  m = merges.same s z ms rests ks e o

  merged-leaves : board_of v g ≡ b
  merged-leaves = d'.leaves ∙ m.board

  merged-reads : ReadsAs v g b
  merged-reads = subst (ReadsAs v g) m.board d'.reads

  reads_same : match_reads (table_of v) b ≡ match_reads (table_of s) b
  reads_same = ap (match_reads (table_of v)) (sym m.board) ∙ m.reads

  messages-first : length b.messages ≡ h.board.messages
  messages-first = messages-held s h b d.leaves

  messages-merged : length b.messages ≡ g.board.messages
  messages-merged = messages-held v g b merged-leaves

  matches-first : length b.matches ≡ h.board.matches
  matches-first = matches-held s h b d.leaves

  matches-merged : length b.matches ≡ g.board.matches
  matches-merged = matches-held v g b merged-leaves

  -- in range the reads are those of one board, past it they are refused alike
  match-alike : (k : ℕ) → Alike match_number s h v g k × Alike match_answer s h v g k
  match-alike k =
      by-range k (length b.matches)
      (λ l.
      let x = match_is s h d.accepted k (rw matches-first at l) in
      let y = match_is v g d'.accepted k (rw matches-merged at l) in
      let r = ap (λ (xs : List MatchRead). get_or xs k no_read) reads_same in
      (sym y.0 ∙ x.0, merged-reads.match-reads k l ∙ r ∙ sym (d.reads.match-reads k l)))
      (λ l.
      let x = match_none s h d.accepted k (rw matches-first at l) in
      let y = match_none v g d'.accepted k (rw matches-merged at l) in
      (sym y.0 ∙ x.0, sym y.1 ∙ x.1))

  message-alike : (n : ℕ) → Alike message_number s h v g n × Alike message_answer s h v g n
  message-alike n =
      by-range n (length b.messages)
      (λ l.
      let x = message-is s h d.accepted n (rw messages-first at l) in
      let y = message-is v g d'.accepted n (rw messages-merged at l) in
      (sym y.0 ∙ x.0, merged-reads.message_reads n l ∙ sym (d.reads.message_reads n l)))
      (λ l.
      let x = message-none s h d.accepted n (rw messages-first at l) in
      let y = message-none v g d'.accepted n (rw messages-merged at l) in
      (sym y.0 ∙ x.0, sym y.1 ∙ x.1))

  reply-alike : (i : ℕ) → Alike reply_number s h v g i × Alike reply_answer s h v g i
  reply-alike i =
      by-range i 32
      (λ l.
      let x = reply_is s h d.accepted i l in
      let y = reply_is v g d'.accepted i l in
      (sym y.0 ∙ x.0, merged-reads.reply_reads i l ∙ sym (d.reads.reply_reads i l)))
      (λ l.
      let x = reply-none s h d.accepted i l in
      let y = reply-none v g d'.accepted i l in
      (sym y.0 ∙ x.0, sym y.1 ∙ x.1))

  alike : ReadsAlike s h v g
  alike = record {
    board = merged-leaves ∙ sym d.leaves;
    match-reads = match-alike;
    message_reads = message-alike;
    reply_reads = reply-alike;
    quiet_reads = merged-reads.quiet_reads ∙ sym d.reads.quiet_reads;
  }

-- answers to the same calls that make the same exchanges
said-first : List Exchange → Said
said-first [] = Ended
said-first (x ∷ xs) = x.said

rest : List Exchange → List Exchange
rest [] = []
rest (x ∷ xs) = xs

same-said : (s z : List ℕ) (l l' m m' : Lists) (ks : List Call) (ws vs : List Said) → CallsInTurn s l ks ws l'
    → CallsInTurn z m ks vs m' → exchanges ks vs ≡ exchanges ks ws → vs ≡ ws
unfolding said-first rest
same-said s z l l' m m' [] ws vs p q e = q.0 ∙ sym p.0
same-said s z l l' m m' (k ∷ ks) [] vs p q e = absurd p
same-said s z l l' m m' (k ∷ ks) (w ∷ ws) [] p q e = absurd q
same-said s z l l' m m' (k ∷ ks) (w ∷ ws) (v ∷ vs) p q e =
    let a : v ≡ w = ap said-first e in
    rw (a, same-said s z p.0 l' q.0 m' ks ws vs p.2 q.2 (ap rest e))

says_is : (s rests : List ℕ) (l l' : Lists) (ks : List Call) (ws : List Said) → Opened s rests l
    → CallsInTurn s l ks ws l'
    → exchanges ks ws ≡ history (table_of s) (empty_board rests) ks
says_is s rests l l' ks ws o p =
    (public-calls.demand s rests l ks ws l' o p).0.says
    ∙ ap (λ (b : Board). history (table_of s) b ks) (public-calls.opened s rests l o).1

pub merged-calls : MergedCalls
merged-calls = record {
  same = λ s z ms rests l l' m m' ks ws vs e own o p o' q.
      let t = merged_bytes s z ms in (
        same-said s t l l' m m' ks ws vs p q
            (says_is t rests m m' ks vs o' q
            ∙ (merges.same s z ms rests ks e own).answers
            ∙ sym (says_is s rests l l' ks ws o p)),
        alike s z ms rests ks (held_in l') (held_in m') e own (public-calls.demand s rests l ks ws l' o p).1
            (public-calls.demand t rests m ks vs m' o' q).1,
      );
  replayed = λ s z ms rests l l' m m' c before after after' e own o p o' q.
      let t = merged_bytes s z ms in
      let a = public-calls.replayed s rests l c before after l' o p in
      let b = public-calls.replayed t rests m c before after' m' o' q in (
        b.1
            ∙ ap (λ (xs : List Exchange). answer_numbers xs ++ drop (calls_len c) before)
            (merges.same s z ms rests (calls_of c) e own).answers
            ∙ sym a.1,
        alike s z ms rests (calls_of c) (held_in l') (held_in m') e own a.0 b.0,
      );
}
