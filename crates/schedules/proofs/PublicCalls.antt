-- Public calls one after another are the model's schedule, and so keep demand 3.
use mathlib.Core.Path.{◌≡◌, refl, sym, ap, subst, ◌∙◌}
use mathlib.Core.Logic.{◌≢◌}
use mathlib.Core.Bool.{true}
use mathlib.Core.List.{List, [], ◌∷◌, ◌++◌}
use Prim.Native.Nat.{ℕ, zero, suc, ◌≤◌}
use native.Mathlib.Omega.{arith}
use lib.ListN.{get_or, drop}
use Rattle.model.specs.Layout.{table_of, table_refusal}
use Rattle.model.specs.Tables.{Table}
use Rattle.model.specs.Boards.{Board, Sender, empty_board, no_match, backoffs_pass}
use Rattle.model.specs.Effects.{Said, number_of, Ended}
use Rattle.model.specs.Pools.{Call, Exchange, answer_to, after_all, history, quiet, no_read, read_match}
use Rattle.model.proofs.Lists.{nth-map}
use Rattle.model.proofs.Demand.{demand-3}
use Rattle.columns.specs.MatchColumns.{match_in}
use Rattle.columns.proofs.ListFrom.{length_from}
use Rattle.columns.proofs.Messages.{length-messages}
use Rattle.boards.specs.Calls.{Held}
use Rattle.boards.proofs.SenderLaws.{nth-sender}
use Rattle.rows.specs.Numbers.{board_numbers}
use Rattle.rows.specs.Fresh.{fresh_board}
use Rattle.refusals.specs.Calls.{board_of, refusal_of, Plays}
use Rattle.boards.specs.Layout.{Lists}
use Rattle.refusals.specs.Held.{held_in}
use Rattle.refusals.proofs.HeldLaws.{held-is}
use Rattle.plays.specs.Replays.{calls_len, calls_of, answer_numbers}
use Rattle.calls.proofs.OpenLaws.{unrefused, opened-empty, opened-accepted}
use Rattle.calls.proofs.ReadLaws.{match_is, message-is, reply_is, quiet_is}
use Rattle.schedules.specs.Schedules.{CallsInTurn, IsSchedule, ReadsAs, KeepsDemand3, Opened, PublicCalls}
use Rattle.model.proofs.Numbers.{answer-few}

-- one call on an accepted board says what the model says
module _ (s : List ℕ) (h : Held) (k : Call) (w : Said) (g : Held) (e : refusal_of s h ≡ 0) (p : Plays s h k w g) where
  pub said-is : w ≡ (answer_to (table_of s) (board_of s h) k).said
  said-is = rw e at p.says

  not-30 : number_of w ≢ 30
  not-30 q = omega (arith, ap number_of said-is, answer-few (table_of s) (board_of s h) k)

schedule : (s : List ℕ) (l : Lists) (ks : List Call) (ws : List Said) (l' : Lists) → refusal_of s (held_in l) ≡ 0
    → CallsInTurn s l ks ws l' → IsSchedule s (held_in l) ks ws (held_in l')
schedule s l [] ws l' e p = record {
  says = refl;
  leaves = ap (λ (x : Lists). board_of s (held_in x)) p.1;
  accepted = ap (λ (x : Lists). refusal_of s (held_in x)) p.1 ∙ e;
  never_30 = λ n q. nothing n (ap (λ (x : List Said). number_of (get_or x n Ended)) (sym p.0) ∙ q);
}
  where
    nothing : (n : ℕ) → number_of (get_or [] n Ended) ≢ 30
    nothing n q = absurd (omega (arith, q))
schedule s l (k ∷ ks) [] l' e p = absurd p
schedule s l (k ∷ ks) (w ∷ ws) l' e (g, c, rest) =
    let p = c.plays in
    let r = schedule s g ks ws l' (p.accepted e) rest in
    let q = p.leaves e in
    record {
      says = rw (said-is s (held_in l) k w (held_in g) e p, r.says, q);
      leaves = r.leaves ∙ ap (λ (b : Board). after_all (table_of s) b ks) q;
      accepted = r.accepted;
      never_30 = never r;
    }
  where
    never : IsSchedule s (held_in g) ks ws (held_in l') → (n : ℕ) → number_of (get_or (w ∷ ws) n Ended) ≢ 30
    never r zero = not-30 s (held_in l) k w (held_in g) e c.plays
    never r (suc n) = r.never_30 n

-- the reads of an accepted board
reads_as : (s : List ℕ) (h : Held) → refusal_of s h ≡ 0 → ReadsAs s h (board_of s h)
reads_as s h e =
    let t = table_of s in
    let b = board_of s h in
    record {
      match-reads = λ k l.
          sym (match_is s h e k (omega (arith, l, length_from (match_in t h.matches) 0 h.board.matches))).1
          ∙ sym (nth-map (read_match t b) b.matches k no_match no_read l);
      message_reads = λ n l.
          sym (message-is s h e n (omega (arith, l, length-messages h.columns 0 h.board.messages))).1;
      reply_reads = λ i l. sym (reply_is s h e i l).1
          ∙ ap (λ (d : Sender). d.reply) (nth-sender t h.board.senders i);
      quiet_reads = sym (quiet_is s h e);
    }

few-said : (t : Table) (b : Board) (ks : List Call) (n : ℕ) (z : Exchange) → number_of z.said ≡ 0
    → number_of (get_or (history t b ks) n z).said ≤ 26
few-said t b [] n z e = omega (arith, e)
few-said t b (k ∷ ks) zero z e = answer-few t b k
few-said t b (k ∷ ks) (suc n) z e = few-said t (answer_to t b k).board ks n z e

pub table-opened : (s rests : List ℕ) (l : Lists) → Opened s rests l
    → (table_refusal s ≡ 0) × (backoffs_pass rests ≡ true) × (l.board ≡ board_numbers (fresh_board rests))
table-opened s rests l o =
    let a = unrefused s rests o.before o.opens in (a.0, a.1, o.board ∙ a.2)

pub opened : (s rests : List ℕ) (l : Lists) → Opened s rests l
    → (refusal_of s (held_in l) ≡ 0) × (board_of s (held_in l) ≡ empty_board rests)
opened s rests l o =
    let t = table-opened s rests l o in
    let a = opened-accepted s rests t.1 l t.2 t.0 o.sized in
    rw (held-is l a.numbers a.sized) (a.accepted, opened-empty s rests t.1 l t.2)

-- a board that the calls lead to, accepted
pub demand : (s rests : List ℕ) (l : Lists) (ks : List Call) (h : Held) → Opened s rests l → refusal_of s h ≡ 0
    → board_of s h ≡ after_all (table_of s) (board_of s (held_in l)) ks → KeepsDemand3 s rests ks h
demand s rests l ks h o a e =
    let t = table_of s in
    let z = (table-opened s rests l o).0 in
    let q = e ∙ ap (λ (b : Board). after_all t b ks) (opened s rests l o).1 in
    record {
      leaves = q;
      reads = subst (ReadsAs s h) q (reads_as s h a);
      accepted = a;
      run = demand-3.runs s rests ks z;
      quietly = λ y. demand-3.quietly s rests ks z (sym (ap quiet q) ∙ y);
    }

pub public-calls : PublicCalls
public-calls = record {
  schedule = schedule;
  opened = opened;
  demand = λ s rests l ks ws l' o p.
      let r = schedule s l ks ws l' (opened s rests l o).0 p in
      (r, demand s rests l ks (held_in l') o r.accepted r.leaves);
  replayed = λ s rests l c before after l' o p.
      let r = p.replays.plays refl in (
        demand s rests l (calls_of c) (held_in l') o r.accepted r.leaves,
        r.says
            ∙ ap (λ (b : Board). answer_numbers (history (table_of s) b (calls_of c)) ++ drop (calls_len c) before)
            (opened s rests l o).1,
      );
  history_never_30 = λ s h ks n z e q. omega (arith, q, few-said (table_of s) (board_of s h) ks n z e);
}
