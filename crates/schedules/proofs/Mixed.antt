-- Public calls and replays in any mix are one schedule.
use mathlib.Core.Path.{◌≡◌, refl, sym, ap, ◌∙◌}
use mathlib.Core.List.{List, [], ◌∷◌, ◌++◌}
use Prim.Native.Nat.{ℕ, zero, suc}
use native.Mathlib.Omega.{arith}
use lib.ListN.{length, take, drop}
use lib.Seq.{take_at}
use Rattle.model.specs.Tables.{Table}
use Rattle.model.specs.Layout.{table_of}
use Rattle.model.specs.Boards.{Board}
use Rattle.model.specs.Pools.{Call, answer_to, after_all, history}
use Rattle.model.proofs.Schedule.{after-append}
use Rattle.columns.proofs.ListFrom.{length_from}
use Rattle.boards.specs.Layout.{Lists}
use Rattle.refusals.specs.Held.{held_in}
use Rattle.refusals.specs.Calls.{board_of, refusal_of}
use Rattle.plays.specs.Replays.{CallRows, call_at, calls_len, calls_of, answer_number, answer_numbers}
use Rattle.calls.specs.Calls.{ReplaysIn}
use Rattle.schedules.specs.Mixes.{Act, called, replayed, Acts, calls_by, answers_by, calls_in, answers_in}
use Rattle.schedules.specs.Mixes.{MixedCalls}
use Rattle.schedules.proofs.PublicCalls.{said-is, opened, demand}

-- the answers of a schedule, part by part
answers-append : (t : Table) (xs ys : List Call) (b : Board)
    → answer_numbers (history t b (xs ++ ys))
    ≡ answer_numbers (history t b xs) ++ answer_numbers (history t (after_all t b xs) ys)
answers-append t [] ys b = refl
answers-append t (x ∷ xs) ys b =
    ap (λ (r : List ℕ). answer_number (answer_to t b x).said ∷ r) (answers-append t xs ys (answer_to t b x).board)

length-answers : (t : Table) (xs : List Call) (b : Board) → length (answer_numbers (history t b xs)) ≡ length xs
length-answers t [] b = refl
length-answers t (x ∷ xs) b = ap suc (length-answers t xs (answer_to t b x).board)

-- from l to g by calls that give these numbers
pub record IsPart (s : List ℕ) (l : Lists) (ks : List Call) (ns : List ℕ) (g : Lists) : Type 0 where
  pub accepted : refusal_of s (held_in g) ≡ 0
  pub leaves : board_of s (held_in g) ≡ after_all (table_of s) (board_of s (held_in l)) ks
  pub says : ns ≡ answer_numbers (history (table_of s) (board_of s (held_in l)) ks)

module _ (s : List ℕ) where
  part_then : {l g l' : Lists} {ks ks' : List Call} {ns ns' : List ℕ} → IsPart s l ks ns g → IsPart s g ks' ns' l'
      → IsPart s l (ks ++ ks') (ns ++ ns') l'
  part_then {l} {g} {l'} {ks} {ks'} {ns} {ns'} p q =
      let t = table_of s in
      record {
        accepted = q.accepted;
        leaves = q.leaves ∙ ap (λ (b : Board). after_all t b ks') p.leaves
            ∙ sym (after-append t ks ks' (board_of s (held_in l)));
        says = rw (p.says, q.says, p.leaves) (sym (answers-append t ks ks' (board_of s (held_in l))));
      }

  -- a replay, refused or not, is the calls that it played
  replay-part : (l : Lists) (c : CallRows) (before after : List ℕ) (f : ℕ) (g : Lists) → refusal_of s (held_in l) ≡ 0
      → ReplaysIn s l c before after f g → IsPart s l (calls_by f c) (answers_by f c after) g
  replay-part l c before after zero g e p =
      let t = table_of s in
      let q = p.replays.plays refl in
      let ns = answer_numbers (history t (board_of s (held_in l)) (calls_of c)) in
      let n = length-answers t (calls_of c) (board_of s (held_in l)) ∙ length_from (call_at c) 0 (calls_len c) in
      record {
        accepted = q.accepted;
        leaves = q.leaves;
        says = ap (take (calls_len c)) q.says ∙ take_at ns (drop (calls_len c) before) (calls_len c) n;
      }
  replay-part l c before after (suc f) g e p =
      let q = p.keeps (λ z. absurd (omega (arith, z))) in
      record {
        accepted = ap (λ (x : Lists). refusal_of s (held_in x)) q ∙ e;
        leaves = ap (λ (x : Lists). board_of s (held_in x)) q;
        says = refl;
      }

  pub acts-part : (l : Lists) (xs : List Act) (l' : Lists) → refusal_of s (held_in l) ≡ 0 → Acts s l xs l'
      → IsPart s l (calls_in xs) (answers_in xs) l'
  acts-part l [] l' e p = record {
    accepted = ap (λ (x : Lists). refusal_of s (held_in x)) p ∙ e;
    leaves = ap (λ (x : Lists). board_of s (held_in x)) p;
    says = refl;
  }
  acts-part l (called k w ∷ xs) l' e (g, p, rest) =
      let q = p.plays in
      let one : IsPart s l (k ∷ []) (answer_number w ∷ []) g
      = record {
        accepted = q.accepted e;
        leaves = q.leaves e;
        says = ap (λ v. answer_number v ∷ []) (said-is s (held_in l) k w (held_in g) e q);
      } in
      part_then one (acts-part g xs l' one.accepted rest)
  acts-part l (replayed c before after f ∷ xs) l' e (g, p, rest) =
      let one = replay-part l c before after f g e p in
      part_then one (acts-part g xs l' one.accepted rest)

  acts-split : (l : Lists) (xs ys : List Act) (l' : Lists) → Acts s l (xs ++ ys) l'
      → (g : Lists) × Acts s l xs g × Acts s g ys l'
  acts-split l [] ys l' p = (l, refl, p)
  acts-split l (called k w ∷ xs) ys l' (h, p, rest) =
      let r = acts-split h xs ys l' rest in (r.0, (h, p, r.1), r.2)
  acts-split l (replayed c before after f ∷ xs) ys l' (h, p, rest) =
      let r = acts-split h xs ys l' rest in (r.0, (h, p, r.1), r.2)

pub mixed-calls : MixedCalls
mixed-calls = record {
  demand = λ s rests l xs l' o p.
      let r = acts-part s l xs l' (opened s rests l o).0 p in
      demand s rests l (calls_in xs) (held_in l') o r.accepted r.leaves;
  says = λ s rests l xs l' o p.
      (acts-part s l xs l' (opened s rests l o).0 p).says
      ∙ ap (λ (b : Board). answer_numbers (history (table_of s) b (calls_in xs))) (opened s rests l o).1;
  between = λ s rests l xs ys l' o p.
      let q = acts-split s l xs ys l' p in
      let r = acts-part s l xs q.0 (opened s rests l o).0 q.1 in
      (q.0, demand s rests l (calls_in xs) (held_in q.0) o r.accepted r.leaves, q.2);
}
