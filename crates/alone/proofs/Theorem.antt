-- Request 12: a sender left in peace finishes.
use mathlib.Core.Path.{◌≡◌, refl, ◌∙◌, ap, subst}
use mathlib.Core.Logic.{◌⊎◌, inl, inr, ◌≢◌}
use mathlib.Core.List.{List}
use Prim.Native.Nat.{ℕ, zero, suc, ◌+◌, ◌-◌, ◌≤◌}
use native.Mathlib.Omega.{arith}
use Rattle.model.specs.Tables.{Table}
use Rattle.model.specs.Layout.{table_of, table_refusal}
use Rattle.model.specs.Boards.{Board, State, sender_at, empty_board, idle, blocked}
use Rattle.model.specs.Effects.{Outcome, refused}
use Rattle.model.specs.Steps.{step_by}
use Rattle.model.specs.Holdings.{Holds}
use Rattle.model.specs.Pools.{Call, steps, step_answer, answer_to}
use Rattle.model.specs.Demands.{board_after}
use Rattle.model.proofs.Backoffs.{few-rests}
use Rattle.model.proofs.AcceptedChords.{table-ok}
use Rattle.model.proofs.Invariant.{Inv}
use Rattle.model.proofs.Schedule.{all-inv, empty-inv}
use Rattle.model.proofs.QuietExactly.{under-32, still-refused}
use Rattle.alone.specs.Alone.{InPeace, stepped_alone, LeftInPeace, most_steps, Alone}
use Rattle.alone.proofs.Rests.{all-bounded, empty-bounded}
use Rattle.alone.proofs.Calm.{peace_there, peace_back}
use Rattle.alone.proofs.Peace.{in-peace}

-- after a refused step more steps change nothing
refused-same : (t : Table) (b : Board) (i f : ℕ) → step_by t b i ≡ refused f → (n : ℕ) → stepped_alone t b i n ≡ b
refused-same t b i f e zero = refl
refused-same t b i f e (suc n) =
    ap (λ (o : Outcome). stepped_alone t (step_answer b i o).board i n) e ∙ refused-same t b i f e n

steps-join : (t : Table) (i m n : ℕ) (b : Board)
    → stepped_alone t b i (m + n) ≡ stepped_alone t (stepped_alone t b i m) i n
steps-join t i zero n b = let e : 0 + n ≡ n = omega arith in ap (λ (k : ℕ). stepped_alone t b i k) e
steps-join t i (suc m) n b =
    let e : suc m + n ≡ suc (m + n) = omega arith in
    ap (λ (k : ℕ). stepped_alone t b i k) e ∙ steps-join t i m n (answer_to t b (steps i)).board

stays : (t : Table) (b : Board) (i f m : ℕ) → step_by t (stepped_alone t b i m) i ≡ refused f → (n : ℕ) → m ≤ n
    → stepped_alone t b i n ≡ stepped_alone t b i m
stays t b i f m e n le =
    let z : n ≡ m + (n - m) = omega arith in
    ap (λ (k : ℕ). stepped_alone t b i k) z
    ∙ steps-join t i m (n - m) b
    ∙ refused-same t (stepped_alone t b i m) i f e (n - m)

inv-after : (s rests : List ℕ) (cs : List Call) → table_refusal s ≡ 0 → Inv (table_of s) (board_after (table_of s) rests cs)
inv-after s rests cs e = all-inv (table_of s) cs (empty_board rests) (empty-inv (table_of s) rests (table-ok s e))

finishes : (limit : ℕ) → most_steps ≤ limit → LeftInPeace limit
finishes limit le s rests cs i e r l p =
    let t = table_of s in
    let b = board_after t rests cs in
    let ok = table-ok s e in
    let w = in-peace {t = t} {b = b} (record {
      table = ok;
      number = l;
      inv = inv-after s rests cs e;
      bounded = all-bounded t cs (empty_board rests) ok (empty-inv t rests ok)
          (empty-bounded rests (few-rests rests r));
      peace = peace_there i (inv-after s rests cs e).holding p;
    }) in
    let end = stepped_alone t b i w.count in
    let r13 = under-32 t end i l ∙ still-refused t end (sender_at end i) (sender_at end i).state w.no_step in
    record {
      count = w.count;
      few = omega (arith, w.few, le);
      no_step = w.no_step;
      refused_13 = r13;
      for_good = stays t b i 13 w.count r13;
    }

others_at_rest : (t : Table) (b : Board) (i : ℕ)
    → ((j : ℕ) → j ≢ i → ((sender_at b j).state ≡ idle) ⊎ ((sender_at b j).state ≡ blocked)) → InPeace t b i
others_at_rest t b i f j n ne x = go (f j ne)
  where
    go : ((sender_at b j).state ≡ idle) ⊎ ((sender_at b j).state ≡ blocked) → ⊥
    go (inl e) = subst (λ (s : State). Holds t s n) e x
    go (inr e) = subst (λ (s : State). Holds t s n) e x

pub alone : Alone
alone = record {
  finishes = finishes most_steps (omega arith);
  asked = finishes 4096 (omega arith);
  peace_there = λ s rests cs i e. peace_there i (inv-after s rests cs e).holding;
  peace_back = λ s rests cs i e. peace_back i (inv-after s rests cs e).holding;
  none_claimed = λ s rests cs i e f. peace_back i (inv-after s rests cs e).holding (λ n z. absurd (f n z));
  others_at_rest = others_at_rest;
}
