-- Public steps of a sender left in peace end refused 13: the model's theorem, over what the calls return.
use mathlib.Core.Path.{◌≡◌, sym, ◌∙◌, ap, subst, subst⁻¹}
use mathlib.Core.List.{List}
use Prim.Native.Nat.{ℕ, ◌≤◌}
use lib.ListN.{replicate}
use native.Mathlib.Omega.{arith}
use Rattle.model.specs.Layout.{table_of}
use Rattle.model.specs.Boards.{Board}
use Rattle.model.specs.Effects.{Said, Outcome, Refused, number_of}
use Rattle.model.specs.Pools.{steps, step_answer, answer_to}
use Rattle.alone.specs.Alone.{InPeace, stepped_alone, Finishes, most_steps}
use Rattle.alone.proofs.Theorem.{alone}
use Rattle.boards.specs.Layout.{Lists}
use Rattle.refusals.specs.Held.{held_in}
use Rattle.refusals.specs.Calls.{board_of, refusal_of}
use Rattle.calls.specs.Calls.{Calls}
use Rattle.schedules.specs.Schedules.{CallsInTurn}
use Rattle.schedules.specs.InPeace.{ComesToRest, PublicPeace}
use Rattle.schedules.proofs.PublicCalls.{public-calls, said-is, table-opened}

comes-to-rest : (s : List ℕ) (l : Lists) (i : ℕ) → refusal_of s (held_in l) ≡ 0
    → Finishes (table_of s) (board_of s (held_in l)) i most_steps → ComesToRest s l i
comes-to-rest s l i a f = record { count = f.count; few = f.few; then_13 = ends }
  where
    ends : (n : ℕ) (ws : List Said) (g : Lists) → f.count ≤ n → CallsInTurn s l (replicate n (steps i)) ws g
        → (w : Said) (g' : Lists) → Calls s g (steps i) w g' → (w ≡ Refused 13) × (g' ≡ g)
    ends n ws g le p w g' q =
        let end = stepped_alone (table_of s) (board_of s (held_in l)) i f.count in
        let r = public-calls.schedule s l (replicate n (steps i)) ws g a p in
        let said : w ≡ Refused 13 =
        said-is s (held_in g) (steps i) w (held_in g') r.accepted q.plays
        ∙ ap (λ (b : Board). (answer_to (table_of s) b (steps i)).said) (r.leaves ∙ f.for_good n le)
        ∙ ap (λ (o : Outcome). (step_answer end i o).said) f.refused_13 in
        (said, q.keeps (λ z. omega (arith, sym (ap number_of said) ∙ z)))

pub public-peace : PublicPeace
public-peace s rests l ks ws l' i o p few peace =
    let t = table_of s in
    let a = table-opened s rests l o in
    let d = (public-calls.demand s rests l ks ws l' o p).1 in
    comes-to-rest s l' i d.accepted
    (subst⁻¹ (λ (b : Board). Finishes t b i most_steps) d.leaves
    (alone.finishes s rests ks i a.0 a.1 few
    (subst (λ (b : Board). InPeace t b i) d.leaves peace)))
