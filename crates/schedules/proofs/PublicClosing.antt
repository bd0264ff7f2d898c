-- A closed day stays closed: public calls, by the model's schedule.
use mathlib.Core.Path.{◌≡◌, refl, sym, ap, ◌∙◌}
use mathlib.Core.Bool.{true}
use mathlib.Core.List.{List, [], ◌∷◌}
use Prim.Native.Nat.{ℕ, zero, suc}
use native.Mathlib.Omega.{arith}
use Rattle.model.specs.Basics.{is_in}
use Rattle.model.specs.Layout.{table_of}
use Rattle.model.specs.Boards.{Board}
use Rattle.model.specs.Effects.{Refused, Closed, number_of, word_of}
use Rattle.model.specs.Pools.{adds, closes, answer_to, after_all}
use Rattle.model.proofs.Tests.{never}
use Rattle.model.proofs.StaysClosed.{stays_closed}
use Rattle.boards.specs.Layout.{Lists}
use Rattle.refusals.specs.Held.{held_in}
use Rattle.refusals.specs.Calls.{board_of, refusal_of}
use Rattle.calls.specs.Calls.{Calls}
use Rattle.schedules.specs.Mixes.{calls_in}
use Rattle.schedules.specs.Closing.{ClosedCalls}
use Rattle.schedules.proofs.PublicCalls.{said-is}
use Rattle.schedules.proofs.Mixed.{acts-part}

-- a close that was accepted was called on an accepted board
was-accepted : (s : List ℕ) (l l' : Lists) (day : ℕ) → Calls s l (closes day) Closed l' → refusal_of s (held_in l) ≡ 0
was-accepted s l l' day c = go (refusal_of s (held_in l)) refl
  where
    go : (n : ℕ) → refusal_of s (held_in l) ≡ n → n ≡ 0
    go zero e = refl
    go (suc n) e =
        let u : Closed ≡ Refused (suc n) = rw e at c.plays.says in
        absurd (omega (arith, ap word_of u))

some_number : (f : ℕ) → is_in f (8 ∷ 9 ∷ 10 ∷ 19 ∷ []) ≡ true → (f ≡ 0 → ⊥)
some_number f e z = never (ap (λ (n : ℕ). is_in n (8 ∷ 9 ∷ 10 ∷ 19 ∷ [])) (sym z) ∙ e)

pub closed-calls : ClosedCalls
closed-calls s l l₁ l₂ l₃ day xs i x w c p a h =
    let t = table_of s in
    let z = was-accepted s l l₁ day c in
    let said : (answer_to t (board_of s (held_in l)) (closes day)).said ≡ Closed =
    sym (said-is s (held_in l) (closes day) Closed (held_in l₁) z c.plays) in
    let r = acts-part s l₁ xs l₂ (c.plays.accepted z) p in
    let b : board_of s (held_in l₂) ≡ after_all t (board_of s (held_in l)) (closes day ∷ calls_in xs) =
    r.leaves ∙ ap (λ (y : Board). after_all t y (calls_in xs)) (c.plays.leaves z) in
    let k = stays_closed t (board_of s (held_in l)) day (calls_in xs) i x said h in
    let e : w ≡ Refused k.0 =
    said-is s (held_in l₂) (adds i x) w (held_in l₃) r.accepted a.plays
    ∙ ap (λ (y : Board). (answer_to t y (adds i x)).said) b ∙ k.2 in
    (k.0, k.1, e, a.keeps (λ n. some_number k.0 k.1 (sym (ap number_of e) ∙ n)))
