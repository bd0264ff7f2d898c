-- A day that was closed stays closed: no call lowers the close day, and an add of such a day is refused.
use mathlib.Core.Path.{◌≡◌, refl, ap}
use mathlib.Core.Bool.{Bool, true, false}
use mathlib.Core.List.{List, [], ◌∷◌}
use Prim.Native.Nat.{ℕ, zero, suc, ◌≤◌, ◌<◌}
use borrow.Author.Tests.{lt-leb}
use lib.Dec.{ltb}
use lib.ListN.{length}
use native.Mathlib.Omega.{arith}
use Rattle.model.specs.Basics.{is_in, unless}
use Rattle.model.specs.Tables.{Table}
use Rattle.model.specs.Boards.{Board, Sent, sender_at, is_idle}
use Rattle.model.specs.Effects.{Refused, Closed, word_of}
use Rattle.model.specs.Adds.{add_refusal}
use Rattle.model.specs.Closes.{close_refusal}
use Rattle.model.specs.Pools.{Call, adds, steps, closes, answer_to, add_answer, close_answer, after_all}
use Rattle.model.specs.Demands.{StaysClosed}
use Rattle.model.proofs.Tests.{never}
use Rattle.model.proofs.StepFrame.{frame}

-- no call lowers the close day
call-later : (t : Table) (b : Board) (c : Call) → b.closed ≤ (answer_to t b c).board.closed
call-later t b (adds i x) = omega (arith, (frame.add t b i x).closed)
call-later t b (steps i) = omega (arith, (frame.step t b i).closed)
call-later t b (closes day) = (frame.close t b day).closed

pub calls-later : (t : Table) (cs : List Call) (b : Board) → b.closed ≤ (after_all t b cs).closed
calls-later t [] b = omega arith
calls-later t (c ∷ cs) b = omega (arith, call-later t b c, calls-later t cs (answer_to t b c).board)

-- an accepted close has closed its day
close-sets : (t : Table) (b : Board) (day : ℕ) → (answer_to t b (closes day)).said ≡ Closed
    → (answer_to t b (closes day)).board.closed ≡ suc day
close-sets t b day = go (close_refusal b day)
  where
    go : (f : ℕ) → (close_answer b day f).said ≡ Closed → (close_answer b day f).board.closed ≡ suc day
    go zero e = refl
    go (suc f) e = absurd (omega (arith, ap word_of e))

-- an add of a closed day
abbrev InClosed : ℕ → Type 0
InClosed f = is_in f (8 ∷ 9 ∷ 10 ∷ 19 ∷ []) ≡ true

unless-closed : (u : Bool) (n next : ℕ) → InClosed n → InClosed next → InClosed (unless u n next)
unless-closed true n next l m = m
unless-closed false n next l m = l

closed-number : (t : Table) (b : Board) (i : ℕ) (x : Sent) → x.day < b.closed → InClosed (add_refusal t b i x)
unfolding add_refusal
closed-number t b i x l =
    rw (lt-leb b.closed x.day l)
    (unless-closed (ltb i 32) 8 _ refl
    (unless-closed (is_idle (sender_at b i).state) 9 _ refl
    (unless-closed (ltb x.channel (length t.kinds)) 10 19 refl refl)))

add-closed : (t : Table) (b : Board) (i : ℕ) (x : Sent) → x.day < b.closed
    → (f : ℕ) × InClosed f × ((answer_to t b (adds i x)).said ≡ Refused f)
add-closed t b i x l = go (add_refusal t b i x) (closed-number t b i x l)
  where
    go : (n : ℕ) → InClosed n → (f : ℕ) × InClosed f × ((add_answer t b i x n).said ≡ Refused f)
    go zero e = never e
    go (suc f) e = (suc f, e, refl)

pub stays_closed : StaysClosed
stays_closed t b day cs i x e l =
    let c = (answer_to t b (closes day)).board in
    add-closed t (after_all t c cs) i x (omega (arith, close-sets t b day e, calls-later t cs c))
