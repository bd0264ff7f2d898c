-- A board is quiet exactly if each sender's step is refused 13. A place past the list of senders reads as idle, so that
-- the one way needs no count of them.
use mathlib.Core.Path.{ap, ◌≡◌, refl, sym, ◌∙◌}
use mathlib.Core.Logic.{◌≢◌}
use mathlib.Core.Bool.{Bool, true, false, not}
use mathlib.Core.List.{List, [], ◌∷◌}
use Prim.Native.Nat.{ℕ, ◌<◌, zero, suc}
use borrow.Author.Tests.{lt-leb, not-true}
use lib.ListN.{get_or, length}
use native.Mathlib.Omega.{arith}
use Rattle.model.specs.Basics.{every}
use Rattle.model.specs.Tables.{Table}
use Rattle.model.specs.Boards.{Board, Sender, State, idle, working, blocked, sender_at, idle_sender}
use Rattle.model.specs.Effects.{Outcome, refused, does, Effect}
use Rattle.model.specs.Steps.{state_step, blocked_step, step_by, sender_step}
use Rattle.model.specs.Pools.{can_step, quiet}
use Rattle.model.specs.Demands.{QuietExactly}
use Rattle.model.proofs.Tests.{never, both}
use Rattle.model.proofs.Lists.{nth-every}

abbrev is_refused : Outcome → Bool
is_refused (refused f) = true
is_refused (does e) = false

not_done : {e : Effect} → does e ≢ refused 13
not_done q = never (ap is_refused q)

module _ (t : Table) (b : Board) (d : Sender) where
  pub still-refused : (s : State) → can_step s d.signalled ≡ false → state_step t b d s ≡ refused 13
  still-refused idle e = refl
  still-refused (working w) e = never (sym e)
  still-refused blocked e = ap (blocked_step t b d) e

  refused-still : (s : State) → state_step t b d s ≡ refused 13 → not (can_step s d.signalled) ≡ true
  refused-still idle q = refl
  refused-still (working w) q = absurd (not_done q)
  refused-still blocked q = by-signal d.signalled q
    where
      by-signal : (g : Bool) → blocked_step t b d g ≡ refused 13 → not g ≡ true
      by-signal true q = absurd (not_done q)
      by-signal false q = refl

pub under-32 : (t : Table) (b : Board) (i : ℕ) → i < 32
    → step_by t b i ≡ state_step t b (sender_at b i) (sender_at b i).state
unfolding step_by
under-32 t b i h = ap (sender_step t b i) (lt-leb 32 i h)

-- all that a list holds passes, and so does what is read past its end
every-read : {A : Type 0} (f : A → Bool) (xs : List A) (d : A)
    → every f xs ≡ true → f d ≡ true → (n : ℕ) → f (get_or xs n d) ≡ true
every-read f [] d e p n = p
every-read f (x ∷ xs) d e p zero = (both {t = f x} e).0
every-read f (x ∷ xs) d e p (suc n) = every-read f xs d (both {t = f x} e).1 p n

there : (t : Table) (b : Board) → quiet b ≡ true → (i : ℕ) → i < 32 → step_by t b i ≡ refused 13
there t b q i h =
    under-32 t b i h
    ∙ still-refused t b (sender_at b i) (sender_at b i).state
    (not-true _ (every-read (λ d. not (can_step d.state d.signalled)) b.senders idle_sender q refl i))

back : (t : Table) (b : Board)
    → length b.senders ≡ 32 → ((i : ℕ) → i < 32 → step_by t b i ≡ refused 13) → quiet b ≡ true
back t b n f = nth-every (λ d. not (can_step d.state d.signalled)) b.senders idle_sender at
  where
    at : (i : ℕ) → i < length b.senders → not (can_step (sender_at b i).state (sender_at b i).signalled) ≡ true
    at i h =
        let l : i < 32 = omega (arith, n) in
        refused-still t b (sender_at b i) (sender_at b i).state (sym (under-32 t b i l) ∙ f i l)

pub quiet-exactly : QuietExactly
quiet-exactly = record { there = there; back = back }
