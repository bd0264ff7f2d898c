-- A public call is refused for its lists, or is the call on what they hold.
use mathlib.Core.Path.{◌≡◌, refl, sym, subst}
use mathlib.Core.Logic.{◌≢◌}
use mathlib.Core.List.{List}
use Prim.Native.Nat.{ℕ}
use lib.ListN.{length}
use Rattle.model.specs.Effects.{Said, Refused}
use Rattle.model.specs.Pools.{Call}
use Rattle.boards.specs.Calls.{Held}
use Rattle.boards.specs.Layout.{Lists}
use Rattle.refusals.specs.Held.{held_of, held_in, Accepted}
use Rattle.refusals.specs.Calls.{refusal_of, Plays}
use Rattle.refusals.proofs.CallLaws.{plays-refused}
use Rattle.refusals.proofs.HeldLaws.{held-is}
use Rattle.plays.specs.Plays.{PlaysIn}
use Rattle.plays.specs.Replays.{CallRows, replay_number, PlaysAll}
use Rattle.plays.proofs.PlayLaws.{accepted-after}
use Rattle.plays.proofs.ScheduleLaws.{replays-refused, replays-all}
use Rattle.calls.specs.Calls.{Calls, ReplaysIn}

-- what accepted lists hold
pub held-by : (s : List ℕ) (l : Lists) → Accepted s l → held_of l ≡ held_in l
held-by s l a = sym (held-is l a.numbers a.sized)

module _ (s : List ℕ) (l : Lists) (k : Call) where
  pub call-refused : (f : ℕ) → f ≡ refusal_of s (held_in l) → f ≢ 0 → Calls s l k (Refused f) l
  call-refused f e n = record { plays = plays-refused s (held_in l) k f e n; keeps = λ _. refl }

  pub call_played : (w : Said) (l' : Lists) → Accepted s l → PlaysIn s l k w l' → Calls s l k w l'
  call_played w l' a p = record {
    plays = subst (λ (h : Held). Plays s h k w (held_in l')) (held-by s l a)
        (subst (Plays s (held_of l) k w) (held-by s l' (accepted-after s l k a w l' p)) p.plays);
    keeps = p.keeps;
  }

module _ (s : List ℕ) (l : Lists) (c : CallRows) (before : List ℕ) (f : ℕ)
    (e : f ≡ replay_number s (held_in l) c (length before)) where
  pub replay-refused : f ≢ 0 → ReplaysIn s l c before before f l
  replay-refused n = record { replays = replays-refused s (held_in l) c before f e n; keeps = λ _. refl }

  pub replay-played : f ≡ 0 → (after : List ℕ) (l' : Lists) → Accepted s l → Accepted s l'
      → PlaysAll s (held_of l) c before after (held_of l') → ReplaysIn s l c before after 0 l'
  replay-played z after l' a b p = record {
    replays = replays-all s (held_in l) c before f e z after (held_in l')
        (subst (λ (h : Held). PlaysAll s h c before after (held_in l')) (held-by s l a)
        (subst (PlaysAll s (held_of l) c before after) (held-by s l' b) p));
    keeps = λ n. absurd (n refl);
  }
