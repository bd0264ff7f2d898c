-- What is open of a call: its caller's leftovers, which are what its job does not use (rule 1.11). All else that a call
-- says and leaves is one thing.
use Rattle.std.specs.Prelude.{◌≡◌, refl, List, [], ◌∷◌, ℕ}
use Rattle.model.specs.Tables.{Table, size}
use Rattle.model.specs.Layout.{table_of}
use Rattle.model.specs.Effects.{Said}
use Rattle.model.specs.Pools.{Call}
use Rattle.state.specs.declared.State as DS
use Rattle.state.specs.declared.State.TheVariants as S
use Rattle.state.specs.declared.Job as DJ
use Rattle.state.specs.declared.Sender as DD
use Rattle.state.specs.Views.{chosen_by}
use Rattle.boards.specs.Calls.{Held}
use Rattle.boards.specs.Layout.{Lists}
use Rattle.refusals.specs.Held.{held_in}
use Rattle.refusals.specs.Calls.{SameFrom, caller_of, row_at, Plays}
use Rattle.plays.specs.Replays.{CallRows, calls_of, PlaysInTurn}
use Rattle.calls.specs.Calls.{Calls, ReplaysIn}

-- rule 1.8: how many messages a job has chosen
abbrev pub chosen_count : Table → DJ.Job → ℕ
chosen_count t j = chosen_by j.phase (size t j.chord)

-- what a job does not use, by its sender's state, is the same in i and j: at work the choice past its n messages, else
-- all of it
abbrev pub LeftoverIn : DS.State → ℕ → DJ.Job → DJ.Job → Type 0
LeftoverIn S.Idle n i j = i ≡ j
LeftoverIn S.Working n i j = SameFrom n i.chosen j.chosen
LeftoverIn S.Blocked n i j = i ≡ j

abbrev pub SameLeftover : Table → DD.Sender → DD.Sender → Type 0
SameLeftover t d e = LeftoverIn d.state (chosen_count t d.job) d.job e.job

-- the caller's, where call k leaves f or g
abbrev pub LeavesAlike : List ℕ → Call → Held → Held → Type 0
LeavesAlike s k f g = SameLeftover (table_of s) (row_at f (caller_of k)) (row_at g (caller_of k))

-- each caller's in its turn, where the same calls are played twice
abbrev pub TurnsAlike : (s : List ℕ) (h i : Held) (ks : List Call) (vs ws : List Said) (f g : Held)
    → PlaysInTurn s h ks vs f → PlaysInTurn s i ks ws g → Type 0
TurnsAlike s h i [] vs ws f g p q = Unit {0}
TurnsAlike s h i (k ∷ ks) [] ws f g p q = ⊥
TurnsAlike s h i (k ∷ ks) (v ∷ vs) [] f g p q = ⊥
TurnsAlike s h i (k ∷ ks) (v ∷ vs) (w ∷ ws) f g p q =
    LeavesAlike s k p.0 q.0 × TurnsAlike s p.0 q.0 ks vs ws f g p.2 q.2

-- two replays that are not refused
abbrev pub ReplaysAlike : (s : List ℕ) (l : Lists) (c : CallRows) (before v w : List ℕ) (f g : Lists)
    → ReplaysIn s l c before v 0 f → ReplaysIn s l c before w 0 g → Type 0
ReplaysAlike s l c before v w f g p q =
    let x = p.replays.plays refl in
    let y = q.replays.plays refl in
    TurnsAlike s (held_in l) (held_in l) (calls_of c) x.said y.said (held_in f) (held_in g) x.turns y.turns

-- rules 1.11 and 6.8: two outcomes with the same leftovers are one; of what is held, of a public call, of a replay
pub record Determined : Type 0 where
  pub held : (s : List ℕ) (h : Held) (k : Call) (v w : Said) (f g : Held)
      → Plays s h k v f → Plays s h k w g → LeavesAlike s k f g → (v ≡ w) × (f ≡ g)
  pub lists : (s : List ℕ) (l : Lists) (k : Call) (v w : Said) (f g : Lists)
      → Calls s l k v f → Calls s l k w g → LeavesAlike s k (held_in f) (held_in g) → (v ≡ w) × (f ≡ g)
  pub replays : (s : List ℕ) (l : Lists) (c : CallRows) (before v w : List ℕ) (f g : Lists)
      → (p : ReplaysIn s l c before v 0 f) (q : ReplaysIn s l c before w 0 g)
      → ReplaysAlike s l c before v w f g p q → (v ≡ w) × (f ≡ g)
