-- The claimed messages that a sender holds, read off its state (rule 9.1).
use Rattle.std.specs.Prelude.{◌≡◌, ◌≢◌, List, ℕ, ◌<◌, ◌≤◌, length, get_or}
use Rattle.model.specs.Tables.{Table, first_sync}
use Rattle.model.specs.Boards.{Phase, look, claim, revert, consume, tell, wake, free, signal, pass_end, backoff}
use Rattle.model.specs.Boards.{State, idle, working, blocked}
use Rattle.model.specs.Steps.{skip}

-- rule 9.1: the places of chord r that a job in this phase has claimed and has not yet put back, consumed, woken or
-- freed; c messages are chosen. A claim at k has claimed those before k. A revert at k has put back those before k, of
-- the m that were claimed; so has a consume consumed them. A job about to wake holds all; one that frees holds those
-- from the k-th place on other than the woken member's.
abbrev pub HeldPlace : Table → ℕ → Phase → ℕ → ℕ → Type 0
HeldPlace t r (look k) c j = ⊥
HeldPlace t r (claim k) c j = j < k
HeldPlace t r (revert k m) c j = (k ≤ j) × (j < m)
HeldPlace t r (consume k m) c j = (k ≤ j) × (j < c)
HeldPlace t r (tell k) c j = ⊥
HeldPlace t r wake c j = j < c
HeldPlace t r (free k) c j = (j ≢ first_sync t r) × (skip (first_sync t r) k ≤ j) × (j < c)
HeldPlace t r signal c j = ⊥
HeldPlace t r pass_end c j = ⊥
HeldPlace t r (backoff rests) c j = ⊥

-- rule 9.1: a job at chord r with these chosen holds message n
pub record HoldsAt (t : Table) (r : ℕ) (chosen : List ℕ) (p : Phase) (n : ℕ) : Type 0 where
  pub place : ℕ
  pub held : HeldPlace t r p (length chosen) place
  pub is : get_or chosen place 0 ≡ n

-- rule 9.1: a sender in this state holds message n
abbrev pub Holds : Table → State → ℕ → Type 0
Holds t idle n = ⊥
Holds t (working w) n = HoldsAt t w.chord w.chosen w.phase n
Holds t blocked n = ⊥
