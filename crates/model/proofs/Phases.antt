-- Phases and states told apart.
use mathlib.Core.Path.{◌≡◌, ap, sym, ◌∙◌, refl}
use mathlib.Core.Bool.{Bool, true, false}
use Prim.Native.Nat.{ℕ}
use borrow.Author.Tests.{eqb-false}
use Rattle.model.specs.Boards.{Phase, look, claim, revert, consume, tell, wake, free, signal, pass_end, backoff}
use Rattle.model.specs.Boards.{State, Job, idle, working, blocked, Match}
use Rattle.model.specs.Effects.{Change, none, turn, claims, frees, consumes, wakes_by, resumes, records}
use Rattle.model.specs.Effects.{signals}

-- neither consuming nor telling

abbrev pub still : Phase → Bool
still (look k) = true
still (claim k) = true
still (revert k m) = true
still (consume k m) = false
still (tell k) = false
still wake = true
still (free k) = true
still signal = true
still pass_end = true
still (backoff rests) = true

abbrev pub is_tell : Phase → Bool
is_tell (look k) = false
is_tell (claim k) = false
is_tell (revert k m) = false
is_tell (consume k m) = false
is_tell (tell k) = true
is_tell wake = false
is_tell (free k) = false
is_tell signal = false
is_tell pass_end = false
is_tell (backoff rests) = false

-- between a wake and its signal
abbrev pub signalling : Phase → Bool
signalling (look k) = false
signalling (claim k) = false
signalling (revert k m) = false
signalling (consume k m) = false
signalling (tell k) = false
signalling wake = false
signalling (free k) = true
signalling signal = true
signalling pass_end = false
signalling (backoff rests) = false

-- the place of a consume
abbrev pub consume_at : Phase → ℕ
consume_at (look k) = 0
consume_at (claim k) = 0
consume_at (revert k m) = 0
consume_at (consume k m) = k
consume_at (tell k) = 0
consume_at wake = 0
consume_at (free k) = 0
consume_at signal = 0
consume_at pass_end = 0
consume_at (backoff rests) = 0

abbrev job_of : State → Job → Job
job_of idle v = v
job_of (working w) v = w
job_of blocked v = v

pub same-job : {s : State} {w v : Job} → s ≡ working w → s ≡ working v → w ≡ v
same-job {s} {w} {v} e f = ap (λ (x : State). job_of x w) (sym e ∙ f)

abbrev state_code : State → ℕ
state_code idle = 0
state_code (working w) = 1
state_code blocked = 2

pub blocked-not : {s : State} {w : Job} → s ≡ blocked → s ≡ working w → ⊥
blocked-not e f = eqb-false 2 1 refl (ap state_code (sym e ∙ f))

-- changes told apart
abbrev pub is_resume : Change → Bool
is_resume none = false
is_resume (turn n claims) = false
is_resume (turn n frees) = false
is_resume (turn n (consumes m)) = false
is_resume (turn n (wakes_by h)) = false
is_resume (turn n resumes) = true
is_resume (records n m) = false
is_resume (signals n) = false

abbrev pub turn-wakes : Change → Bool
turn-wakes none = false
turn-wakes (turn n claims) = false
turn-wakes (turn n frees) = false
turn-wakes (turn n (consumes m)) = false
turn-wakes (turn n (wakes_by h)) = true
turn-wakes (turn n resumes) = false
turn-wakes (records n m) = false
turn-wakes (signals n) = false

-- the message of a turn
abbrev pub turn_of : Change → ℕ
turn_of none = 0
turn_of (turn n τ) = n
turn_of (records n m) = 0
turn_of (signals n) = 0

-- the match of a record
abbrev pub match_of : Match → Change → Match
match_of x none = x
match_of x (turn n τ) = x
match_of x (records n m) = m
match_of x (signals n) = x
