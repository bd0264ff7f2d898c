-- Schedules, and the pool that plays the join calculus beside them (rules 7.1 to 7.9).
use Rattle.std.specs.Prelude.{Bool, false, true, not, ◌&&◌, List, [], ◌∷◌, map, ◌++◌, ℕ, zero, suc, ◌+◌, eqb, ltb, ℤ, pos, negsuc, ◌+ℤ◌, length, get_or, replicate, set}
use Rattle.model.specs.Basics.{every, is_in, all_of, pick}
use Rattle.model.specs.Tables.{Table, Chord, chord_at}
use Rattle.model.specs.Boards.{Sent, Board, State, idle, working, blocked, Match, cents_of, message_at, no_sent}
use Rattle.model.specs.Effects.{Said, Outcome, refused, Refused, does, apply, Item, Closed, value_of, word_of}
use Rattle.model.specs.Looks.{alike}
use Rattle.model.specs.Steps.{step_by}
use Rattle.model.specs.Adds.{added, add_refusal}
use Rattle.model.specs.Closes.{close_refusal, closed_to}

-- Calls and their answers

-- rules 6.4, 6.5 and 9.8
pub data Call : Type 0 where
  adds : ℕ → Sent → Call
  steps : ℕ → Call
  closes : ℕ → Call

pub record Answer : Type 0 where
  pub said : Said
  pub board : Board

-- rule 6.1: a refused step leaves the board as it was
abbrev pub step_answer : Board → ℕ → Outcome → Answer
step_answer b i (refused f) = record { said = Refused f; board = b }
step_answer b i (does e) = record { said = e.said; board = apply b i e }

-- rules 6.4 and 6.1
abbrev pub add_answer : Table → Board → ℕ → Sent → ℕ → Answer
add_answer t b i x zero = record { said = Item (length b.messages); board = added t b i x }
add_answer t b i x (suc f) = record { said = Refused (suc f); board = b }

-- rules 9.8 and 6.1
abbrev pub close_answer : Board → ℕ → ℕ → Answer
close_answer b day zero = record { said = Closed; board = closed_to b day }
close_answer b day (suc f) = record { said = Refused (suc f); board = b }

-- rules 6.4, 6.5 and 9.8
abbrev pub answer_to : Table → Board → Call → Answer
answer_to t b (adds i x) = add_answer t b i x (add_refusal t b i x)
answer_to t b (steps i) = step_answer b i (step_by t b i)
answer_to t b (closes day) = close_answer b day (close_refusal b day)

-- rule 7.1: the board after a schedule
abbrev pub after_all : Table → Board → List Call → Board
after_all t b [] = b
after_all t b (c ∷ cs) = after_all t (answer_to t b c).board cs

pub record Exchange : Type 0 where
  pub call : Call
  pub said : Said

-- rule 7.1: the calls of a schedule, and what is said to each
abbrev pub history : Table → Board → List Call → List Exchange
history t b [] = []
history t b (c ∷ cs) = record { call = c; said = (answer_to t b c).said } ∷ history t (answer_to t b c).board cs

-- rule 5.6: a sender in this state, with this signal, has a step
abbrev pub can_step : State → Bool → Bool
can_step idle g = false
can_step (working w) g = true
can_step blocked g = g

-- rule 5.6
abbrev pub quiet : Board → Bool
quiet b = every (λ d. not (can_step d.state d.signalled)) b.senders

-- rule 6.6: what a match read answers
pub record MatchRead : Type 0 where
  pub chord : ℕ
  pub messages : List ℕ
  pub cents : ℤ

abbrev pub read_match : Table → Board → Match → MatchRead
read_match t b m = record {
  chord = m.chord;
  messages = m.messages;
  cents = cents_of t (λ n. (message_at b n).sent) m.messages;
}

abbrev pub match_reads : Table → Board → List MatchRead
match_reads t b = map (read_match t b) b.matches

abbrev pub no_read : MatchRead
no_read = record { chord = 0; messages = []; cents = pos 0 }

-- Messages that meet a chord (rule 7.6)

abbrev pub distinct : List ℕ → Bool
distinct [] = true
distinct (n ∷ ns) = not (is_in n ns) && distinct ns

-- rule 7.6: as many as there are members, each of its member's channel
abbrev pub channels_meet : (ℕ → Sent) → List ℕ → List ℕ → Bool
channels_meet sent [] [] = true
channels_meet sent [] (n ∷ ns) = false
channels_meet sent (m ∷ ms) [] = false
channels_meet sent (m ∷ ms) (n ∷ ns) = eqb (sent n).channel m && channels_meet sent ms ns

-- rule 7.6
unfoldable pub meets : Chord → (ℕ → Sent) → List ℕ → Bool
meets r sent ns =
    all_of
    (distinct ns ∷
    channels_meet sent r.channels ns ∷
    every (λ n. alike r (sent (get_or ns 0 0)) (sent n)) ns ∷ [])

-- rule 7.3: the messages sent so far by number, the numbers inside, and each sender's own message plus 1. good: every
-- exchange so far was as the pool wants it.
pub record Pool : Type 0 where
  pub sent : List Sent
  pub inside : List ℕ
  pub own : List ℕ
  pub matches : ℕ
  pub good : Bool

-- rule 7.3
abbrev pub empty_pool : Pool
empty_pool = record { sent = []; inside = []; own = replicate 32 0; matches = 0; good = true }

abbrev pub sent_at : List Sent → ℕ → Sent
sent_at xs n = get_or xs n no_sent

abbrev pub own_of : Pool → ℕ → ℕ
own_of p i = get_or p.own i 0

-- rule 7.4: message n, as it was sent, is put in and is sender i's own
abbrev pub enters : ℕ → Sent → Pool → ℕ → Bool → Pool
enters i x p n false = p
enters i x p n true = record {
  sent = p.sent ++ (x ∷ []);
  inside = p.inside ++ (n ∷ []);
  own = set p.own i (suc n);
  matches = p.matches;
  good = p.good && eqb n (length p.sent);
}

abbrev pub same_z : ℤ → ℤ → Bool
same_z (pos a) (pos b) = eqb a b
same_z (pos a) (negsuc b) = false
same_z (negsuc a) (pos b) = false
same_z (negsuc a) (negsuc b) = eqb a b

-- rule 7.5: what a message counts for in the pool's sums, by the call's cents alone
abbrev pub worth : Table → Sent → ℤ
worth t x = x.cents

-- rules 7.5 and 7.9
abbrev pub pool_cents : Table → (ℕ → Sent) → List ℕ → ℤ
pool_cents t sent [] = pos 0
pool_cents t sent (n ∷ ns) = worth t (sent n) +ℤ pool_cents t sent ns

-- rule 7.5: what match k must be, and read as, for its messages to be taken out
unfoldable pub fair : Table → List MatchRead → Pool → ℕ → MatchRead → Bool
fair t ms p k m =
    all_of
    (eqb k p.matches ∷
    ltb k (length ms) ∷
    ltb m.chord (length t.chords) ∷
    every (λ n. is_in n p.inside) m.messages ∷
    meets (chord_at t m.chord) (sent_at p.sent) m.messages ∷
    same_z m.cents (pool_cents t (sent_at p.sent) m.messages) ∷ [])

abbrev pub without : List ℕ → List ℕ → List ℕ
without ys [] = []
without ys (x ∷ xs) = pick (is_in x ys) (without ys xs) (x ∷ without ys xs)

-- rule 7.5: the messages of match k are taken out
abbrev pub leaves : Table → List MatchRead → Pool → ℕ → Bool → Pool
leaves t ms p k false = p
leaves t ms p k true = record {
  sent = p.sent;
  inside = without (get_or ms k no_read).messages p.inside;
  own = p.own;
  matches = suc p.matches;
  good = p.good && fair t ms p k (get_or ms k no_read);
}

-- rules 7.4 and 7.5: after an add that answers `item N` or a step that answers `matched K`; no other call changes it
abbrev pub played : Table → List MatchRead → Pool → Call → Said → Pool
played t ms p (adds i x) a = enters i x p (value_of a) (eqb (word_of a) 0)
played t ms p (steps i) a = leaves t ms p (value_of a) (eqb (word_of a) 6)
played t ms p (closes day) a = p

-- rule 7.3: by the calls and their answers, with the match reads ms
abbrev pub played_all : Table → List MatchRead → Pool → List Exchange → Pool
played_all t ms p [] = p
played_all t ms p (e ∷ es) = played_all t ms (played t ms p e.call e.said) es

-- rule 7.9: the cents of accepted adds, and of match reads
abbrev pub cents_added : Table → List Sent → ℤ
cents_added t [] = pos 0
cents_added t (x ∷ xs) = worth t x +ℤ cents_added t xs

abbrev pub cents_matched : List MatchRead → ℤ
cents_matched [] = pos 0
cents_matched (m ∷ ms) = m.cents +ℤ cents_matched ms

-- rule 7.8: how many matches hold message n
abbrev pub times_held : ℕ → List MatchRead → ℕ
times_held n [] = 0
times_held n (m ∷ ms) = pick (is_in n m.messages) 1 0 + times_held n ms
