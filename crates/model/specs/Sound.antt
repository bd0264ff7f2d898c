-- Sound boards (rules 3.1 to 3.6 and 9.9), clause by clause.
use Rattle.std.specs.Prelude.{not, Bool, true, ◌&&◌, ◌||◌, ◌∷◌, [], List, ℕ, suc, leb, ltb, eqb, length}
use Rattle.model.specs.Basics.{all_of, every, is_in}
use Rattle.model.specs.Tables.{Table, chord_at, wakes, size}
use Rattle.model.specs.Boards.{Message, Status, pending, claimed, claim, woken, wake, consume, consumed, Board}
use Rattle.model.specs.Boards.{Match, Job, channel_of, Phase, look, revert, tell, free, signal, pass_end}
use Rattle.model.specs.Boards.{backoff, Sender, State, idle, working, blocked, is_idle, backoffs_pass}
use Rattle.model.specs.Steps.{to_tell}
use Rattle.model.specs.Shares.{shares_ok}
use Rattle.model.specs.Adds.{cents_ok}

-- rule 3.2: what a consumed and a woken message note
abbrev pub note_ok : Message → Status → Bool
note_ok x pending = true
note_ok x claimed = true
note_ok x woken = leb 1 x.waker
note_ok x consumed = leb 1 x.match

-- rule 3.2: its channel, its cents, and the match and waker that it notes
unfoldable pub message_ok : Table → Board → Message → Bool
message_ok t b x =
    all_of
    (ltb x.sent.channel (length t.kinds) ∷
    cents_ok x.sent.cents ∷
    leb x.match (length b.matches) ∷
    leb x.waker (length b.messages) ∷
    note_ok x x.status ∷ [])

abbrev pub all_below : ℕ → List ℕ → Bool
all_below m ns = every (λ n. ltb n m) ns

-- rule 3.3
unfoldable pub match_ok : Table → Board → Match → Bool
match_ok t b m = ltb m.chord (length t.chords) && all_below (length b.messages) m.messages

-- rule 3.6: at a chord of the table that names the subject's channel, with c chosen
abbrev pub at_chord : Table → Board → Job → ℕ → Bool
at_chord t b w c =
    all_of
    (ltb w.chord (length t.chords) ∷
    is_in (channel_of b w.subject) (chord_at t w.chord).channels ∷
    eqb (length w.chosen) c ∷ [])

-- rule 4.7: the last claim wakes
abbrev pub to_wake : Table → Board → Job → Bool
to_wake t b w = wakes t w.chord (channel_of b w.subject)

-- rule 3.6: a place where the steps of a job about this subject can be
abbrev pub place_ok : Table → Board → Job → Phase → Bool
place_ok t b w (look k) = at_chord t b w k && ltb k (size t w.chord)
place_ok t b w (claim k) = at_chord t b w (size t w.chord) && ltb k (size t w.chord)
place_ok t b w (revert k m) = all_of (at_chord t b w (size t w.chord) ∷ ltb k m ∷ ltb m (size t w.chord) ∷ [])
place_ok t b w (consume k m) =
    all_of
    (at_chord t b w (size t w.chord) ∷
    ltb k (size t w.chord) ∷
    leb 1 m ∷
    leb m (length b.matches) ∷
    not (to_wake t b w) ∷ [])
place_ok t b w (tell k) =
    all_of
    (at_chord t b w (size t w.chord) ∷
    ltb k (length (to_tell t b.messages w.subject w.chosen)) ∷
    not (to_wake t b w) ∷ [])
place_ok t b w wake = at_chord t b w (size t w.chord) && to_wake t b w
place_ok t b w (free k) =
    all_of
    (at_chord t b w (size t w.chord) ∷
    to_wake t b w ∷
    ltb (suc k) (size t w.chord) ∷ [])
place_ok t b w signal = at_chord t b w (size t w.chord) && to_wake t b w
place_ok t b w pass_end = eqb (length w.chosen) 0
place_ok t b w (backoff rests) = eqb (length w.chosen) 0

-- rules 3.5 and 3.6
abbrev pub job_ok : Table → Board → Sender → Job → Bool
job_ok t b d w =
    all_of
    (ltb w.subject (length b.messages) ∷
    (eqb (suc w.subject) d.own || eqb (suc w.subject) d.waker) ∷
    all_below (length b.messages) w.chosen ∷
    place_ok t b w w.phase ∷ [])

-- rule 3.4: a sender that is not idle has its own message
abbrev pub state_ok : Table → Board → Sender → State → Bool
state_ok t b d idle = true
state_ok t b d (working w) = leb 1 d.own && job_ok t b d w
state_ok t b d blocked = leb 1 d.own

-- rule 3.4: what a sender has is on the board
unfoldable pub sender_ok : Table → Board → Sender → Bool
sender_ok t b d =
    all_of
    (leb d.own (length b.messages) ∷
    leb d.waker (length b.messages) ∷
    leb d.reply (length b.matches) ∷
    leb d.matched (length b.matches) ∷
    state_ok t b d d.state ∷ [])

abbrev pub owns : ℕ → Sender → Bool
owns o d = not (is_idle d.state) && eqb d.own o

-- rule 3.4: no two senders that are not idle have the same own message
abbrev pub none_shared : List Sender → Bool
none_shared [] = true
none_shared (d ∷ ds) = (is_idle d.state || every (λ e. not (owns d.own e)) ds) && none_shared ds

-- rules 3.1, 9.9 and 9.10, and 3.2 to 3.6 of every message, match and sender
unfoldable pub sound : Table → Board → Bool
sound t b =
    all_of
    (eqb (length b.senders) 32 ∷
    leb (length b.messages) 1024 ∷
    leb (length b.matches) 1024 ∷
    every (message_ok t b) b.messages ∷
    every (match_ok t b) b.matches ∷
    every (sender_ok t b) b.senders ∷
    none_shared b.senders ∷
    shares_ok b.tallies (length b.messages) ∷
    backoffs_pass b.backoffs ∷ [])
