-- What a look chooses for a member of its chord, and when it marks a retry (rules 4.2 and 4.3).
use Rattle.std.specs.Prelude.{◌≡◌, ◌≢◌, Bool, not, ◌||◌, ◌&&◌, true, false, List, ◌∷◌, [], ℕ, zero, suc, ◌<◌, eqb, ltb, length}
use Rattle.model.specs.Basics.{all_of, is_in, first_by, pick}
use Rattle.model.specs.Tables.{agrees, Chord, Table, chord_at, channel_at}
use Rattle.model.specs.Boards.{Sent, Message, is_pending, is_claimed, Board, channel_of, Job, message_at}

-- rule 1.2: a message like e fits beside one like s, by what the chord wants to be equal
unfoldable pub alike : Chord → Sent → Sent → Bool
alike r s e = agrees r.equal (eqb e.property s.property) (eqb e.unit s.unit)

-- rule 4.2: of the member's channel, and like s
abbrev pub fits : Chord → ℕ → Sent → Message → Bool
fits r channel s x = eqb x.sent.channel channel && alike r s x.sent

-- rule 4.2: message n fits, is pending and is not chosen yet
abbrev pub is_free : Chord → ℕ → Sent → List ℕ → ℕ → Message → Bool
is_free r channel s chosen n x = all_of (fits r channel s x ∷ is_pending x.status ∷ not (is_in n chosen) ∷ [])

-- rule 4.2: message m comes before message n: it has the lesser day, or the same and the lower number
unfoldable pub is_before : (ℕ → ℕ) → ℕ → ℕ → Bool
is_before day m n = ltb (day m) (day n) || (eqb (day m) (day n) && ltb m n)

-- of number n and of what was found beside it, a number plus 1 and 0 for none, the one that comes first
abbrev pub earlier : (ℕ → ℕ) → ℕ → ℕ → ℕ
earlier day n zero = suc n
earlier day n (suc m) = pick (is_before day m n) (suc m) (suc n)

-- rule 4.2: of those that pass the one that comes first, its number plus 1; 0 for none
unfoldable pub oldest : (ℕ → ℕ) → (ℕ → Message → Bool) → ℕ → List Message → ℕ
oldest day f n [] = 0
oldest day f n (x ∷ xs) = pick (f n x) (earlier day n (oldest day f (suc n) xs)) (oldest day f (suc n) xs)

abbrev pub some_message : (Message → Bool) → List Message → Bool
some_message f [] = false
some_message f (x ∷ xs) = f x || some_message f xs

-- rule 4.3: a claimed message fits, chosen or not
unfoldable pub some_claimed : Chord → ℕ → Sent → List Message → Bool
some_claimed r channel s is = some_message (λ x. fits r channel s x && is_claimed x.status) is

-- rule 4.2: the place of the member that the subject takes
abbrev pub subject_place : Table → Board → ℕ → ℕ → ℕ
subject_place t b h r = first_by (eqb (channel_of b h)) (chord_at t r).channels

-- rule 4.2: message n is open to member k of the job's chord
abbrev pub opens : Table → Board → Job → ℕ → ℕ → Bool
opens t b w k n =
    is_free (chord_at t w.chord) (channel_at t w.chord k) (message_at b w.subject).sent w.chosen n
    (message_at b n)

abbrev pub day_at : Board → ℕ → ℕ
day_at b n = (message_at b n).sent.day

-- rule 4.2: what a look takes for member k, its number plus 1; 0 for none
unfoldable pub choice : Table → Board → Job → ℕ → ℕ
choice t b w k =
    pick (eqb (subject_place t b w.subject w.chord) k) (suc w.subject)
    (oldest (day_at b)
    (is_free (chord_at t w.chord) (channel_at t w.chord k) (message_at b w.subject).sent w.chosen) 0
    b.messages)

-- rule 4.2: what message n may be taken as
pub data Chosen (t : Table) (b : Board) (w : Job) (k n : ℕ) : Type 0 where
  the_subject : subject_place t b w.subject w.chord ≡ k → n ≡ w.subject → Chosen t b w k n
  another : subject_place t b w.subject w.chord ≢ k → n < length b.messages → opens t b w k n ≡ true
      → Chosen t b w k n

-- rule 4.2: c, a number plus 1 and 0 for none, is what a look takes for member k. The subject takes its member whatever
-- its day; there is none only if none is open; and what is taken comes before every other that is open.
pub record Takes (t : Table) (b : Board) (w : Job) (k c : ℕ) : Type 0 where
  pub hand : subject_place t b w.subject w.chord ≡ k → c ≡ suc w.subject
  pub none : c ≡ 0 → (n : ℕ) → n < length b.messages → opens t b w k n ≡ false
  pub some : (n : ℕ) → c ≡ suc n → Chosen t b w k n
  pub first : (n : ℕ) → c ≡ suc n → subject_place t b w.subject w.chord ≢ k → (m : ℕ)
      → m < length b.messages → opens t b w k m ≡ true → m ≢ n → is_before (day_at b) n m ≡ true

-- rule 4.3: the retry mark after a look that found none
abbrev pub missed_retry : Table → Board → Job → ℕ → Bool
missed_retry t b w k =
    w.retry || some_claimed (chord_at t w.chord) (channel_at t w.chord k) (message_at b w.subject).sent
    b.messages
