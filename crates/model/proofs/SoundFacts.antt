-- The facts that the test of a sound board stands for, by index, and the way from the test to them and back. That its
-- backoff table passes is told apart: without it the facts hold along every schedule.
-- A sender past the last one reads as idle, so the facts hold of every number.
use mathlib.Core.Path.{◌≡◌, ap, sym, refl, subst}
use mathlib.Core.Logic.{◌⊎◌, ◌≢◌}
use mathlib.Core.Bool.{true, false, Bool, ◌&&◌, not, ◌||◌}
use mathlib.Core.List.{List, [], ◌∷◌}
use mathlib.Mathlib.Data.Bool.Basic.{and_elim_left, and_elim_right}
use Prim.Native.Nat.{ℕ, ◌<◌, ◌≤◌, suc, zero}
use borrow.Author.Tests.{eqb-true, eq-eqb, ltb-true, lt-ltb, leb-true, not-true, le-leb, ne_eqb}
use lib.Dec.{eqb, ltb}
use lib.ListN.{length, get_or}
use native.Mathlib.Omega.{arith}
use Rattle.model.specs.Basics.{is_in, every}
use Rattle.model.specs.Tables.{Table, chord_at, size}
use Rattle.model.specs.Boards.{Message, Board, wake, woken, consume, consumed, Match, channel_of, Job, Phase}
use Rattle.model.specs.Boards.{look, claim, revert, tell, free, signal, pass_end, backoff, State, idle, working}
use Rattle.model.specs.Boards.{blocked, Sender, is_idle, idle_sender, message_at, match_at, sender_at, Status}
use Rattle.model.specs.Boards.{pending, claimed, no_message, no_match, backoffs_pass}
use Rattle.model.specs.Steps.{to_tell}
use Rattle.model.specs.Adds.{cents_ok}
use Rattle.model.specs.Sound.{to_wake, all_below, owns, none_shared, message_ok, note_ok, match_ok, place_ok, state_ok}
use Rattle.model.specs.Sound.{sender_ok, sound}
use Rattle.model.proofs.Tests.{and, both, never, eqb_no, no_true, one_of, of_one, same_test}
use Rattle.model.proofs.Lists.{every-nth, nth-every}
use Rattle.model.proofs.Shares.{Shares, shares-facts, facts-shares}

-- each of the numbers is below m
abbrev pub Below : ℕ → List ℕ → Type 0
Below m ns = (j : ℕ) → j < length ns → get_or ns j 0 < m

pub record MessageFacts (t : Table) (b : Board) (x : Message) : Type 0 where
  pub channel-in : x.sent.channel < length t.kinds
  pub cents-in : cents_ok x.sent.cents ≡ true
  pub match-in : x.match ≤ length b.matches
  pub waker_in : x.waker ≤ length b.messages
  pub woken_by : x.status ≡ woken → 1 ≤ x.waker
  pub consumed_in : x.status ≡ consumed → 1 ≤ x.match

pub record MatchFacts (t : Table) (b : Board) (m : Match) : Type 0 where
  pub chord-in : m.chord < length t.chords
  pub messages_in : Below (length b.messages) m.messages

-- chord r of the table names the channel of subject h, and n messages are chosen
pub record AtChord (t : Table) (b : Board) (h r : ℕ) (chosen : List ℕ) (n : ℕ) : Type 0 where
  pub chord-in : r < length t.chords
  pub names : is_in (channel_of b h) (chord_at t r).channels ≡ true
  pub counted : length chosen ≡ n

-- a message is chosen for each member
abbrev pub AllChosen : Table → Board → Job → Type 0
AllChosen t b w = AtChord t b w.subject w.chord w.chosen (size t w.chord)

abbrev pub PlaceOk : Table → Board → Job → Phase → Type 0
PlaceOk t b w (look k) = AtChord t b w.subject w.chord w.chosen k × (k < size t w.chord)
PlaceOk t b w (claim k) = AllChosen t b w × (k < size t w.chord)
PlaceOk t b w (revert k m) = AllChosen t b w × (k < m) × (m < size t w.chord)
PlaceOk t b w (consume k m) =
    AllChosen t b w × (k < size t w.chord) × (1 ≤ m) × (m ≤ length b.matches) × (to_wake t b w ≡ false)
PlaceOk t b w (tell k) =
    AllChosen t b w × (k < length (to_tell t b.messages w.subject w.chosen)) × (to_wake t b w ≡ false)
PlaceOk t b w wake = AllChosen t b w × (to_wake t b w ≡ true)
PlaceOk t b w (free k) = AllChosen t b w × (to_wake t b w ≡ true) × (suc k < size t w.chord)
PlaceOk t b w signal = AllChosen t b w × (to_wake t b w ≡ true)
PlaceOk t b w pass_end = length w.chosen ≡ 0
PlaceOk t b w (backoff rests) = length w.chosen ≡ 0

-- a job of a sender with this own message and waker (numbers plus 1)
pub record JobFacts (t : Table) (b : Board) (own waker : ℕ) (w : Job) (p : Phase) : Type 0 where
  pub subject_in : w.subject < length b.messages
  pub subject_is : (suc w.subject ≡ own) ⊎ (suc w.subject ≡ waker)
  pub chosen_in : Below (length b.messages) w.chosen
  pub place : PlaceOk t b w p

abbrev pub StateFacts : Table → Board → ℕ → ℕ → State → Type 0
StateFacts t b own waker idle = Unit {0}
StateFacts t b own waker (working w) = (1 ≤ own) × JobFacts t b own waker w w.phase
StateFacts t b own waker blocked = 1 ≤ own

pub record SenderFacts (t : Table) (b : Board) (d : Sender) : Type 0 where
  pub own_in : d.own ≤ length b.messages
  pub waker_in : d.waker ≤ length b.messages
  pub reply_in : d.reply ≤ length b.matches
  pub matched-in : d.matched ≤ length b.matches
  pub state_is : StateFacts t b d.own d.waker d.state

-- no two senders that are not idle have the same own message
abbrev pub Apart : List Sender → Type 0
Apart ds =
    (i j : ℕ) → i ≢ j → is_idle (get_or ds i idle_sender).state ≡ false → is_idle (get_or ds j idle_sender).state ≡ false
    → (get_or ds i idle_sender).own ≢ (get_or ds j idle_sender).own

pub record SoundBoard (t : Table) (b : Board) : Type 0 where
  pub senders_all : length b.senders ≡ 32
  pub messages_few : length b.messages ≤ 1024
  pub matches_few : length b.matches ≤ 1024
  pub message-at : (n : ℕ) → n < length b.messages → MessageFacts t b (message_at b n)
  pub match-at : (k : ℕ) → k < length b.matches → MatchFacts t b (match_at b k)
  pub sender-at : (i : ℕ) → SenderFacts t b (sender_at b i)
  pub own_apart : Apart b.senders
  pub shares : Shares b.tallies (length b.messages)

-- a test and what it stands for
record Reads (u : Bool) (P : Type 0) : Type 0 where
  to : u ≡ true → P
  from : P → u ≡ true

module _ {A : Type 0} (f : A → Bool) (P : A → Type 0) (d : A) (r : (x : A) → Reads (f x) (P x)) where
  all : (xs : List A) → Reads (every f xs) ((n : ℕ) → n < length xs → P (get_or xs n d))
  all xs = record {
    to = λ e n l. (r _).to (every-nth f xs d e n l);
    from = λ g. nth-every f xs d (λ n l. (r _).from (g n l));
  }

  -- past the last one too
  all-and : P d → (xs : List A) → Reads (every f xs) ((n : ℕ) → P (get_or xs n d))
  all-and p xs = record { to = λ e. at xs ((all xs).to e); from = λ g. (all xs).from (λ n l. g n) }
    where
      at : (xs : List A) → ((n : ℕ) → n < length xs → P (get_or xs n d)) → (n : ℕ) → P (get_or xs n d)
      at [] g n = p
      at (x ∷ xs) g zero = g 0 (omega arith)
      at (x ∷ xs) g (suc n) = at xs (λ n l. g (suc n) (omega arith)) n

below : (m : ℕ) (ns : List ℕ) → Reads (all_below m ns) (Below m ns)
below m ns = all (λ n. ltb n m) (λ n. n < m) 0 (λ n. record { to = ltb-true n m; from = lt-ltb n m }) ns

all-below : (m : ℕ) (ns : List ℕ) → all_below m ns ≡ true → Below m ns
all-below m ns = (below m ns).to

below_all : (m : ℕ) (ns : List ℕ) → Below m ns → all_below m ns ≡ true
below_all m ns = (below m ns).from

ruleset reads = (and_elim_left, and_elim_right, ltb-true, leb-true, eqb-true, not-true, all-below, one_of)

ruleset shows = (and, lt-ltb, le-leb, eq-eqb, no_true, below_all, of_one)

-- senders that are not idle, two by two
not-owned : (o : ℕ) (x : Sender) → Reads (not (owns o x)) (is_idle x.state ≡ false → x.own ≢ o)
not-owned o x = go (is_idle x.state)
  where
    go : (u : Bool) → Reads (not (not u && eqb x.own o)) (u ≡ false → x.own ≢ o)
    go true = record { to = λ e z. never (sym z); from = λ f. refl }
    go false = record { to = λ e z. eqb_no _ _ (not-true _ e); from = λ f. rw (ne_eqb x.own o (f refl)) }

alone : (d : Sender) (ds : List Sender) (u : Bool) → Reads (u || every (λ e. not (owns d.own e)) ds)
    (u ≡ false → (j : ℕ) → is_idle (get_or ds j idle_sender).state ≡ false → (get_or ds j idle_sender).own ≢ d.own)
alone d ds true = record { to = λ e z. never (sym z); from = λ f. refl }
alone d ds false =
    let r = all-and (λ e. not (owns d.own e)) _ idle_sender (not-owned d.own) (λ p. never (sym p)) ds in
    record { to = λ e z. r.to e; from = λ f. r.from (f refl) }

none-shared : (ds : List Sender) → Reads (none_shared ds) (Apart ds)
none-shared [] = record { to = λ e i j ne p. never (sym p); from = λ f. refl }
none-shared (d ∷ ds) = record {
  to = λ e. go (both e) (none-shared ds).to;
  from = λ f. and ((alone d ds (is_idle d.state)).from (λ p j q o. f 0 (suc j) (λ z. omega arith) p q (sym o)))
      ((none-shared ds).from (λ i j ne. f (suc i) (suc j) (λ z. ne (omega arith))));
}
  where
    go : ((is_idle d.state || every (λ e. not (owns d.own e)) ds) ≡ true) × (none_shared ds ≡ true)
        → (none_shared ds ≡ true → Apart ds) → Apart (d ∷ ds)
    go h f zero zero ne p q = absurd (ne refl)
    go h f zero (suc j) ne p q = λ o. (alone d ds _).to h.0 p j q (sym o)
    go h f (suc i) zero ne p q = (alone d ds _).to h.0 q i p
    go h f (suc i) (suc j) ne p q = f h.1 i j (λ z. ne (ap suc z)) p q

module _ (t : Table) (b : Board) where
  message : (x : Message) → Reads (message_ok t b x) (MessageFacts t b x)
  unfolding message_ok
  message x = record {
    to = λ e. search (reads, is-noted woken, is-noted consumed);
    from = λ f. let n = noted f x.status refl in search shows;
  }
    where
      is-noted : (s : Status) → x.status ≡ s → note_ok x x.status ≡ true → note_ok x s ≡ true
      is-noted s z e = subst (λ (y : Status). note_ok x y ≡ true) z e

      noted : MessageFacts t b x → (s : Status) → x.status ≡ s → note_ok x s ≡ true
      noted f pending e = refl
      noted f claimed e = refl
      noted f woken e = le-leb 1 _ (f.woken_by e)
      noted f consumed e = le-leb 1 _ (f.consumed_in e)

  match : (m : Match) → Reads (match_ok t b m) (MatchFacts t b m)
  unfolding match_ok
  match m = record { to = λ e. search reads; from = λ f. search shows }

  place : (w : Job) (p : Phase) → Reads (place_ok t b w p) (PlaceOk t b w p)
  place w (look k) = record { to = λ e. search reads; from = λ f. search shows }
  place w (claim k) = record { to = λ e. search reads; from = λ f. search shows }
  place w (revert k m) = record { to = λ e. search reads; from = λ f. search shows }
  place w (consume k m) = record { to = λ e. search reads; from = λ f. search shows }
  place w (tell k) = record { to = λ e. search reads; from = λ f. search shows }
  place w wake = record { to = λ e. search reads; from = λ f. search shows }
  place w (free k) = record { to = λ e. search reads; from = λ f. search shows }
  place w signal = record { to = λ e. search reads; from = λ f. search shows }
  place w pass_end = record { to = λ e. search reads; from = λ f. search shows }
  place w (backoff rests) = record { to = λ e. search reads; from = λ f. search shows }

  state : (d : Sender) (x : State) → Reads (state_ok t b d x) (StateFacts t b d.own d.waker x)
  state d idle = record { to = λ e. tt; from = λ f. refl }
  state d (working w) =
      let p = place w w.phase in record { to = λ e. search (reads, p.to); from = λ f. search (shows, p.from) }
  state d blocked = record { to = λ e. search reads; from = λ f. search shows }

  sender : (d : Sender) → Reads (sender_ok t b d) (SenderFacts t b d)
  unfolding sender_ok
  sender d =
      let s = state d d.state in record { to = λ e. search (reads, s.to); from = λ f. search (shows, s.from) }

  board : Reads (sound t b) (SoundBoard t b × (backoffs_pass b.backoffs ≡ true))
  unfolding sound
  board =
      let ms = all (message_ok t b) _ no_message message b.messages in
      let ks = all (match_ok t b) _ no_match match b.matches in
      let ds = all-and (sender_ok t b) _ idle_sender sender (search arith) b.senders in
      let os = none-shared b.senders in
      record {
        to = λ e. search (reads, ms.to, ks.to, ds.to, os.to, shares-facts) depth 9;
        from = λ f. search (shows, ms.from, ks.from, ds.from, os.from, facts-shares) depth 9;
      }

pub sound-facts : (t : Table) (b : Board) → sound t b ≡ true → SoundBoard t b
sound-facts t b e = ((board t b).to e).0

pub sound-rests : (t : Table) (b : Board) → sound t b ≡ true → backoffs_pass b.backoffs ≡ true
sound-rests t b e = ((board t b).to e).1

pub facts-sound : {t : Table} {b : Board} → SoundBoard t b → sound t b ≡ backoffs_pass b.backoffs
facts-sound {t} {b} f = same_test (sound-rests t b) (λ e. (board t b).from (f, e))
