-- Writes to the numbers of a board, one place or one sender at a time: the numbers of another board.
use Rattle.std.proofs.Common.{◌≡◌, ℕ, zero, suc, ◌+◌, ◌*◌, ◌<◌, Bool, true, false, List, [], ◌∷◌, ◌++◌, length, get_or}
use Rattle.std.proofs.Common.{set, refl, sym, ap, ◌∙◌, Some, arith, append_assoc, length-append, length-set, take_at}
use Rattle.std.proofs.Common.{drop_at, drop-drop, get_or-append-add}
use Rattle.std.proofs.lemmas.List.{set-append_left, set-get_or, get_or_append_left}
use Rattle.std.proofs.lemmas.List.Edits.{paste_all}
use Rattle.std.proofs.Math.Seq.{paste}
use Rattle.model.specs.Basics.{flag}
use Rattle.model.proofs.Parts.{set-behind}
use Rattle.state.specs.declared.Sender as DD
use Rattle.boards.specs.Boards.{HeldBoard, zero_sender}
use Rattle.boards.specs.declared.Sent as DS
use Rattle.boards.specs.Layout.{board_len, closed_at, tallies_at}
use Rattle.boards.proofs.PartLaws.{get_d_part}
use Rattle.rows.specs.Fits.{SenderFits, SendersFit, BoardFits}
use Rattle.rows.specs.Numbers.{sender_numbers, senders_numbers, end_numbers, board_numbers, encodes}
use Rattle.rows.specs.Decoded.{board_from}
use Rattle.rows.proofs.SenderLaws.{sender-long}
use Rattle.rows.proofs.WalkLaws.{all-numbers}
use Rattle.rows.proofs.DecodeLaws.{from_back}
use Rattle.rows.proofs.Encoded.{encoded-ok, board-back, senders-long}
use Rattle.writes.specs.Moves.{put_if, added_board}

-- numbers that are those of a board
abbrev pub IsBoard : List ℕ → HeldBoard → Type 0
IsBoard s b = (encodes s ≡ true) × (board_from s ≡ b)

is-board : (s : List ℕ) (b : HeldBoard) → BoardFits b → s ≡ board_numbers b → IsBoard s b
is-board s b f e = rw e (encoded-ok b f, board-back b f)

-- they are as many
pub board-long : (s : List ℕ) → encodes s ≡ true → length s ≡ board_len
board-long s ok = (all-numbers s ok).0

pub ruleset board_lengths = (board-long, length-set)

-- a write that may be left out keeps the length
pub length-put : {A : Type 0} (u : Bool) (s : List A) (i : ℕ) (a : A) → length (put_if u s i a) ≡ length s
length-put true s i a = length-set s i a
length-put false s i a = refl

-- a list between two others
module _ {A : Type 0} (p xs q : List A) (n : ℕ) (e : n ≡ length p) where
  mid-get : (j : ℕ) (d : A) → j < length xs → get_or (p ++ (xs ++ q)) (n + j) d ≡ get_or xs j d
  mid-get j d h = rw (e, get_or-append-add p (xs ++ q) j d) (get_or_append_left xs q d j h)

  mid-set : (j : ℕ) (v : A) → j < length xs → set (p ++ (xs ++ q)) (n + j) v ≡ p ++ (set xs j v ++ q)
  mid-set j v h = rw (e, set-behind p (xs ++ q) j v, set-append_left xs q j v h)

  mid-paste : (ys : List A) (m : ℕ) → m ≡ length xs → m ≡ length ys → paste (p ++ (xs ++ q)) n ys m ≡ p ++ (ys ++ q)
  mid-paste ys m h l =
      rw (
        paste_all (p ++ (xs ++ q)) n ys m l,
        take_at p (xs ++ q) n (sym e),
        ← drop-drop m n (p ++ (xs ++ q)),
        drop_at p (xs ++ q) n (sym e),
        drop_at xs q m (sym h),
      )

-- the numbers before a sender and behind it, whoever it is
record Between (ds : List DD.Sender) (rest : List ℕ) (i : ℕ) : Type 0 where
  front : List ℕ
  back : List ℕ
  long : 21 * i ≡ length front
  spelled : (d : DD.Sender) → senders_numbers (set ds i d) ++ rest ≡ front ++ (sender_numbers d ++ back)

between : (ds : List DD.Sender) (rest : List ℕ) (i : ℕ) → i < length ds → SendersFit ds → Between ds rest i
unfolding senders_numbers
between [] rest i h f = absurd (omega arith)
between (e ∷ ds) rest zero h f = record {
  front = [];
  back = senders_numbers ds ++ rest;
  long = refl;
  spelled = λ d. append_assoc (sender_numbers d) (senders_numbers ds) rest;
}
between (e ∷ ds) rest (suc i) h f =
    let p = between ds rest i (omega arith) f.1 in
    record {
      front = sender_numbers e ++ p.front;
      back = p.back;
      long = omega (arith, length-append (sender_numbers e) p.front, sender-long e f.0, p.long);
      spelled = λ d. rw (
        append_assoc (sender_numbers e) (senders_numbers (set ds i d)) rest,
        append_assoc (sender_numbers e) p.front (sender_numbers d ++ p.back),
        p.spelled d,
      );
    }

fit-get : (ds : List DD.Sender) (i : ℕ) (z : DD.Sender) → i < length ds → SendersFit ds → SenderFits (get_or ds i z)
fit-get [] i z h f = absurd (omega arith)
fit-get (x ∷ xs) zero z h f = f.0
fit-get (x ∷ xs) (suc i) z h f = fit-get xs i z (omega arith) f.1

fit-set : (ds : List DD.Sender) (i : ℕ) (d : DD.Sender) → SendersFit ds → SenderFits d → SendersFit (set ds i d)
fit-set [] i d f g = tt
fit-set (x ∷ xs) zero d f g = (g, f.1)
fit-set (x ∷ xs) (suc i) d f g = (f.0, fit-set xs i d f.1 g)

module _ (s : List ℕ) (ok : encodes s ≡ true) where
  abbrev b : HeldBoard
  b = board_from s

  fits : BoardFits b
  fits = (from_back s ok).1

  -- the counts
  pub messages-set : (n : ℕ) → IsBoard (set s 0 n) (record b { messages = n })
  unfolding board_numbers
  messages-set n =
      is-board _ _ (record { all = fits.all; each = fits.each; ends = fits.ends })
      (ap (λ (x : List ℕ). set x 0 n) (sym (from_back s ok).0))

  pub matches-set : (k : ℕ) → IsBoard (set s 1 k) (record b { matches = k })
  unfolding board_numbers
  matches-set k =
      is-board _ _ (record { all = fits.all; each = fits.each; ends = fits.ends })
      (ap (λ (x : List ℕ). set x 1 k) (sym (from_back s ok).0))

  module _ (i : ℕ) (h : i < 32) where
    -- a tally
    tally-set : (v : ℕ) → IsBoard (set s (tallies_at + i) v) (record b { tallies = set b.tallies i v })
    unfolding board_numbers
    tally-set v =
        let past : tallies_at + i ≡ closed_at + suc i = omega arith in
        is-board _ _
        (record { all = fits.all; each = fits.each; ends = (length-set b.tallies i v ∙ fits.ends.0, fits.ends.1) })
        (ap (λ (x : List ℕ). set x (tallies_at + i) v) (sym (from_back s ok).0)
        ∙ ap (λ (j : ℕ). set (board_numbers b) j v) past
        ∙ mid-set (b.messages ∷ b.matches ∷ senders_numbers b.senders) (flag b.closed ∷ b.tallies) b.backoffs closed_at
        (omega (arith, senders-long b.senders fits.each, fits.all)) (suc i) v (omega (arith, fits.ends.0)))

    abbrev pub d : DD.Sender
    d = get_or b.senders i zero_sender

    at : Between b.senders (end_numbers b) i
    at = between b.senders (end_numbers b) i (omega (arith, fits.all)) fits.each

    abbrev front : List ℕ
    front = b.messages ∷ b.matches ∷ at.front

    abbrev spelled : DD.Sender → List ℕ
    spelled e = front ++ (sender_numbers e ++ at.back)

    -- the board with another sender at the place
    abbrev pub with_sender : DD.Sender → HeldBoard
    with_sender e = record b { senders = set b.senders i e }

    is-spelled : (e : DD.Sender) → board_numbers (with_sender e) ≡ spelled e
    unfolding board_numbers
    is-spelled e = ap (λ (x : List ℕ). b.messages ∷ b.matches ∷ x) (at.spelled e)

    now-spelled : s ≡ spelled d
    now-spelled = rw (set-get_or b.senders i zero_sender, (from_back s ok).0) at (is-spelled d)

    d-fits : SenderFits d
    d-fits = fit-get b.senders i zero_sender (omega (arith, fits.all)) fits.each

    with-sender : (e : DD.Sender) (s' : List ℕ) → SenderFits e → s' ≡ spelled e → IsBoard s' (with_sender e)
    with-sender e s' g q =
        is-board s' (with_sender e)
        (record {
          all = length-set b.senders i e ∙ fits.all;
          each = fit-set b.senders i e fits.each g;
          ends = fits.ends;
        })
        (q ∙ sym (is-spelled e))

    -- number j of the sender
    pub number-get : (j k : ℕ) → j < 21 → k ≡ 2 + 21 * i + j → get_or s k 0 ≡ get_or (sender_numbers d) j 0
    number-get j k l e =
        ap (λ (x : List ℕ). get_or x k 0) now-spelled ∙ ap (λ (x : ℕ). get_or (spelled d) x 0) e
        ∙ mid-get front (sender_numbers d) at.back (2 + 21 * i) (omega (arith, at.long)) j 0
        (omega (arith, sender-long d d-fits))

    pub sender-paste : (e : DD.Sender) (k : ℕ) (s' : List ℕ) → k ≡ i
        → (s' ≡ paste s (2 + 21 * k) (sender_numbers e) 21) × SenderFits e → IsBoard s' (with_sender e)
    sender-paste e k s' q r =
        with-sender e s' r.1
        (r.0 ∙ ap (λ (x : List ℕ). paste x (2 + 21 * k) (sender_numbers e) 21) now-spelled
        ∙ mid-paste front (sender_numbers d) at.back (2 + 21 * k) (omega (arith, q, at.long)) (sender_numbers e) 21
        (sym (sender-long d d-fits)) (sym (sender-long e r.1)))

    pub signal-set : IsBoard (set s (2 + 21 * i + 1) 1) (with_sender (record d { signalled = true }))
    unfolding sender_numbers
    signal-set =
        with-sender _ _
        (record { chord = d-fits.chord; phase = d-fits.phase; chosen = d-fits.chosen; retries = d-fits.retries })
        (ap (λ (x : List ℕ). set x (2 + 21 * i + 1) 1) now-spelled
        ∙ mid-set front (sender_numbers d) at.back (2 + 21 * i) (omega (arith, at.long)) 1 1
        (omega (arith, sender-long d d-fits)))

-- one message more, which the sender at place i has added
pub added-one : (s : List ℕ) → encodes s ≡ true → (i k : ℕ) → i < 32 → k ≡ i → (x : DS.Sent)
    → let t = set s (tallies_at + k) (get_or s (tallies_at + k) 0 + 1) in
    IsBoard (set t 0 (get_or t 0 0 + 1)) (added_board (board_from s) i (Some x))
unfolding board_from
added-one s ok i k h e x =
    let t = tally-set s ok i h (get_or s (tallies_at + i) 0 + 1) in
    let m = messages-set _ t.0 (get_or (set s (tallies_at + i) (get_or s (tallies_at + i) 0 + 1)) 0 0 + 1) in
    let read = get_d_part tallies_at 32 s (tallies_at + i) i 0 refl h in
    rw e (m.0, m.1 ∙ ap (λ (g : HeldBoard). record g { messages = g.messages + 1 }) t.1 ∙ rw read)
