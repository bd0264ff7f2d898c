-- Two outcomes of a call are one but for the caller's leftovers: the model sees the same in both, and what it does not
-- see stays as it was, or is the caller's choice.
use mathlib.Core.Path.{◌≡◌, refl, sym, ap, subst, ◌∙◌}
use mathlib.Core.Logic.{◌⊎◌, ◌≢◌, inl, inr}
use mathlib.Core.Bool.{Bool, true, false}
use mathlib.Core.List.{List, [], ◌∷◌, ◌++◌, map}
use Prim.Native.Nat.{ℕ, zero, suc, ◌+◌, ◌*◌, ◌<◌, ◌≤◌}
use native.Mathlib.Omega.{arith}
use lib.IntN.{pos}
use lib.ListN.{length, length-append, get_or, drop, drop_of_length-le}
use lib.Seq.{drop-drop, drop-cons}
use Rattle.model.specs.Tables.{Table}
use Rattle.model.specs.Layout.{table_of}
use Rattle.model.specs.Boards.{Board, Message, Match, message_at, match_at, sender_at, Sender}
use Rattle.model.specs.Effects.{Said, Refused, number_of}
use Rattle.model.specs.Pools.{Call, adds, steps, closes, answer_to}
use Rattle.model.proofs.Tests.{same?}
use Rattle.model.proofs.Grows.{code}
use Rattle.model.proofs.StepFrame.{frame}
use Rattle.columns.specs.Columns.{message_in, columns_of, days_at}
use Rattle.columns.specs.MatchColumns.{match_in, matches_of}
use Rattle.state.specs.declared.Sender as DD
use Rattle.state.specs.Views.{sender_in}
use Rattle.boards.specs.Boards.{HeldBoard, closed_by, zero_sender}
use Rattle.boards.specs.Calls.{Held, held}
use Rattle.boards.specs.Layout.{Lists, close_day_at}
use Rattle.boards.specs.Parts.{part}
use Rattle.boards.proofs.PartLaws.{length_part, get_d_part}
use Rattle.boards.proofs.SenderLaws.{nth-sender}
use Rattle.refusals.specs.Judged.{Lengths}
use Rattle.refusals.specs.Held.{held_in}
use Rattle.refusals.specs.Calls.{board_of, refusal_of, SameFrom, caller_of, row_at, Plays}
use Rattle.refusals.proofs.HeldLaws.{accepted-lists}
use Rattle.refusals.proofs.HeldOnce.{from-part, past-ends, held-once}
use Rattle.refusals.proofs.Refusals.{messages_few}
use Rattle.plays.specs.Replays.{CallRows, calls_len, calls_of, answer_number, PlaysInTurn}
use Rattle.calls.specs.Calls.{Calls, ReplaysIn}
use Rattle.schedules.specs.Outcomes.{LeavesAlike, TurnsAlike, ReplaysAlike, Determined}
use Rattle.schedules.proofs.HeldParts.{messages-held, matches-held, message-held, match-held}
use Rattle.schedules.proofs.HeldParts.{lengths, senders-length, status-few}
use Rattle.schedules.proofs.Unseen.{joined, same-list, status-back, row_is, sender-same}

-- a call records one match at most
matches_more : (t : Table) (b : Board) (k : Call) → length (answer_to t b k).board.matches ≤ length b.matches + 1
matches_more t b (adds i x) = omega (arith, ap length (frame.add t b i x).matches)
matches_more t b (steps i) =
    let f = frame.step t b i in
    omega (arith, f.at_most_one, ap length f.matches, length-append b.matches f.recorded)
matches_more t b (closes day) = omega (arith, ap length (frame.close t b day).matches)

-- One call

abbrev board_by : ℕ → ℕ → List DD.Sender → Bool → List ℕ → List ℕ → HeldBoard
board_by n m ds u ks rests =
    record { messages = n; matches = m; senders = ds; closed = u; tallies = ks; backoffs = rests }

-- two close days plus 1 that are equal
same_flag : (u v : Bool) (x y : ℕ) → closed_by u x ≡ closed_by v y → u ≡ v
same_flag true true x y e = refl
same_flag true false x y e = absurd (omega (arith, e))
same_flag false true x y e = absurd (omega (arith, e))
same_flag false false x y e = refl

-- a column that is z's past n numbers in both outcomes
column : {A : Type 0} (d : A) (n m : ℕ) (xs ys zs : List A) → n ≡ m → length xs ≡ 1024 → length ys ≡ 1024
    → ((i : ℕ) → i < n → get_or xs i d ≡ get_or ys i d) → SameFrom n xs zs → SameFrom m ys zs → xs ≡ ys
column d n m xs ys zs e j k each p q = same-list d n xs ys (j ∙ sym k) each (p ∙ sym (rw e q))

module _ (s : List ℕ) (h : Held) (k : Call) (v w : Said) (f g : Held) (z : refusal_of s h ≡ 0) (p : Plays s h k v f)
    (q : Plays s h k w g) (alike : LeavesAlike s k f g) where
  boards : board_of s f ≡ board_of s g
  boards = p.leaves z ∙ sym (q.leaves z)

  messages-count : f.board.messages ≡ g.board.messages
  messages-count = sym (messages-held s f (board_of s f) refl) ∙ messages-held s g (board_of s f) (sym boards)

  matches_count : f.board.matches ≡ g.board.matches
  matches_count = sym (matches-held s f (board_of s f) refl) ∙ matches-held s g (board_of s f) (sym boards)

  message-same : (i : ℕ) → i < f.board.messages → message_in f.columns i ≡ message_in g.columns i
  message-same i l =
      sym (message-held s f i l) ∙ ap (λ (b : Board). message_at b i) boards
      ∙ message-held s g i (rw messages-count at l)

  match-same : (i : ℕ) → i < f.board.matches
      → match_in (table_of s) f.matches i ≡ match_in (table_of s) g.matches i
  match-same i l =
      sym (match-held s f i l) ∙ ap (λ (b : Board). match_at b i) boards
      ∙ match-held s g i (rw matches_count at l)

  row_seen : (j : ℕ) → sender_in (table_of s) (row_at f j) ≡ sender_in (table_of s) (row_at g j)
  row_seen j =
      nth-sender (table_of s) f.board.senders j ∙ ap (λ (b : Board). sender_at b j) boards
      ∙ sym (nth-sender (table_of s) g.board.senders j)

  caller-same : row_at f (caller_of k) ≡ row_at g (caller_of k)
  caller-same = sender-same (table_of s) _ _ (row_seen (caller_of k)) alike

  row_same : (j : ℕ) → row_at f j ≡ row_at g j
  row_same j = go (same? j (caller_of k))
    where
      go : (j ≡ caller_of k) ⊎ (j ≢ caller_of k) → row_at f j ≡ row_at g j
      go (inl e) = rw e caller-same
      go (inr n) =
          row_is (row_at h j) _ _ (p.others j n) (q.others j n) (ap (λ (d : Sender). d.signalled) (row_seen j))

  senders-same : f.board.senders ≡ g.board.senders
  senders-same =
      let m = senders-length s f (p.accepted z) in
      let n = senders-length s g (q.accepted z) in
      let x : length f.board.senders ≤ 32 = omega (arith, m) in
      let y : length g.board.senders ≤ 32 = omega (arith, n) in
      same-list zero_sender 32 _ _ (m ∙ sym n) (λ j _. row_same j)
      (drop_of_length-le f.board.senders x ∙ sym (drop_of_length-le g.board.senders y))

  closed_same : f.board.closed ≡ g.board.closed
  closed_same = same_flag _ _ _ _ (ap (λ (b : Board). b.closed) boards)

  tallies-same : f.board.tallies ≡ g.board.tallies
  tallies-same = ap (λ (b : Board). b.tallies) boards

  backoffs-same : f.board.backoffs ≡ g.board.backoffs
  backoffs-same = ap (λ (b : Board). b.backoffs) boards

  day-same : get_or f.columns.keys close_day_at 0 ≡ get_or g.columns.keys close_day_at 0
  day-same = go f.board.closed refl
    where
      go : (u : Bool) → f.board.closed ≡ u
          → get_or f.columns.keys close_day_at 0 ≡ get_or g.columns.keys close_day_at 0
      go true e = omega (arith, rw (e, sym closed_same ∙ e) at (ap (λ (b : Board). b.closed) boards))
      go false e = p.beyond.close_day e ∙ sym (q.beyond.close_day (sym closed_same ∙ e))

  columns-same : f.columns ≡ g.columns
  unfolding message_in
  columns-same = go
    where
      a : Lengths f.columns f.matches
      a = lengths s f (p.accepted z)

      b : Lengths g.columns g.matches
      b = lengths s g (q.accepted z)

      statuses : (i : ℕ) → i < f.board.messages
          → get_or f.columns.statuses i 0 ≡ get_or g.columns.statuses i 0
      statuses i l =
          sym (status-back _ (status-few s f (p.accepted z) i l))
          ∙ ap (λ (x : Message). code x.status) (message-same i l)
          ∙ status-back _ (status-few s g (q.accepted z) i (rw messages-count at l))

      each : {A : Type 0} (d : A) (xs ys zs : List A) → length xs ≡ 1024 → length ys ≡ 1024
          → ((i : ℕ) → i < f.board.messages → get_or xs i d ≡ get_or ys i d)
          → SameFrom f.board.messages xs zs → SameFrom g.board.messages ys zs → xs ≡ ys
      each d xs ys zs = column d f.board.messages g.board.messages xs ys zs messages-count

      key : (at : ℕ) (ks : List ℕ) (i : ℕ) → i < f.board.messages → get_or (part at 1024 ks) i 0 ≡ get_or ks (at + i) 0
      key at ks i l =
          let few = messages_few s _ _ _ (p.accepted z) in
          get_d_part at 1024 ks (at + i) i 0 refl (omega arith)

      keys-part : (at : ℕ) → at + 1024 ≤ 2048 → ((i : ℕ) → i < f.board.messages
          → get_or f.columns.keys (at + i) 0 ≡ get_or g.columns.keys (at + i) 0)
          → SameFrom f.board.messages (part at 1024 f.columns.keys) (part at 1024 h.columns.keys)
          → SameFrom g.board.messages (part at 1024 g.columns.keys) (part at 1024 h.columns.keys)
          → part at 1024 f.columns.keys ≡ part at 1024 g.columns.keys
      keys-part at n e =
          each 0 _ _ _ (length_part at 1024 _ (omega (arith, a.keys-len)))
          (length_part at 1024 _ (omega (arith, b.keys-len)))
          (λ i l. key at _ i l ∙ e i l ∙ sym (key at _ i l))

      property-same : (i : ℕ) → i < f.board.messages
          → get_or f.columns.keys (0 + i) 0 ≡ get_or g.columns.keys (0 + i) 0
      property-same i l =
          let e : 0 + i ≡ i = omega arith in
          rw e (ap (λ (x : Message). x.sent.property) (message-same i l))

      -- the close day, which is the last of the keys
      last : SameFrom close_day_at f.columns.keys g.columns.keys
      last =
          drop-cons f.columns.keys close_day_at 0 (omega (arith, a.keys-len))
          ∙ cc (
            day-same,
            past-ends f.columns.keys g.columns.keys 2049 (omega (arith, a.keys-len))
                (omega (arith, b.keys-len)),
          )
          ∙ sym (drop-cons g.columns.keys close_day_at 0 (omega (arith, b.keys-len)))

      keys : f.columns.keys ≡ g.columns.keys
      keys =
          from-part f.columns.keys g.columns.keys 0 1024
          (keys-part 0 (omega arith) property-same p.beyond.properties q.beyond.properties)
          (from-part f.columns.keys g.columns.keys days_at 1024
          (keys-part days_at (omega arith) (λ i l. ap (λ (x : Message). x.sent.day) (message-same i l))
          p.beyond.days q.beyond.days)
          last)

      go : columns_of f.columns.channels f.columns.keys f.columns.cents f.columns.statuses
          f.columns.matched f.columns.wakers f.columns.units
          ≡ columns_of g.columns.channels g.columns.keys g.columns.cents g.columns.statuses
          g.columns.matched g.columns.wakers g.columns.units
      go =
          cc (
            each 0 _ _ _ a.channels-len b.channels-len
                (λ i l. ap (λ (x : Message). x.sent.channel) (message-same i l)) p.beyond.channels
                q.beyond.channels,
            keys,
            each (pos 0) _ _ _ a.cents-len b.cents-len
                (λ i l. ap (λ (x : Message). x.sent.cents) (message-same i l)) p.beyond.cents
                q.beyond.cents,
            each 0 _ _ _ a.statuses_len b.statuses_len statuses p.beyond.statuses q.beyond.statuses,
            each 0 _ _ _ a.matched_len b.matched_len
                (λ i l. ap (λ (x : Message). x.match) (message-same i l)) p.beyond.matched q.beyond.matched,
            each 0 _ _ _ a.wakers_len b.wakers_len
                (λ i l. ap (λ (x : Message). x.waker) (message-same i l)) p.beyond.wakers q.beyond.wakers,
            each 0 _ _ _ a.units_len b.units_len
                (λ i l. ap (λ (x : Message). x.sent.unit) (message-same i l)) p.beyond.units q.beyond.units,
          )

  chords_same : f.matches.chords ≡ g.matches.chords
  unfolding match_in
  chords_same =
      column 0 f.board.matches g.board.matches _ _ _ matches_count (lengths s f (p.accepted z)).chords-len
      (lengths s g (q.accepted z)).chords-len (λ i l. ap (λ (x : Match). x.chord) (match-same i l))
      p.beyond.chords q.beyond.chords

  -- the numbers of all matches that were there, of the one that is recorded, and those past them
  members-same : f.matches.messages ≡ g.matches.messages
  unfolding part
  members-same =
      joined n xs ys (p.beyond.recorded ∙ sym q.beyond.recorded)
      (go (same? f.board.matches h.board.matches))
    where
      n : ℕ
      n = 8 * h.board.matches

      xs : List ℕ
      xs = f.matches.messages

      ys : List ℕ
      ys = g.matches.messages

      past : SameFrom (8 * f.board.matches) xs ys
      past = p.beyond.messages ∙ sym (rw matches_count q.beyond.messages)

      one : f.board.matches ≤ h.board.matches + 1
      one =
          omega (
            arith,
            matches_more (table_of s) (board_of s h) k,
            matches-held s f (answer_to (table_of s) (board_of s h) k).board (p.leaves z),
            matches-held s h (board_of s h) refl,
          )

      go : (f.board.matches ≡ h.board.matches) ⊎ (f.board.matches ≢ h.board.matches) → SameFrom n xs ys
      go (inl e) = rw e at past
      go (inr e) =
          let l : h.board.matches < f.board.matches = omega (arith, e, p.beyond.matches_grow) in
          let m : 8 * f.board.matches ≡ n + 8 = omega (arith, l, one) in
          joined 8 (drop n xs) (drop n ys)
          (p.records l ∙ ap (λ (d : DD.Sender). d.job.chosen) caller-same ∙ sym (q.records (rw matches_count at l)))
          (drop-drop 8 n xs ∙ rw m at past ∙ sym (drop-drop 8 n ys))

  outcome-same : f ≡ g
  outcome-same = go
    where
      go : held (board_by f.board.messages f.board.matches f.board.senders f.board.closed
          f.board.tallies f.board.backoffs) f.columns (matches_of f.matches.chords f.matches.messages)
          ≡ held (board_by g.board.messages g.board.matches g.board.senders g.board.closed
          g.board.tallies g.board.backoffs) g.columns (matches_of g.matches.chords g.matches.messages)
      go = cc (
        messages-count,
        matches_count,
        senders-same,
        closed_same,
        tallies-same,
        backoffs-same,
        columns-same,
        chords_same,
        members-same,
      )

-- All calls

module _ (s : List ℕ) (h : Held) (k : Call) (w : Said) (g : Held) (p : Plays s h k w g) where
  refused-said : (n : ℕ) → refusal_of s h ≡ suc n → number_of w ≢ 0
  refused-said n e x =
      let u : w ≡ Refused (suc n) = rw e at p.says in
      absurd (omega (arith, ap number_of u, x))

held_same : (s : List ℕ) (h : Held) (k : Call) (v w : Said) (f g : Held) → Plays s h k v f → Plays s h k w g
    → LeavesAlike s k f g → (v ≡ w) × (f ≡ g)
held_same s h k v w f g p q alike = (p.says ∙ sym q.says, go (refusal_of s h) refl)
  where
    go : (n : ℕ) → refusal_of s h ≡ n → f ≡ g
    go zero e = outcome-same s h k v w f g e p q alike
    go (suc n) e = p.keeps (refused-said s h k v f p n e) ∙ sym (q.keeps (refused-said s h k w g q n e))

lists-same : (s : List ℕ) (l : Lists) (k : Call) (v w : Said) (f g : Lists) → Calls s l k v f → Calls s l k w g
    → LeavesAlike s k (held_in f) (held_in g) → (v ≡ w) × (f ≡ g)
lists-same s l k v w f g p q alike = (r.0, go (refusal_of s (held_in l)) refl)
  where
    r : (v ≡ w) × (held_in f ≡ held_in g)
    r = held_same s (held_in l) k v w (held_in f) (held_in g) p.plays q.plays alike

    go : (n : ℕ) → refusal_of s (held_in l) ≡ n → f ≡ g
    go zero e =
        held-once s f g (accepted-lists s f (p.plays.accepted e)) (accepted-lists s g (q.plays.accepted e)) r.1
    go (suc n) e =
        p.keeps (refused-said s (held_in l) k v (held_in f) p.plays n e)
        ∙ sym (q.keeps (refused-said s (held_in l) k w (held_in g) q.plays n e))

turns_same : (s : List ℕ) (h i : Held) (ks : List Call) (vs ws : List Said) (f g : Held) → h ≡ i
    → (p : PlaysInTurn s h ks vs f) (q : PlaysInTurn s i ks ws g) → TurnsAlike s h i ks vs ws f g p q
    → (vs ≡ ws) × (f ≡ g)
turns_same s h i [] vs ws f g e p q alike = (p.0 ∙ sym q.0, p.1 ∙ e ∙ sym q.1)
turns_same s h i (k ∷ ks) [] ws f g e p q alike = absurd alike
turns_same s h i (k ∷ ks) (v ∷ vs) [] f g e p q alike = absurd alike
turns_same s h i (k ∷ ks) (v ∷ vs) (w ∷ ws) f g e p q alike =
    let r = held_same s h k v w p.0 q.0 p.1 (subst (λ (x : Held). Plays s x k w q.0) (sym e) q.1)
    alike.0 in
    let u = turns_same s p.0 q.0 ks vs ws f g r.1 p.2 q.2 alike.1 in
    (cc (r.0, u.0), u.1)

replays-same : (s : List ℕ) (l : Lists) (c : CallRows) (before v w : List ℕ) (f g : Lists)
    → (p : ReplaysIn s l c before v 0 f) (q : ReplaysIn s l c before w 0 g)
    → ReplaysAlike s l c before v w f g p q → (v ≡ w) × (f ≡ g)
replays-same s l c before v w f g p q alike =
    let x = p.replays.plays refl in
    let y = q.replays.plays refl in
    let r = turns_same s (held_in l) (held_in l) (calls_of c) x.said y.said (held_in f) (held_in g) refl x.turns
    y.turns alike in (
      x.answers ∙ ap (λ ws. map answer_number ws ++ drop (calls_len c) before) r.0 ∙ sym y.answers,
      held-once s f g (accepted-lists s f x.accepted) (accepted-lists s g y.accepted) r.1,
    )

pub determined : Determined
determined = record { held = held_same; lists = lists-same; replays = replays-same }
