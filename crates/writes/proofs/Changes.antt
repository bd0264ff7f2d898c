-- A change, written to the columns and the senders, is the model's board after the step.
use Rattle.std.proofs.Common.{◌≡◌, ◌≢◌, ◌⊎◌, inl, inr, ℕ, suc, ◌+◌, ◌*◌, ◌<◌, ◌≤◌, List, [], ◌∷◌, ◌++◌, map, length}
use Rattle.std.proofs.Common.{length-set, get_or, set, take, refl, sym, ap, ◌∙◌, arith, add-one}
use Rattle.std.proofs.Common.{get_or-set_same, get_or-set_other}
use Rattle.std.proofs.lemmas.List.{same_lists}
use Rattle.std.proofs.Math.Seq.{paste}
use Rattle.model.specs.Tables.{Table, size}
use Rattle.model.specs.Boards.{Message, no_message}
use Rattle.model.specs.Effects.{apply, messages_after, matches_after, senders_after, turned, signalled_sender}
use Rattle.model.proofs.Parts.{part_same, paste-front, paste-part}
use Rattle.model.proofs.SoundFrame.{TurnIn, InRange}
use Rattle.model.proofs.Tests.{same?}
use Rattle.columns.specs.Columns.{Columns, list_from, status_of, message_in, messages_from}
use Rattle.columns.specs.MatchColumns.{MatchColumns, match_in, matches_from}
use Rattle.columns.proofs.ListFrom.{length_from, nth-from, added-from}
use Rattle.columns.proofs.Messages.{length-messages, nth-message}
use Rattle.state.specs.declared.State as DS
use Rattle.state.specs.declared.State.TheVariants as S
use Rattle.state.specs.declared.Sender as DD
use Rattle.state.specs.declared.Turn as DU
use Rattle.state.specs.declared.Turn.TheVariants as U
use Rattle.state.specs.declared.Change as DG
use Rattle.state.specs.declared.Change.TheVariants as G
use Rattle.state.specs.declared.Job as DJ
use Rattle.state.specs.declared.Effect as DE
use Rattle.state.specs.Views.{turn_in, change_in, sender_in, effect_in}
use Rattle.boards.specs.Boards.{HeldBoard, board_in}
use Rattle.boards.proofs.SenderLaws.{set-sender}
use Rattle.refusals.specs.Judged.{Lengths}
use Rattle.writes.specs.Writes.{ChordsFit, WakerFits, Sure, status_by, match_by, waker_by, signalled_by, effect_board}
use Rattle.writes.specs.Written.{columns_after, matches_with}

-- a list by number with another element at place k
module _ {A : Type 0} (f g : ℕ → A) (k n : ℕ) (x : A) (h : k < n) (other : (i : ℕ) → i ≢ k → g i ≡ f i)
    (here : g k ≡ x) where
  element : (i : ℕ) (d : A) → i < n → (i ≡ k) ⊎ (i ≢ k)
      → get_or (list_from g 0 n) i d ≡ get_or (set (list_from f 0 n) k x) i d
  element i d l (inl e) =
      rw (e, nth-from g d n k h, here, get_or-set_same (list_from f 0 n) k x d (omega (arith, h, length_from f 0 n)))
  element i d l (inr e) =
      rw (nth-from g d n i l, get_or-set_other (list_from f 0 n) k i x d e, nth-from f d n i l) (other i e)

  from-set : list_from g 0 n ≡ set (list_from f 0 n) k x
  from-set =
      same_lists _ _ (length_from g 0 n ∙ sym (length-set (list_from f 0 n) k x ∙ length_from f 0 n))
      (λ i d l. element i d (omega (arith, l, length_from g 0 n)) (same? i k))

-- the bytes of a turned message
bytes-turned : (x : Message) (u : DU.Turn) → record {
  sent = x.sent;
  status = status_of (status_by u);
  match = match_by u x.match;
  waker = waker_by u x.waker;
} ≡ turned (turn_in u) x
bytes-turned x U.Claims = refl
bytes-turned x U.Frees = refl
bytes-turned x (U.Consumes m) = refl
bytes-turned x (U.WakesBy h) = rw (add-one h)
bytes-turned x U.Resumes = refl

module _ (c : Columns) (k : ℕ) (u : DU.Turn) where
  other : (i : ℕ) → i ≢ k → message_in (columns_after (G.Turn k u) c) i ≡ message_in c i
  unfolding message_in
  other i h = simp get_or-set_other

  here : k < length c.statuses → k < length c.matched → k < length c.wakers
      → message_in (columns_after (G.Turn k u) c) k ≡ turned (turn_in u) (message_in c k)
  unfolding message_in
  here hs hm hw = simp get_or-set_same (bytes-turned (message_in c k) u)

  pub turn_is : (n : ℕ) → k < n → k < length c.statuses → k < length c.matched → k < length c.wakers
      → messages_from (columns_after (G.Turn k u) c) 0 n
      ≡ set (messages_from c 0 n) k (turned (turn_in u) (get_or (messages_from c 0 n) k no_message))
  turn_is n h hs hm hw =
      from-set (message_in c) _ k n _ h other (here hs hm hw ∙ ap (turned (turn_in u)) (sym (nth-message c n k h)))

-- match k is one match more; those before it read as they did
module _ (t : Table) (m : MatchColumns) (k n : ℕ) (j : DJ.Job) (few : ChordsFit t) (eight : length j.chosen ≡ 8)
    (hc : k < length m.chords) (hm : 8 * k + 8 ≤ length m.messages) where
  abbrev ms : List ℕ
  ms = paste m.messages (8 * k) j.chosen 8

  before : (i : ℕ) → i < k → match_in t (matches_with (G.Record n) k j m) i ≡ match_in t m i
  unfolding match_in
  before i h =
      let r = get_or m.chords i 0 in
      rw (
        get_or-set_other m.chords k i j.chord 0 (λ z. omega arith),
        part_same (8 * i) (size t r) (8 * k) ms m.messages (omega (arith, few r))
            (paste-front m.messages (8 * k) j.chosen 8 (omega arith)),
      )

  at_end : match_in t (matches_with (G.Record n) k j m) k
      ≡ record { chord = j.chord; messages = take (size t j.chord) j.chosen }
  unfolding match_in
  at_end = rw (
    get_or-set_same m.chords k j.chord 0 hc,
    paste-part m.messages (8 * k) j.chosen 8 (omega arith) (size t j.chord) (omega arith) (few j.chord),
  )

  pub match-added : matches_from t (matches_with (G.Record n) k j m) 0 (suc k)
      ≡ matches_from t m 0 k ++ (record { chord = j.chord; messages = take (size t j.chord) j.chosen } ∷ [])
  match-added = added-from (match_in t m) (match_in t (matches_with (G.Record n) k j m)) k _ before at_end

-- senders signalled in place are the model's senders signalled
signalled-is : (t : Table) (n : ℕ) (s : DS.State) (d : DD.Sender) → d.state ≡ s
    → sender_in t (signalled_by n d) ≡ signalled_sender n (sender_in t d)
signalled-is t n S.Idle d e = rw e
signalled-is t n S.Working d e = rw (e, add-one n)
signalled-is t n S.Blocked d e = rw (e, add-one n)

signalled-all : (t : Table) (n : ℕ) (ds : List DD.Sender)
    → map (sender_in t) (map (signalled_by n) ds) ≡ map (signalled_sender n) (map (sender_in t) ds)
signalled-all t n [] = refl
signalled-all t n (d ∷ ds) = cc (signalled-is t n d.state d refl, signalled-all t n ds)

module _ (t : Table) (b : HeldBoard) (c : Columns) (m : MatchColumns) (few : b.messages ≤ 1024) where
  -- what the model knows of a step's change is enough to write it
  under : (n : ℕ) → n < length (messages_from c 0 b.messages) → n < b.messages
  under n l = omega (arith, length-messages c 0 b.messages)

  waker-fits : (u : DU.Turn) → TurnIn (board_in t b c m) (turn_in u) → WakerFits u
  waker-fits U.Claims r = tt
  waker-fits U.Frees r = tt
  waker-fits (U.Consumes k) r = tt
  waker-fits (U.WakesBy h) r = omega (arith, under h r)
  waker-fits U.Resumes r = tt

  pub in-range-sure : (j : DJ.Job) (g : DG.Change) → InRange t (board_in t b c m) (change_in t j g)
      → Sure b.messages b.matches g
  in-range-sure j G.None r = tt
  in-range-sure j (G.Turn n u) r = (under n r.0, waker-fits u r.1)
  in-range-sure j (G.Record n) r = (under n r.0, omega (arith, r.1, length_from (match_in t m) 0 b.matches))
  in-range-sure j (G.Signal n) r = omega (arith, under n r)

  module _ (i : ℕ) (e : DE.Effect) (w : Lengths c m) (eight : length e.sender.job.chosen ≡ 8) (fit : ChordsFit t) where
    pub applied : (g : DG.Change) → e.change ≡ g → Sure b.messages b.matches g
        → board_in t (effect_board b i e) (columns_after e.change c) (matches_with e.change b.matches e.sender.job m)
        ≡ apply (board_in t b c m) i (effect_in t e)
    unfolding apply messages_after matches_after senders_after
    applied G.None g s = rw (g, set-sender t b.senders i e.sender)
    applied (G.Turn n u) g s =
        let r = turn_is c n u b.messages s.0 (omega (arith, s.0, w.statuses_len)) (omega (arith, s.0, w.matched_len))
        (omega (arith, s.0, w.wakers_len)) in
        rw (g, r, set-sender t b.senders i e.sender)
    applied (G.Record n) g s =
        let r = turn_is c n U.Claims b.messages s.0 (omega (arith, s.0, w.statuses_len))
        (omega (arith, s.0, w.matched_len)) (omega (arith, s.0, w.wakers_len)) in
        let a = match-added t m b.matches n e.sender.job fit eight
        (omega (arith, s.1, w.chords-len)) (omega (arith, s.1, w.messages_len)) in
        rw (g, r, set-sender t b.senders i e.sender, add-one b.matches, a)
    applied (G.Signal n) g s =
        rw (g, signalled-all t n (set b.senders i e.sender), set-sender t b.senders i e.sender)
