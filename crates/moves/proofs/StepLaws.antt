-- A step's move is the call: what an accepted board gives to a step of its sender, and what the effect leaves.
use Rattle.std.proofs.Common.{◌≡◌, ℕ, zero, suc, ◌<◌, ◌≤◌, Bool, true, false, List, [], ◌∷◌, map, length, get_or, leb}
use Rattle.std.proofs.Common.{None, refl, sym, subst, ◌∙◌, arith, leb-true, leb-false}
use Rattle.std.proofs.lemmas.Bool.{lt-leb}
use Rattle.std.proofs.lemmas.List.{length-map}
use Rattle.model.specs.Tables.{Table, Chord, size, no_chord}
use Rattle.model.specs.Boards.{Board}
use Rattle.model.specs.Effects.{does, number_of}
use Rattle.model.specs.Layout.{table_refusal, table_of}
use Rattle.model.specs.Pools.{steps}
use Rattle.model.specs.Steps.{step_by, state_step}
use Rattle.model.proofs.SoundFacts.{SenderFacts}
use Rattle.model.proofs.SoundKept.{step-in-range}
use Rattle.model.proofs.Words.{OutcomeSpeaks, step-speaks}
use Rattle.model.proofs.Numbers.{no_number}
use Rattle.model.proofs.TableLaws.{size_few}
use Rattle.columns.specs.Columns.{Columns, Others, Lent, messages_from, board_by}
use Rattle.columns.specs.MatchColumns.{matches_from, match_in}
use Rattle.columns.proofs.ListFrom.{length_from}
use Rattle.columns.proofs.Messages.{length-messages, nth-channel}
use Rattle.state.specs.declared.Sender as DD
use Rattle.state.specs.declared.Effect as DE
use Rattle.state.specs.Views.{said_in, sender_in, effect_in}
use Rattle.boards.specs.Boards.{closed_in, zero_sender}
use Rattle.boards.specs.Calls.{Held}
use Rattle.boards.proofs.SenderLaws.{nth-sender}
use Rattle.refusals.specs.Judged.{Lengths}
use Rattle.refusals.specs.Calls.{board_of, refusal_of, Beyond, Plays}
use Rattle.refusals.proofs.Refusals.{table-accepted, lent-whole, statuses-known, board-sound, sound-board, messages_few}
use Rattle.refusals.proofs.Refusals.{matches_few}
use Rattle.refusals.proofs.CallLaws.{plays-it}
use Rattle.steps.specs.Ready.{Ready}
use Rattle.writes.specs.declared.Move as DM
use Rattle.writes.specs.Moves.{moved_held, Fits}
use Rattle.writes.specs.Writes.{Sure, ChordsFit}
use Rattle.writes.proofs.Changes.{in-range-sure, applied}
use Rattle.moves.proofs.AfterLaws.{statuses-after, messages-after, matches-after, others-after, records-after}

-- the effect of a step; no message is added
abbrev pub effect_move : DE.Effect → DM.Move
effect_move e = record { said = e.said; sender = e.sender; added = None; change = e.change }

-- a chord outside the table has no members
size-past : (rs : List Chord) (r : ℕ) → length rs ≤ r → length (get_or rs r no_chord).channels ≤ 8
size-past [] r l = omega arith
size-past (x ∷ xs) zero l = absurd (omega arith)
size-past (x ∷ xs) (suc r) l = size-past xs r (omega arith)

-- a chord of an accepted table has at most eight members
chords-fit : (s : List ℕ) → table_refusal s ≡ 0 → ChordsFit (table_of s)
chords-fit s e r = go (leb (suc r) (length (table_of s).chords)) refl
  where
    go : (u : Bool) → leb (suc r) (length (table_of s).chords) ≡ u → size (table_of s) r ≤ 8
    go true q = size_few s r e (leb-true (suc r) _ q)
    go false q = size-past (table_of s).chords r (omega (arith, leb-false (suc r) _ q))

module _ (s : List ℕ) (h : Held) (z : refusal_of s h ≡ 0) (i : ℕ) where
  abbrev t : Table
  t = table_of s

  abbrev b : Board
  b = board_of s h

  abbrev c : Columns
  c = h.columns

  abbrev d : DD.Sender
  d = get_or h.board.senders i zero_sender

  lent : Lengths c h.matches
  lent = lent-whole s _ _ _ z

  -- what a step of the board does not read
  abbrev pub others : Others
  others = record {
    cents = c.cents;
    matched = c.matched;
    wakers = c.wakers;
    units = c.units;
    matches = matches_from t h.matches 0 h.board.matches;
    senders = map (sender_in t) h.board.senders;
    backoffs = h.board.backoffs;
    closed = closed_in h.board c.keys;
    tallies = h.board.tallies;
  }

  pub counted : length others.matches ≡ h.board.matches
  counted = length_from (match_in t h.matches) 0 h.board.matches

  lent-all : Lent h.board.messages c.channels c.keys c.units c.statuses
  lent-all =
      let f = messages_few s _ _ _ z in
      record {
        few = f;
        channels_all = omega (arith, lent.channels-len);
        keys_all = omega (arith, lent.keys-len);
        units_all = omega (arith, lent.units_len);
        statuses_all = omega (arith, lent.statuses_len);
      }

  known : (k : ℕ) → k < h.board.messages → get_or c.channels k 0 < length t.kinds
  known k l =
      let n : k < length (messages_from c 0 h.board.messages) = omega (arith, length-messages c 0 h.board.messages) in
      rw (← nth-channel c h.board.messages k l) ((sound-board s _ _ _ z).message-at k n).channel-in

  -- what a step of the sender takes for granted
  pub is-ready : Ready t c.channels c.keys c.units c.statuses h.board.messages h.board.matches d
  is-ready = record {
    others = others;
    counted = counted;
    few = matches_few s _ _ _ z;
    lent = lent-all;
    known = known;
    facts = subst (SenderFacts t b) (sym (nth-sender t h.board.senders i)) ((sound-board s _ _ _ z).sender-at i);
  }

  -- a step by columns and a sender that are those of the board
  pub step-same : {ch st : List ℕ} {e : DD.Sender} (x : DE.Effect) → ch ≡ c.channels → st ≡ c.statuses → e ≡ d
      → state_step t (board_by ch c.keys st h.board.messages others) (sender_in t e) (sender_in t e).state
      ≡ does (effect_in t x)
      → state_step t b (sender_in t d) (sender_in t d).state ≡ does (effect_in t x)
  step-same x p q r u = rw (p, q, r) at u

  module _ (x : DE.Effect) (l : i < 32) (eight : length x.sender.job.chosen ≡ 8)
      (q : state_step t b (sender_in t d) (sender_in t d).state ≡ does (effect_in t x)) where
    abbrev h' : Held
    h' = moved_held h i (effect_move x)

    -- the effect is that of the model's step, and its change is in range
    does-it : step_by t b i ≡ does (effect_in t x)
    unfolding step_by
    does-it = rw (lt-leb 32 i l, ← nth-sender t h.board.senders i) q

    accepted : number_of (said_in x.said) ≡ 0
    accepted = no_number (said_in x.said) (subst OutcomeSpeaks does-it (step-speaks t b i)).unrefused

    sure : Sure h.board.messages h.board.matches x.change
    sure =
        in-range-sure t h.board c h.matches (messages_few s _ _ _ z) x.sender.job x.change
        (step-in-range t b i (effect_in t x) (board-sound s _ _ _ z) does-it)

    pub step-fits : Fits h.board.messages h.board.matches (effect_move x) × (number_of (said_in x.said) ≡ 0)
    step-fits = (record { room = tt; sure = sure }, accepted)

    lengths : Lengths h'.columns h'.matches
    lengths =
        let p = messages-after h.board.messages h.board.matches x.change c.statuses c.matched c.wakers sure in
        let r = matches-after h.board.messages h.board.matches x.change x.sender.job.chord x.sender.job.chosen
        h.matches.chords h.matches.messages sure eight lent.messages_len in
        record {
          channels-len = lent.channels-len;
          keys-len = lent.keys-len;
          cents-len = lent.cents-len;
          statuses_len = p.0.0 ∙ lent.statuses_len;
          matched_len = p.1.0 ∙ lent.matched_len;
          wakers_len = p.2.0 ∙ lent.wakers_len;
          units_len = lent.units_len;
          chords-len = r.1.0 ∙ lent.chords-len;
          messages_len = r.2.0 ∙ lent.messages_len;
        }

    beyond : Beyond h h'
    beyond =
        let p = messages-after h.board.messages h.board.matches x.change c.statuses c.matched c.wakers sure in
        let r = matches-after h.board.messages h.board.matches x.change x.sender.job.chord x.sender.job.chosen
        h.matches.chords h.matches.messages sure eight lent.messages_len in
        record {
          messages_grow = omega arith;
          matches_grow = r.0;
          channels = refl;
          properties = refl;
          days = refl;
          cents = refl;
          statuses = p.0.1;
          matched = p.1.1;
          wakers = p.2.1;
          units = refl;
          chords = r.1.1;
          messages = r.2.1;
          recorded = r.3;
          stays_closed = λ e. e;
          close_day = λ e. refl;
        }

    pub step-plays : Plays s h (steps i) (said_in x.said) h'
    step-plays =
        let left = applied t h.board c h.matches (messages_few s _ _ _ z) i x lent eight
        (chords-fit s (table-accepted s _ _ _ z)) x.change refl sure in
        plays-it s h (steps i) z (said_in x.said) h' (rw does-it) accepted (rw does-it left) lengths
        (statuses-after x.change h.board.messages c.statuses (statuses-known s _ _ _ z)) beyond
        (others-after x.change h.board.senders i x.sender)
        (records-after h.board.messages h.board.matches x.change h.board.senders i x.sender h.matches.messages sure
        eight lent.messages_len (omega (arith, l, simp length-map at (sound-board s _ _ _ z).senders_all)))
