-- What a change leaves: the statuses, the columns' lengths, what stands past the counts, recorded matches, and the
-- rows of the other senders.
use Rattle.std.proofs.Common.{◌≡◌, ◌≢◌, ℕ, zero, suc, ◌+◌, ◌*◌, ◌<◌, ◌≤◌, ◌∙◌, true, List, [], ◌∷◌, map, length, get_or}
use Rattle.std.proofs.Common.{set, refl, arith, length-set, drop-set-lt, get_or-set_same, get_or-set_other, take_all}
use Rattle.std.proofs.Math.Seq.{drop-paste, length-paste}
use Rattle.model.proofs.Parts.{paste-front, paste-part}
use Rattle.state.specs.declared.Turn as DU
use Rattle.state.specs.declared.Turn.TheVariants as U
use Rattle.state.specs.declared.Change as DG
use Rattle.state.specs.declared.Change.TheVariants as G
use Rattle.state.specs.declared.Sender as DD
use Rattle.boards.specs.Boards.{zero_sender}
use Rattle.boards.specs.Parts.{part}
use Rattle.refusals.specs.Judged.{statuses_ok}
use Rattle.refusals.specs.Calls.{SameFrom, SameTo, SameRow}
use Rattle.refusals.proofs.CallLaws.{status-written, row_same}
use Rattle.writes.specs.Writes.{Sure, status_by, statuses_by, matched_by, wakers_by, chords_by, match_messages_by}
use Rattle.writes.specs.Writes.{matches_by, signalled_by, senders_by}

-- a column that is as long as another, and the same from record n on
abbrev pub Kept : {A : Type 0} → ℕ → List A → List A → Type 0
Kept n xs ys = (length xs ≡ length ys) × SameFrom n xs ys

pub set-kept : {A : Type 0} (n i : ℕ) (xs : List A) (a : A) → i < n → Kept n (set xs i a) xs
set-kept n i xs a h = (length-set xs i a, drop-set-lt n xs i a h)

-- a turn's status is one
status-small : (u : DU.Turn) → status_by u ≤ 3
status-small U.Claims = omega arith
status-small U.Frees = omega arith
status-small (U.Consumes k) = omega arith
status-small (U.WakesBy k) = omega arith
status-small U.Resumes = omega arith

pub statuses-after : (g : DG.Change) (n : ℕ) (s : List ℕ) → statuses_ok n s ≡ true
    → statuses_ok n (statuses_by g s) ≡ true
statuses-after (G.Turn k u) n s e = status-written n s (status_by u) e (status-small u) k
statuses-after (G.Record k) n s e = status-written n s 1 e (omega arith) k
statuses-after _ n s e = e

module _ (n k : ℕ) where
  -- a change is written to messages that there are, and to the next match
  pub messages-after : (g : DG.Change) (st ma wa : List ℕ) → Sure n k g
      → Kept n (statuses_by g st) st × Kept n (matched_by g ma) ma × Kept n (wakers_by g wa) wa
  messages-after (G.Turn x u) st ma wa h = (set-kept n x st _ h.0, set-kept n x ma _ h.0, set-kept n x wa _ h.0)
  messages-after (G.Record x) st ma wa h = (set-kept n x st _ h.0, set-kept n x ma _ h.0, set-kept n x wa _ h.0)
  messages-after _ st ma wa h = ((refl, refl), (refl, refl), (refl, refl))

  pub matches-after : (g : DG.Change) (chord : ℕ) (chosen cs ms : List ℕ) → Sure n k g → length chosen ≡ 8
      → length ms ≡ 8192
      → (k ≤ matches_by g k) × Kept (matches_by g k) (chords_by g k chord cs) cs
      × Kept (8 * matches_by g k) (match_messages_by g k chosen ms) ms
      × SameTo (8 * k) (match_messages_by g k chosen ms) ms
  matches-after (G.Record x) chord chosen cs ms h e l =
      let u : 8 * (k + 1) ≡ 8 * k + 8 = omega arith in (
        omega arith,
        set-kept (k + 1) k cs chord (omega arith),
        (
          length-paste ms (8 * k) chosen 8 (omega (arith, h.1)) (omega arith),
          rw u (drop-paste ms (8 * k) chosen 8 (omega (arith, h.1)) (omega arith)),
        ),
        paste-front ms (8 * k) chosen 8 (omega (arith, h.1)),
      )
  matches-after _ chord chosen cs ms h e l = (omega arith, (refl, refl), (refl, refl), refl)

-- a signal writes nothing else of a sender
signalled-row : (n : ℕ) (ds : List DD.Sender) (j : ℕ)
    → SameRow (get_or ds j zero_sender) (get_or (map (signalled_by n) ds) j zero_sender)
signalled-row n [] j = row_same zero_sender
signalled-row n (d ∷ ds) zero =
    record { state = refl; own = refl; waker = refl; reply = refl; matched = refl; job = refl }
signalled-row n (d ∷ ds) (suc j) = signalled-row n ds j

pub others-after : (g : DG.Change) (ds : List DD.Sender) (i : ℕ) (d : DD.Sender) (j : ℕ) → j ≢ i
    → SameRow (get_or ds j zero_sender) (get_or (senders_by g (set ds i d)) j zero_sender)
others-after (G.Signal k) ds i d j n =
    rw (get_or-set_other ds i j d zero_sender n) at (signalled-row k (set ds i d) j)
others-after _ ds i d j n = rw (get_or-set_other ds i j d zero_sender n) (row_same _)

-- a match that a change records is the sender's choice
pub records-after : (n k : ℕ) (g : DG.Change) (ds : List DD.Sender) (i : ℕ) (d : DD.Sender) (ms : List ℕ)
    → Sure n k g → length d.job.chosen ≡ 8 → length ms ≡ 8192 → i < length ds → k < matches_by g k
    → part (8 * k) 8 (match_messages_by g k d.job.chosen ms)
    ≡ (get_or (senders_by g (set ds i d)) i zero_sender).job.chosen
unfolding part
records-after n k (G.Record x) ds i d ms h e l m q =
    rw (get_or-set_same ds i d zero_sender m)
    (paste-part ms (8 * k) d.job.chosen 8 (omega (arith, h.1)) 8 (omega (arith, e)) (omega arith)
    ∙ take_all 8 d.job.chosen (omega (arith, e)))
records-after n k _ ds i d ms h e l m q = absurd (omega (arith, q))
