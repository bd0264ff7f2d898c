-- Laws of a look: what it takes by the lent columns, what it chose, and what it missed.
use mathlib.Core.Path.{◌≡◌, ap, ◌∙◌}
use mathlib.Core.Bool.{Bool, ◌||◌}
use mathlib.Core.List.{List, [], ◌∷◌, ◌++◌}
use Prim.Native.Nat.{ℕ, suc, ◌+◌, ◌<◌}
use native.Mathlib.Numerals.{add-one}
use lib.Dec.{eqb}
use lib.ListN.{get_or, take}
use borrow.Author.Tests.{eq-eqb, ne_eqb}
use Rattle.model.specs.Basics.{first_by, pick}
use Rattle.model.specs.Tables.{Table, chord_at, channel_at, size}
use Rattle.model.specs.Boards.{Board, Message, Job, Sender, no_message, message_at, claim, look}
use Rattle.model.specs.Jobs.{next_chord, with_chosen}
use Rattle.model.specs.Looks.{is_free, oldest, day_at, some_claimed, choice}
use Rattle.model.specs.Steps.{looked_by, look_step}
use Rattle.columns.specs.Columns.{Columns, Others, columns_by, board_by, message_in, messages_from}
use Rattle.columns.proofs.Messages.{nth-message, nth-channel}
use Rattle.state.specs.declared.Phase.TheVariants as P
use Rattle.state.specs.declared.Said.TheVariants as W
use Rattle.state.specs.declared.Change.TheVariants as G
use Rattle.state.specs.declared.Job as DJ
use Rattle.state.specs.declared.Sender as DD
use Rattle.state.specs.Views.{job_in, sender_in, effect_in}
use Rattle.state.specs.Builders.{works_by}

pub nth-property : (c : Columns) (n k : ℕ) → k < n
    → (get_or (messages_from c 0 n) k no_message).sent.property ≡ get_or c.keys k 0
unfolding message_in
nth-property c n k h = ap (λ (x : Message). x.sent.property) (nth-message c n k h)

pub nth-unit : (c : Columns) (n k : ℕ) → k < n
    → (get_or (messages_from c 0 n) k no_message).sent.unit ≡ get_or c.units k 0
unfolding message_in
nth-unit c n k h = ap (λ (x : Message). x.sent.unit) (nth-message c n k h)

-- the subject in its own place, whatever its day, and the oldest that is free in another
module _ (t : Table) (ch pr st : List ℕ) (n : ℕ) (o : Others) (w : Job) (k first : ℕ) (h : w.subject < n)
    (e : first ≡ first_by (eqb (get_or ch w.subject 0)) (chord_at t w.chord).channels) where
  abbrev c : Columns
  c = columns_by ch pr st o

  pub choice-own : first ≡ k → w.subject + 1 ≡ choice t (board_by ch pr st n o) w k
  unfolding choice
  choice-own q = rw (nth-channel c n w.subject h, ← e, eq-eqb first k q) (add-one w.subject)

  pub choice-other : (wanted x : ℕ) (chosen : List ℕ) → w.chosen ≡ chosen → (first ≡ k → ⊥)
      → wanted ≡ channel_at t w.chord k
      → x ≡ oldest (day_at (board_by ch pr st n o))
      (is_free (chord_at t w.chord) wanted (get_or (messages_from c 0 n) w.subject no_message).sent chosen) 0
      (messages_from c 0 n)
      → x ≡ choice t (board_by ch pr st n o) w k
  unfolding choice
  choice-other wanted x chosen wk q l g =
      g ∙ rw (wk, nth-channel c n w.subject h, ← e, ne_eqb first k q, l)

-- before the look for member k the first k are chosen
pub chosen-first : (t : Table) (j : DJ.Job) (k : ℕ) → j.phase ≡ P.Look k → (job_in t j).chosen ≡ take k j.chosen
chosen-first t j k p = rw p

-- the effect of a look that misses, and of one that takes a message, by the job that follows
module _ (t : Table) (b : Board) (d : DD.Sender) (k : ℕ) (next : DJ.Job) where
  pub missed-is : (wanted : ℕ) (claimed : Bool) → wanted ≡ channel_at t d.job.chord k
      → claimed
      ≡ some_claimed (chord_at t d.job.chord) wanted (message_at b d.job.subject).sent b.messages
      → job_in t next ≡ next_chord t b (job_in t d.job) (d.job.retry || claimed)
      → effect_in t (works_by d next W.Missed G.None) ≡ looked_by t b (sender_in t d) (job_in t d.job) k 0
  missed-is wanted claimed l e q = rw (q, e, l)

  pub found-is : (m : ℕ) (last : Bool) → eqb (suc k) (size t d.job.chord) ≡ last
      → job_in t next
      ≡ with_chosen (job_in t d.job) ((job_in t d.job).chosen ++ (m ∷ [])) (pick last (claim 0) (look (suc k)))
      → effect_in t (works_by d next (W.Looked m) G.None)
      ≡ looked_by t b (sender_in t d) (job_in t d.job) k (suc m)
  found-is m last e q = rw (q, e)

-- what was taken decides the look
pub looks-by : (t : Table) (b : Board) (d : Sender) (w : Job) (k x : ℕ) → x ≡ choice t b w k
    → looked_by t b d w k x ≡ look_step t b d w k
unfolding look_step
looks-by t b d w k x e = ap (looked_by t b d w k) e
