-- What follows a message that is consumed: the next one, the telling, or the end of the job.
use Rattle.std.proofs.Common.{◌≡◌, ℕ, suc, ◌+◌, ◌<◌, ◌≤◌, ◌||◌, List, [], ◌∷◌, eqb, length, get_or, take, refl, arith}
use Rattle.std.specs.List.{filter}
use Rattle.std.proofs.lemmas.Grind.{common_steps}
use Rattle.model.specs.Basics.{pick}
use Rattle.model.specs.Tables.{Table, size}
use Rattle.model.specs.Boards.{Board, Message, no_message, Sender, Job, is_consumed, tell}
use Rattle.model.specs.Effects.{Turn, turn, consumes, messages_after}
use Rattle.model.specs.Jobs as MJ
use Rattle.model.specs.Jobs.{in_job, in_phase, job_end}
use Rattle.model.specs.Steps.{to_tell, consumed_end, consumed_to, consume_step, tell_step}
use Rattle.columns.specs.Columns.{Others, columns_by, board_by}
use Rattle.columns.proofs.Messages.{nth-channel}
use Rattle.state.specs.declared.Phase as DP
use Rattle.state.specs.declared.Phase.TheVariants as P
use Rattle.state.specs.declared.Said.TheVariants as W
use Rattle.state.specs.declared.Turn.TheVariants as U
use Rattle.state.specs.declared.Change.TheVariants as G
use Rattle.state.specs.declared.Sender as DD
use Rattle.state.specs.Builders as B
use Rattle.state.specs.Builders.{sender_in_job, job_in_phase}
use Rattle.state.specs.Views.{phase_in, chosen_by, job_in, sender_in, effect_in}
use Rattle.state.proofs.Sizes.{chord_few}
use Rattle.consumes.specs.Holds.{Channels, ChoiceLent, is_told, with_match}
use Rattle.consumes.proofs.Telling.{tells, all_lent, tells_is}

-- the sender at work in another phase that has as many chosen
pub goes_on : (t : Table) (d : DD.Sender) (p : DP.Phase)
    → chosen_by p (size t d.job.chord) ≡ chosen_by d.job.phase (size t d.job.chord)
    → sender_in t (B.sender_in_job d (B.job_in_phase d.job p))
    ≡ MJ.in_job (sender_in t d) (MJ.in_phase (job_in t d.job) (phase_in p))
goes_on t d p e = rw e

-- a message that turns keeps its channel
pub channel-after : (is : List Message) (x i : ℕ) (u : Turn)
    → (get_or (messages_after (turn x u) is) i no_message).sent.channel ≡ (get_or is i no_message).sent.channel
unfolding messages_after
channel-after is x i u = grind (arith, common_steps)

-- the message is consumed, and another one as it was
pub consumed-after : (is : List Message) (x i m : ℕ) → x < length is
    → is_consumed (get_or (messages_after (turn x (consumes m)) is) i no_message).status
    ≡ (eqb i x || is_consumed (get_or is i no_message).status)
unfolding messages_after
consumed-after is x i m h = grind (arith, common_steps)

some : (t : Table) (is : List Message) (e : Sender) (w : Job) (xs : List ℕ) → 0 < length xs
    → in_job e (in_phase w (tell 0)) ≡ consumed_end t is e w xs
some t is e w [] h = absurd (omega arith)
some t is e w (x ∷ xs) h = refl

module _ (t : Table) (is : List Message) (d : DD.Sender) (k m : ℕ) (p : d.job.phase ≡ P.Consume k m)
    (few : size t d.job.chord ≤ 8) (eight : length d.job.chosen ≡ 8) where
  pub consumes-next : k + 1 < size t d.job.chord
      → sender_in t (sender_in_job d (job_in_phase d.job (P.Consume (k + 1) m)))
      ≡ consumed_to t is (sender_in t d) (job_in t d.job) k m (eqb (suc k) (length (job_in t d.job).chosen))
  consumes-next h = grind (arith, common_steps)

  module _ (last : k + 1 ≡ size t d.job.chord) (channels : List ℕ) (n : ℕ) (tr : Channels is channels n)
      (lent : ChoiceLent t d.job.chosen channels (size t d.job.chord) n) where
    pub tells-first : 0 < length (filter (is_told t channels d.job.subject) (take (size t d.job.chord) d.job.chosen))
        → sender_in t (sender_in_job d (job_in_phase d.job (P.Tell 0)))
        ≡ consumed_to t is (sender_in t d) (job_in t d.job) k m (eqb (suc k) (length (job_in t d.job).chosen))
    tells-first h =
        let e = tells_is t d.job.chosen channels (size t d.job.chord) n lent is tr d.job.subject in
        grind (arith, common_steps, some)

    pub tells-none : length (filter (is_told t channels d.job.subject) (take (size t d.job.chord) d.job.chosen)) ≡ 0
        → job_end t is (sender_in t d) d.job.subject
        ≡ consumed_to t is (sender_in t d) (job_in t d.job) k m (eqb (suc k) (length (job_in t d.job).chosen))
    tells-none h =
        let e = tells_is t d.job.chosen channels (size t d.job.chord) n lent is tr d.job.subject in
        grind (arith, common_steps)

-- the effect, by the sender that noted the match and the one that follows
pub consumes-is : (t : Table) (b : Board) (d e end : DD.Sender) (k m x : ℕ) → d.job.phase ≡ P.Consume k m
    → k < size t d.job.chord → get_or d.job.chosen k 0 ≡ x → e ≡ with_match d (pick (eqb (x + 1) d.own) m d.matched)
    → sender_in t end ≡ consumed_to t (messages_after (turn x (consumes m)) b.messages) (sender_in t e)
    (job_in t e.job) k m (eqb (suc k) (length (job_in t e.job).chosen))
    → effect_in t (record { said = W.Consumed x; change = G.Turn x (U.Consumes m); sender = end })
    ≡ consume_step t b (sender_in t d) (job_in t d.job) k m
unfolding consume_step
consumes-is t b d e end k m x p h ex ee q = grind (arith, common_steps)

-- the effect of telling, where another message is left and where the job ends
module _ (t : Table) (channels pr st : List ℕ) (n : ℕ) (o : Others) (d : DD.Sender) (k : ℕ) (p : d.job.phase ≡ P.Tell k)
    (lent : ChoiceLent t d.job.chosen channels (size t d.job.chord) n) where
  abbrev told : List ℕ
  told = filter (is_told t channels d.job.subject) (take (size t d.job.chord) d.job.chosen)

  told-is : to_tell t (board_by channels pr st n o).messages d.job.subject (take (size t d.job.chord) d.job.chosen)
      ≡ told
  told-is =
      tells_is t d.job.chosen channels (size t d.job.chord) n lent (board_by channels pr st n o).messages
      (record { channel = nth-channel (columns_by channels pr st o) n }) d.job.subject

  pub tells-next : k + 1 < length told
      → effect_in t (record {
        said = W.Told (get_or told k 0);
        change = G.Signal (get_or told k 0);
        sender = sender_in_job d (job_in_phase d.job (P.Tell (k + 1)));
      })
      ≡ tell_step t (board_by channels pr st n o) (sender_in t d) (job_in t d.job) k
  unfolding tell_step
  tells-next h = let e = told-is in grind (arith, common_steps)

  pub tells-last : (end : DD.Sender) → k + 1 ≡ length told
      → sender_in t end ≡ job_end t (board_by channels pr st n o).messages (sender_in t d) d.job.subject
      → effect_in t (record { said = W.Told (get_or told k 0); change = G.Signal (get_or told k 0); sender = end })
      ≡ tell_step t (board_by channels pr st n o) (sender_in t d) (job_in t d.job) k
  unfolding tell_step
  tells-last end h q = let e = told-is in grind (arith, common_steps)

pub ruleset consumings = (chord_few, all_lent, tells_is, consumes-next, tells-first, tells-none)

pub ruleset tellings = (tells, tells-next, tells-last)
