-- Looks in peace: where no message is claimed a miss sets no mark; and the bounds of a job's place.
use mathlib.Core.Path.{◌≡◌, refl, subst, subst⁻¹}
use mathlib.Core.Logic.{◌≢◌}
use mathlib.Core.Bool.{Bool, true, false, ◌&&◌, ◌||◌}
use mathlib.Core.List.{List, [], ◌∷◌}
use Prim.Native.Nat.{ℕ, suc, ◌≤◌, ◌<◌}
use lib.ListN.{length, get_or}
use native.Mathlib.Omega.{arith}
use Rattle.model.specs.Tables.{Table, Chord, chord_at, channel_at, size}
use Rattle.model.specs.Boards.{Board, Job, Phase, State, Sent, Message, Status, message_at, no_message, look, claim}
use Rattle.model.specs.Boards.{revert, pending, claimed, woken, consumed, is_claimed, is_pending, is_open}
use Rattle.model.specs.Looks.{fits, some_claimed, missed_retry, choice, Chosen, the_subject, another}
use Rattle.model.specs.Holdings.{HeldPlace, Holds}
use Rattle.model.proofs.Tests.{both, never}
use Rattle.model.proofs.Grows.{is-pending}
use Rattle.model.proofs.Choice.{choice-some}
use Rattle.model.proofs.AtWork.{AtWork}
use Rattle.alone.proofs.Calm.{Calm}

-- a job that holds nothing sees nothing claimed
pub none_claimed : {t : Table} {b : Board} {i : ℕ} {w : Job} {p : Phase} → Calm t b i → AtWork t b i w p
    → ((j : ℕ) → HeldPlace t w.chord p (length w.chosen) j → ⊥) → (n : ℕ) → (message_at b n).status ≢ claimed
none_claimed {t} {b} {i} {w} {p} c a f n e =
    let x = subst (λ (s : State). Holds t s n) a.state (c.peace n e) in
    f x.place (subst (λ (q : Phase). HeldPlace t w.chord q (length w.chosen) x.place) a.phase x.held)

pub open-pending : (s : Status) → is_open s ≡ true → s ≢ claimed → s ≡ pending
open-pending pending e n = refl
open-pending claimed e n = absurd (n refl)
open-pending woken e n = never e
open-pending consumed e n = never e

not-claimed : (s : Status) → s ≢ claimed → is_claimed s ≡ false
not-claimed pending n = refl
not-claimed claimed n = absurd (n refl)
not-claimed woken n = refl
not-claimed consumed n = refl

some-none : (r : Chord) (channel : ℕ) (s : Sent) (is : List Message)
    → ((n : ℕ) → (get_or is n no_message).status ≢ claimed) → some_claimed r channel s is ≡ false
unfolding some_claimed
some-none r channel s [] f = refl
some-none r channel s (x ∷ xs) f =
    go (fits r channel s x) (not-claimed x.status (f 0)) (some-none r channel s xs (λ n. f (suc n)))
  where
    go : (u : Bool) → is_claimed x.status ≡ false → some_claimed r channel s xs ≡ false
        → ((u && is_claimed x.status) || some_claimed r channel s xs) ≡ false
    go true e g = rw e g
    go false e g = g

pub no-mark : (t : Table) (b : Board) (w : Job) (k : ℕ) → ((n : ℕ) → (message_at b n).status ≢ claimed) → w.retry ≡ false
    → missed_retry t b w k ≡ false
no-mark t b w k f e =
    rw (e, some-none (chord_at t w.chord) (channel_at t w.chord k) (message_at b w.subject).sent b.messages f)

-- what a look finds is the subject, or pending
pub found-pending : (t : Table) (b : Board) (w : Job) (k n : ℕ) → choice t b w k ≡ suc n
    → (message_at b w.subject).status ≡ pending → (message_at b n).status ≡ pending
found-pending t b w k n e p = go (choice-some t b w k n e)
  where
    go : Chosen t b w k n → (message_at b n).status ≡ pending
    go (the_subject x y) = subst⁻¹ (λ (m : ℕ). (message_at b m).status ≡ pending) y p
    go (another x y z) =
        let f = both
        {t = fits (chord_at t w.chord) (channel_at t w.chord k) (message_at b w.subject).sent (message_at b n)}
        z in
        is-pending _ (both {t = is_pending (message_at b n).status} f.1).0

-- a job at place k of its chord
pub record Place (t : Table) (w : Job) (k : ℕ) : Type 0 where
  pub chord : w.chord < length t.chords
  pub small : size t w.chord ≤ 8
  pub place : k < size t w.chord

module _ {t : Table} {b : Board} {i : ℕ} {w : Job} {k : ℕ} (c : Calm t b i) where
  pub look-place : AtWork t b i w (look k) → Place t w k
  look-place a =
      let q = a.job.placed.0.chord-in in
      record { chord = q; small = c.table.chord_few w.chord q; place = a.job.placed.2 }

  pub claim-place : AtWork t b i w (claim k) → Place t w k
  claim-place a =
      let q = a.job.placed.0.selection.chord-in in
      record { chord = q; small = c.table.chord_few w.chord q; place = a.job.placed.1 }

  pub revert-place : {m : ℕ} → AtWork t b i w (revert k m) → Place t w (suc k)
  revert-place a =
      let q = a.job.placed.0.selection.chord-in in
      record {
        chord = q;
        small = c.table.chord_few w.chord q;
        place = omega (arith, a.job.placed.1, a.job.placed.2);
      }
