-- How a pass begins and how a job ends, by cases.
use mathlib.Core.Path.{◌≡◌, refl}
use mathlib.Core.Logic.{◌≢◌}
use mathlib.Core.Bool.{Bool, true, false, not, ◌&&◌}
use mathlib.Core.List.{List}
use Prim.Native.Nat.{ℕ, zero, suc, ◌-◌, ◌<◌, ◌≤◌}
use borrow.Author.Tests.{ltb-true, ltb-false, eqb-false, not-true}
use lib.Dec.{ltb, eqb}
use lib.ListN.{length, get_or}
use Rattle.model.specs.Tables.{Table, naming, is_sync}
use Rattle.model.specs.Boards.{Job, Sender, Message, no_message, blocked, pass_end, is_consumed}
use Rattle.model.specs.Jobs.{in_state, in_job, start_at, at_no_chord, pass_from, new_pass, goes_idle, matched_end}
use Rattle.model.specs.Jobs.{waker_end, sync_end, ends_by, job_end}
use Rattle.model.proofs.Tests.{both}

-- from a chord on, a pass is at its first look or at its end
module _ (t : Table) (h channel from : ℕ) (retry : Bool) (k : ℕ) (P : Job → Type 0)
    (looks : naming t channel from < length t.chords → P (start_at true h (naming t channel from) retry k))
    (ends : length t.chords ≤ naming t channel from → P (at_no_chord h pass_end retry k)) where
  start-by : (u : Bool) → ltb (naming t channel from) (length t.chords) ≡ u
      → P (start_at u h (naming t channel from) retry k)
  start-by true e = looks (ltb-true _ _ e)
  start-by false e = ends (ltb-false _ _ e)

  pub pass-by : P (pass_from t h channel from retry k)
  unfolding pass_from
  pass-by = start-by (ltb (naming t channel from) (length t.chords)) refl

-- an asynchronous sender goes idle; a synchronous one begins a job about its waker, goes idle with its match, or blocks
module _ (t : Table) (is : List Message) (d : Sender) (h : ℕ) where
  abbrev pub OwnSync : Bool → Type 0
  OwnSync u = is_sync t (get_or is (d.own - 1) no_message).sent.channel ≡ u

  module _ (P : Sender → Type 0)
      (leaves : OwnSync false → P (goes_idle d 0))
      (replies : OwnSync true → (m : ℕ) → d.matched ≡ suc m → P (goes_idle d (suc m)))
      (blocks : OwnSync true → d.matched ≡ 0 → P (in_state d blocked d.signalled))
      (wakes : OwnSync true → (v : ℕ) → d.waker ≡ suc v → is_consumed (get_or is v no_message).status ≡ false → v ≢ h
      → P (in_job d (new_pass t is v 0))) where
    matched-by : OwnSync true → (m : ℕ) → d.matched ≡ m → P (matched_end d m)
    matched-by s zero e = blocks s e
    matched-by s (suc m) e = replies s m e

    waker-by : OwnSync true → (v : ℕ) (u : Bool) → d.waker ≡ suc v
        → (not (is_consumed (get_or is v no_message).status) && not (eqb v h)) ≡ u → P (waker_end t is d v u)
    waker-by s v false e f = matched-by s d.matched refl
    waker-by s v true e f =
        let p = both {t = not (is_consumed (get_or is v no_message).status)} f in
        wakes s v e (not-true _ p.0) (eqb-false _ _ (not-true _ p.1))

    sync-by : OwnSync true → (v : ℕ) → d.waker ≡ v → P (sync_end t is d h v)
    sync-by s zero e = matched-by s d.matched refl
    sync-by s (suc v) e = waker-by s v (not (is_consumed (get_or is v no_message).status) && not (eqb v h)) e refl

    end_by : (u : Bool) → OwnSync u → P (ends_by t is d h u)
    end_by false s = leaves s
    end_by true s = sync-by s d.waker refl

    pub job-end-by : P (job_end t is d h)
    unfolding job_end
    job-end-by = end_by (is_sync t (get_or is (d.own - 1) no_message).sent.channel) refl
