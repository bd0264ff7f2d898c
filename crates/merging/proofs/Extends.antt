-- A table that has more channels and chords after another's: on channels that only the first's chords name, every call
-- does the same under both.
use mathlib.Core.Path.{◌≡◌, refl, ap}
use mathlib.Core.Bool.{Bool, true, false, not, ◌&&◌}
use mathlib.Core.List.{List, [], ◌∷◌}
use Prim.Native.Nat.{ℕ, zero, suc, ◌<◌, ◌≤◌, ◌+◌, ◌-◌}
use borrow.Author.Tests.{lt-ltb, le-ltb}
use lib.Dec.{eqb, ltb}
use lib.ListN.{length, get_or, set, length-set, get_or-eq_default}
use native.Mathlib.Omega.{arith}
use Rattle.model.specs.Basics.{is_in}
use Rattle.model.specs.Tables.{Table, chord_at, is_sync, naming, naming_up_to, first_sync, size, channel_at}
use Rattle.model.specs.Boards.{Message, no_message, Sender, is_consumed}
use Rattle.model.specs.Effects.{Turn, turned}
use Rattle.model.specs.Jobs.{pass_from, start_at, in_job, job_end, ends_by, sync_end, waker_end}
use Rattle.model.specs.Steps.{to_tell}
use Rattle.model.proofs.Tests.{by-range}
use Rattle.model.proofs.Lists.{first-same}

pub record Extends (t v : Table) : Type 0 where
  pub chords_same : (r : ℕ) → r < length t.chords → chord_at v r ≡ chord_at t r
  pub chords_more : length t.chords ≤ length v.chords
  pub sync_same : (x : ℕ) → x < length t.kinds → is_sync v x ≡ is_sync t x
  pub kinds_more : length t.kinds ≤ length v.kinds
  pub kinds_some : 1 ≤ length t.kinds
  pub channel-in : (q j : ℕ) → q < length t.chords → j < size t q → channel_at t q j < length t.kinds

-- a channel of the first that no later chord names
pub record Own (t v : Table) (x : ℕ) : Type 0 where
  pub in_first : x < length t.kinds
  pub unnamed : (r : ℕ) → length t.chords ≤ r → is_in x (chord_at v r).channels ≡ false

abbrev pub AllOwn : Table → Table → List Message → Type 0
AllOwn t v is = (n : ℕ) → n < length is → Own t v (get_or is n no_message).sent.channel

module _ (t v : Table) (e : Extends t v) where
  -- chords that do not name the channel
  none-naming : (x from n : ℕ) → ((r : ℕ) → from ≤ r → is_in x (chord_at v r).channels ≡ false)
      → naming_up_to v x from n ≡ from + n
  none-naming x from zero f = omega arith
  none-naming x from (suc n) f =
      let ih = none-naming x (suc from) n (λ r l. f r (omega arith)) in
      rw (f from (omega arith), naming_up_to) (omega (arith, ih))

  -- a pass starts at chord a under v as at chord b under t; past the last chord it starts at none
  abbrev Alike : ℕ → Bool → ℕ → ℕ → ℕ → Type 0
  Alike h retry k a b =
      start_at (ltb a (length v.chords)) h a retry k ≡ start_at (ltb b (length t.chords)) h b retry k

  -- over n chords that both tables have, then m that only the second has
  starts : (h x from n m : ℕ) (retry : Bool) (k : ℕ) → Own t v x → n ≡ length t.chords - from
      → n + m ≡ length v.chords - from → Alike h retry k (naming_up_to v x from (n + m)) (naming_up_to t x from n)
  starts h x from zero m retry k o p q =
      let z : 0 + m ≡ m = omega arith in
      let none = none-naming x from m (λ r l. o.unnamed r (omega arith)) in
      rw (
        z,
        none,
        le-ltb (from + m) (length v.chords) (omega arith),
        le-ltb from (length t.chords) (omega arith),
      )
  starts h x from (suc n) m retry k o p q =
      let z : suc n + m ≡ suc (n + m) = omega arith in
      rw z
      (go (is_in x (chord_at t from).channels) refl
      (starts h x (suc from) n m retry k o (omega arith) (omega arith)))
    where
      go : (u : Bool) → is_in x (chord_at t from).channels ≡ u
          → Alike h retry k (naming_up_to v x (suc from) (n + m)) (naming_up_to t x (suc from) n)
          → Alike h retry k (naming_up_to v x from (suc (n + m))) (naming_up_to t x from (suc n))
      go true y ih =
          rw (
            e.chords_same from (omega arith),
            y,
            naming_up_to,
            lt-ltb from (length v.chords) (omega (arith, p, e.chords_more)),
            lt-ltb from (length t.chords) (omega (arith, p)),
          )
      go false y ih = rw (e.chords_same from (omega arith), y, naming_up_to) ih

  pub pass_same : (h x from : ℕ) (retry : Bool) (k : ℕ) → Own t v x
      → pass_from v h x from retry k ≡ pass_from t h x from retry k
  unfolding pass_from naming
  pass_same h x from retry k o =
      let n = length t.chords - from in
      let m = length v.chords - from - n in
      let z : n + m ≡ length v.chords - from = omega (arith, e.chords_more) in
      rw z at (starts h x from n m retry k o refl z)

  -- synchronous channels
  sync_at : (is : List Message) → AllOwn t v is → (n : ℕ)
      → is_sync v (get_or is n no_message).sent.channel ≡ is_sync t (get_or is n no_message).sent.channel
  sync_at is f n =
      by-range n (length is)
      (λ l. e.sync_same _ (f n l).in_first)
      (λ l. rw (get_or-eq_default is no_message {n = n} l) (e.sync_same 0 e.kinds_some))

  pub first-sync-same : (r : ℕ) → r < length t.chords → first_sync v r ≡ first_sync t r
  unfolding first_sync
  first-sync-same r l =
      rw (e.chords_same r l)
      (first-same (is_sync v) (is_sync t) (chord_at t r).channels (λ j q. e.sync_same _ (e.channel-in r j l q)))

  pub tell-same : (is : List Message) → AllOwn t v is → (h : ℕ) (ns : List ℕ) → to_tell v is h ns ≡ to_tell t is h ns
  tell-same is f h [] = refl
  tell-same is f h (n ∷ ns) = rw (sync_at is f n, tell-same is f h ns)

  -- a job's end
  pub end_same : (is : List Message) → AllOwn t v is → (d : Sender) (h : ℕ) → d.waker ≤ length is
      → job_end v is d h ≡ job_end t is d h
  unfolding job_end
  end_same is f d h l = rw (sync_at is f (d.own - 1)) (by (is_sync t (get_or is (d.own - 1) no_message).sent.channel))
    where
      takes : (w : ℕ) → w < length is → (u : Bool) → waker_end v is d w u ≡ waker_end t is d w u
      takes w q true = ap (in_job d) (pass_same w _ 0 false 0 (f w q))
      takes w q false = refl

      at : (w : ℕ) → w ≤ length is → sync_end v is d h w ≡ sync_end t is d h w
      at zero q = refl
      at (suc w) q = takes w q (not (is_consumed (get_or is w no_message).status) && not (eqb w h))

      by : (u : Bool) → ends_by v is d h u ≡ ends_by t is d h u
      by false = refl
      by true = at d.waker l

-- what was sent stays when a message turns
set-sent : (is : List Message) (n : ℕ) (τ : Turn) (j : ℕ)
    → (get_or (set is n (turned τ (get_or is n no_message))) j no_message).sent ≡ (get_or is j no_message).sent
set-sent [] n τ j = refl
set-sent (x ∷ xs) zero τ zero = refl
set-sent (x ∷ xs) zero τ (suc j) = refl
set-sent (x ∷ xs) (suc n) τ zero = refl
set-sent (x ∷ xs) (suc n) τ (suc j) = set-sent xs n τ j

pub own-set : (t v : Table) (is : List Message) (n : ℕ) (τ : Turn) → AllOwn t v is
    → AllOwn t v (set is n (turned τ (get_or is n no_message)))
own-set t v is n τ f j l =
    let k = length-set is n (turned τ (get_or is n no_message)) in
    rw (set-sent is n τ j) (f j (omega arith))
