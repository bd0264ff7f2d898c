-- What messages note of their match and their waker stays right.
use mathlib.Core.Path.{◌≡◌, subst, sym, ◌∙◌, refl}
use mathlib.Core.Bool.{false, true}
use Prim.Native.Nat.{ℕ, suc, ◌<◌, ◌≤◌, zero}
use lib.ListN.{length}
use native.Mathlib.Omega.{arith}
use Rattle.model.specs.Basics.{is_in}
use Rattle.model.specs.Tables.{Table, is_sync}
use Rattle.model.specs.Boards.{Board, message_at, channel_of, consumed, match_at, woken, Sender}
use Rattle.model.specs.Effects.{Turn, claims, frees, consumes, wakes_by, resumes, Change, none, turn, records}
use Rattle.model.specs.Effects.{signals}
use Rattle.model.proofs.Tests.{never}
use Rattle.model.proofs.Grows.{Grows, apart}
use Rattle.model.proofs.Passage.{TurnsTo, Passage, grows, waker-on-board, After, same, turned_by}

pub record NotesOk (t : Table) (b : Board) : Type 0 where
  pub waker_is : (n v : ℕ) → (message_at b n).waker ≡ suc v
      → (v < length b.messages) × (is_sync t (channel_of b v) ≡ false) × (is_sync t (channel_of b n) ≡ true)
  pub match : (n : ℕ) → (message_at b n).status ≡ consumed
      → (k : ℕ) × ((message_at b n).match ≡ suc k) × (k < length b.matches) × (is_in n (match_at b k).messages ≡ true)
  pub woken_is : (n : ℕ) → (message_at b n).status ≡ woken → 1 ≤ (message_at b n).waker

-- what a call owes: what its turn writes is right on the board after it
abbrev pub Writes : Table → Board → ℕ → Turn → Type 0
Writes t b n claims = Unit {0}
Writes t b n frees = Unit {0}
Writes t b n (consumes m) = (k : ℕ) × (m ≡ suc k) × (k < length b.matches) × (is_in n (match_at b k).messages ≡ true)
Writes t b n (wakes_by h) =
    (h < length b.messages) × (is_sync t (channel_of b h) ≡ false) × (is_sync t (channel_of b n) ≡ true)
Writes t b n resumes = Unit {0}

abbrev pub NotesKept : Table → Board → Change → Type 0
NotesKept t b none = Unit {0}
NotesKept t b (turn n τ) = Writes t b n τ
NotesKept t b (records n m) = Unit {0}
NotesKept t b (signals n) = Unit {0}

pub writes-right : (t : Table) (b : Board) (c : Change) {n : ℕ} {τ : Turn} → NotesKept t b c → TurnsTo c n τ
    → Writes t b n τ
writes-right t b none k f = never f.0
writes-right t b (turn m σ) {n} {τ} k f =
    subst (λ (x : ℕ). Writes t b x τ) f.1 (subst (λ (x : Turn). Writes t b m x) f.2 k)
writes-right t b (records m r) {n} {τ} k f = subst (λ (x : Turn). Writes t b n x) f.2 tt
writes-right t b (signals m) k f = never f.0

module _ {t : Table} {b b' : Board} {i : ℕ} {c : Change} {d : Sender} (p : Passage b b' i c d) (ok : NotesOk t b)
    (k : NotesKept t b' c) where
  g : Grows b b'
  g = grows p

  waker-on : (n v : ℕ) → (message_at b n).waker ≡ suc v
      → (v < length b'.messages) × (is_sync t (channel_of b' v) ≡ false) × (is_sync t (channel_of b' n) ≡ true)
  waker-on n v e =
      let r = ok.waker_is n v e in (
        omega (arith, r.0, g.messages_more),
        rw (g.kept v r.0).channel r.1,
        rw (g.kept n (waker-on-board b n v e)).channel r.2,
      )

  waker-now : (n v : ℕ) → (message_at b' n).waker ≡ suc v → After b b' c n
      → (v < length b'.messages) × (is_sync t (channel_of b' v) ≡ false) × (is_sync t (channel_of b' n) ≡ true)
  waker-now n v e (same f s m w) = waker-on n v (sym w ∙ e)
  waker-now n v e (turned_by claims f l s z m w) = waker-on n v (sym w ∙ e)
  waker-now n v e (turned_by frees f l s z m w) = waker-on n v (sym w ∙ e)
  waker-now n v e (turned_by (consumes x) f l s z m w) = waker-on n v (sym w ∙ e)
  waker-now n v e (turned_by resumes f l s z m w) = waker-on n v (sym w ∙ e)
  waker-now n v e (turned_by (wakes_by h) f l s z m w) =
      let r = writes-right t b' c k f in
      let y : v ≡ h = omega (arith, e, w) in
      (rw y r.0, rw y r.1, r.2)

  match-on : (n : ℕ) → (message_at b n).status ≡ consumed → (message_at b' n).match ≡ (message_at b n).match
      → (k : ℕ) × ((message_at b' n).match ≡ suc k) × (k < length b'.matches)
      × (is_in n (match_at b' k).messages ≡ true)
  match-on n e m =
      let r = ok.match n e in
      (r.0, m ∙ r.1, omega (arith, r.2, g.matches_more), rw (g.matches_same r.0 r.2) r.3)

  match-now : (n : ℕ) → (message_at b' n).status ≡ consumed → After b b' c n
      → (k : ℕ) × ((message_at b' n).match ≡ suc k) × (k < length b'.matches)
      × (is_in n (match_at b' k).messages ≡ true)
  match-now n e (same f s m w) = match-on n (sym s ∙ e) m
  match-now n e (turned_by claims f l s z m w) = absurd (apart refl (sym z ∙ e))
  match-now n e (turned_by frees f l s z m w) = absurd (apart refl (sym z ∙ e))
  match-now n e (turned_by (consumes x) f l s z m w) = let r = writes-right t b' c k f in (r.0, m ∙ r.1, r.2, r.3)
  match-now n e (turned_by resumes f l s z m w) = absurd (apart refl (sym z ∙ e))
  match-now n e (turned_by (wakes_by h) f l s z m w) = absurd (apart refl (sym z ∙ e))

  woken-now : (n : ℕ) → (message_at b' n).status ≡ woken → After b b' c n → 1 ≤ (message_at b' n).waker
  woken-now n e (same f s m w) = rw w (ok.woken_is n (sym s ∙ e))
  woken-now n e (turned_by claims f l s z m w) = absurd (apart refl (sym z ∙ e))
  woken-now n e (turned_by frees f l s z m w) = absurd (apart refl (sym z ∙ e))
  woken-now n e (turned_by (consumes x) f l s z m w) = absurd (apart refl (sym z ∙ e))
  woken-now n e (turned_by resumes f l s z m w) = absurd (apart refl (sym z ∙ e))
  woken-now n e (turned_by (wakes_by h) f l s z m w) = omega (arith, w)

  pub notes-after : NotesOk t b'
  notes-after = record {
    waker_is = λ n v e. waker-now n v e (p.after n);
    match = λ n e. match-now n e (p.after n);
    woken_is = λ n e. woken-now n e (p.after n);
  }

-- a woken message is synchronous
pub woken-waits : (t : Table) (b : Board) → NotesOk t b → (n : ℕ) → (message_at b n).status ≡ woken
    → is_sync t (channel_of b n) ≡ true
woken-waits t b ok n e = go (message_at b n).waker refl (ok.woken_is n e)
  where
    go : (v : ℕ) → (message_at b n).waker ≡ v → 1 ≤ (message_at b n).waker → is_sync t (channel_of b n) ≡ true
    go zero z h = absurd (omega arith)
    go (suc v) z h = (ok.waker_is n v z).2
