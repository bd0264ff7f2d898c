-- Responsibility: whenever unmatched messages meet a chord, some sender is still bound to look for it.
use mathlib.Core.Path.{◌≡◌, refl, ◌∙◌, sym}
use mathlib.Core.Logic.{◌⊎◌, ◌≢◌, inl, inr}
use mathlib.Core.Bool.{true, Bool, false}
use mathlib.Core.List.{List}
use Prim.Native.Nat.{ℕ, ◌<◌, ◌≤◌, suc}
use borrow.Author.Tests.{leb-true, leb-false}
use lib.Dec.{leb}
use lib.ListN.{length, get_or}
use native.Mathlib.Omega.{arith}
use Rattle.model.specs.Basics.{is_in}
use Rattle.model.specs.Tables.{Table, size, channel_at, chord_at}
use Rattle.model.specs.Boards.{Board, channel_of, message_at, Phase, look, claim, revert, consume, tell, wake}
use Rattle.model.specs.Boards.{free, signal, pass_end, backoff, Job, sender_at, working, woken, Sender}
use Rattle.model.specs.Effects.{Change, Turn, resumes, claims, frees, consumes, wakes_by}
use Rattle.model.specs.Looks.{alike}
use Rattle.model.proofs.Tests.{same?}
use Rattle.model.proofs.Pigeon.{found}
use Rattle.model.proofs.Grows.{Grows, status_before, apart}
use Rattle.model.proofs.Passage.{TurnsTo, Passage, same, After, turned_by, grows}
use Rattle.model.proofs.Local.{SenderOk}
use Rattle.model.proofs.Notes.{NotesOk}
use Rattle.model.proofs.Matches.{Unmatched}

-- messages of the board meet a chord
pub record Meets (t : Table) (b : Board) (r : ℕ) (ns : List ℕ) : Type 0 where
  pub chord-in : r < length t.chords
  pub inside : (j : ℕ) → j < length ns → get_or ns j 0 < length b.messages
  pub all : length ns ≡ size t r
  pub kinds : (j : ℕ) → j < length ns → channel_of b (get_or ns j 0) ≡ channel_at t r j
  pub props : (i j : ℕ) → i < length ns → j < length ns
      → alike (chord_at t r) (message_at b (get_or ns i 0)).sent (message_at b (get_or ns j 0)).sent ≡ true
  pub one : (i j : ℕ) → i < length ns → j < length ns → get_or ns i 0 ≡ get_or ns j 0 → i ≡ j

-- a job will still look at chord q: its pass has not come to it, or there will be another pass
abbrev pub CoversAt : Phase → Bool → ℕ → ℕ → Type 0
CoversAt (look k) retry r q = (retry ≡ true) ⊎ (r ≤ q)
CoversAt (claim k) retry r q = (retry ≡ true) ⊎ (r ≤ q)
CoversAt (revert k m) retry r q = (retry ≡ true) ⊎ (r ≤ q)
CoversAt (consume k m) retry r q = ⊥
CoversAt (tell k) retry r q = ⊥
CoversAt wake retry r q = Unit {0}
CoversAt (free k) retry r q = ⊥
CoversAt signal retry r q = ⊥
CoversAt pass_end retry r q = retry ≡ true
CoversAt (backoff rests) retry r q = Unit {0}

abbrev pub Covers : Job → ℕ → Type 0
Covers w q = CoversAt w.phase w.retry w.chord q

pub data Obliged (t : Table) (b : Board) (q : ℕ) (ns : List ℕ) : Type 0 where
  -- one of them is a sender's subject, and its job will look at the chord
  by_subject : (i : ℕ) (w : Job) → (sender_at b i).state ≡ working w → is_in w.subject ns ≡ true → Covers w q
      → Obliged t b q ns
  -- one is the waker that a sender will take up after its own message
  by_waker : (i : ℕ) (w : Job) (v : ℕ) → (sender_at b i).state ≡ working w → suc w.subject ≡ (sender_at b i).own
      → (sender_at b i).waker ≡ suc v → is_in v ns ≡ true → Obliged t b q ns
  -- one is woken, or the noted waker of a woken message
  by_woken : (n : ℕ) → is_in n ns ≡ true → (message_at b n).status ≡ woken → Obliged t b q ns
  by_noted : (n v : ℕ) → (message_at b n).status ≡ woken → (message_at b n).waker ≡ suc v → is_in v ns ≡ true
      → Obliged t b q ns

abbrev pub Obligation : Table → Board → Type 0
Obligation t b =
    (q : ℕ) (ns : List ℕ) → Meets t b q ns → ((j : ℕ) → j < length ns → Unmatched b (get_or ns j 0)) → Obliged t b q
    ns

-- what a call owes for one chord and list: its sender's duties are done or handed on
pub record ObligationKept (t : Table) (b b' : Board) (i : ℕ) (c : Change) (q : ℕ) (ns : List ℕ) : Type 0 where
  pub subject : (w : Job) → (sender_at b i).state ≡ working w → is_in w.subject ns ≡ true → Covers w q
      → Obliged t b' q ns
  pub waker : (w : Job) (v : ℕ) → (sender_at b i).state ≡ working w → suc w.subject ≡ (sender_at b i).own
      → (sender_at b i).waker ≡ suc v → is_in v ns ≡ true → Obliged t b' q ns
  pub resumed : (n : ℕ) → TurnsTo c n resumes → is_in n ns ≡ true → Obliged t b' q ns
  pub noted : (n v : ℕ) → TurnsTo c n resumes → (message_at b n).waker ≡ suc v → is_in v ns ≡ true → Obliged t b' q ns

-- the same chord and list, at a call
pub record Case (t : Table) (b b' : Board) (i : ℕ) (c : Change) (d : Sender) (q : ℕ) (ns : List ℕ) : Type 0 where
  pub passage : Passage b b' i c d
  pub meets : Meets t b q ns
  pub unmatched : (j : ℕ) → j < length ns → Unmatched b' (get_or ns j 0)
  pub notes' : NotesOk t b'
  pub sender-ok : SenderOk t b (sender_at b i)

pub unmatched-before : (b b' : Board) → Grows b b' → (n : ℕ) → Unmatched b' n → Unmatched b n
unmatched-before b b' g n u k l = rw (g.matches_same k l) at (u k (omega (arith, g.matches_more)))

pub meets-before : (t : Table) (b b' : Board) → Grows b b' → (r : ℕ) (ns : List ℕ)
    → ((j : ℕ) → j < length ns → get_or ns j 0 < length b.messages) → Meets t b' r ns → Meets t b r ns
meets-before t b b' g r ns ins m = record {
  chord-in = m.chord-in;
  inside = ins;
  all = m.all;
  kinds = λ j l. rw (g.kept (get_or ns j 0) (ins j l)).channel at (m.kinds j l);
  props =
      λ i j l k.
      rw ((g.kept (get_or ns i 0) (ins i l)).sent, (g.kept (get_or ns j 0) (ins j k)).sent) at (m.props i j l k);
  one = m.one;
}

resumes-only : (τ : Turn) → status_before τ ≡ woken → τ ≡ resumes
resumes-only claims e = absurd (apart refl e)
resumes-only frees e = absurd (apart refl e)
resumes-only (consumes m) e = absurd (apart refl e)
resumes-only (wakes_by h) e = absurd (apart refl e)
resumes-only resumes e = refl

module _ {t : Table} {b b' : Board} {i : ℕ} {c : Change} {d : Sender} (p : Passage b b' i c d) (q : ℕ) (ns : List ℕ)
    (k : ObligationKept t b b' i c q ns) where
  by-sender : (j : ℕ) (w : Job) → (j ≡ i) ⊎ (j ≢ i) → (sender_at b j).state ≡ working w → is_in w.subject ns ≡ true
      → Covers w q
      → Obliged t b' q ns
  by-sender j w (inl e) st n x = k.subject w (rw e at st) n x
  by-sender j w (inr e) st n x = by_subject j w ((p.others j e).state ∙ st) n x

  by-its-waker : (j : ℕ) (w : Job) (v : ℕ) → (j ≡ i) ⊎ (j ≢ i) → (sender_at b j).state ≡ working w
      → suc w.subject ≡ (sender_at b j).own → (sender_at b j).waker ≡ suc v → is_in v ns ≡ true → Obliged t b' q ns
  by-its-waker j w v (inl e) st o x n = k.waker w v (rw e at st) (rw e at o) (rw e at x) n
  by-its-waker j w v (inr e) st o x n =
      by_waker j w v ((p.others j e).state ∙ st) (o ∙ sym (p.others j e).own) ((p.others j e).waker ∙ x) n

  by-wake : (n : ℕ) → is_in n ns ≡ true → (message_at b n).status ≡ woken → After b b' c n → Obliged t b' q ns
  by-wake n m e (same f s x w) = by_woken n m (s ∙ e)
  by-wake n m e (turned_by τ f l s z x w) = k.resumed n (f.0, f.1, f.2 ∙ resumes-only τ (sym s ∙ e)) m

  by-note : (n v : ℕ) → (message_at b n).status ≡ woken → (message_at b n).waker ≡ suc v → is_in v ns ≡ true → After b b' c n
      → Obliged t b' q ns
  by-note n v e x m (same f s y w) = by_noted n v (s ∙ e) (w ∙ x) m
  by-note n v e x m (turned_by τ f l s z y w) = k.noted n v (f.0, f.1, f.2 ∙ resumes-only τ (sym s ∙ e)) x m

  obliged-after : Obliged t b q ns → Obliged t b' q ns
  obliged-after (by_subject j w st n x) = by-sender j w (same? j i) st n x
  obliged-after (by_waker j w v st o x n) = by-its-waker j w v (same? j i) st o x n
  obliged-after (by_woken n m e) = by-wake n m e (p.after n)
  obliged-after (by_noted n v e x m) = by-note n v e x m (p.after n)

pub obligation-after : {t : Table} {b b' : Board} {i : ℕ} {c : Change} {d : Sender} → Passage b b' i c d
    → Obligation t b
    → SenderOk t b (sender_at b i) → NotesOk t b'
    → ((q : ℕ) (ns : List ℕ) → Case t b b' i c d q ns → ObligationKept t b b' i c q ns)
    → ((q : ℕ) (ns : List ℕ) (j : ℕ) → Meets t b' q ns → j < length ns → length b.messages ≤ get_or ns j 0
    → Obliged t b' q ns)
    → Obligation t b'
obligation-after {t} {b} {b'} {i} {c} {d} p o s n' k new q ns m u =
    go (found (length ns) (λ j. leb (length b.messages) (get_or ns j 0)))
  where
    go : ((j : ℕ) × (j < length ns) × (leb (length b.messages) (get_or ns j 0) ≡ true))
        ⊎ ((j : ℕ) → j < length ns → leb (length b.messages) (get_or ns j 0) ≡ false) → Obliged t b' q ns
    go (inl x) = new q ns x.0 m x.1 (leb-true _ _ x.2)
    go (inr f) =
        let m' = meets-before t b b' (grows p) q ns (λ j l. leb-false _ _ (f j l)) m in
        obliged-after p q ns
        (k q ns (record { passage = p; meets = m'; unmatched = u; notes' = n'; sender-ok = s }))
        (o q ns m' (λ j l. unmatched-before b b' (grows p) (get_or ns j 0) (u j l)))
