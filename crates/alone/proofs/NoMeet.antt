-- No open messages with message o among them meet a chord below a limit: a failed pass on o leaves this, and only a
-- resumed message could undo it.
use mathlib.Core.Path.{◌≡◌, refl, sym, ◌∙◌, ap, subst}
use mathlib.Core.Logic.{◌⊎◌, inl, inr, ◌≢◌}
use mathlib.Core.Bool.{Bool, true, false}
use mathlib.Core.List.{List}
use Prim.Native.Nat.{ℕ, suc, ◌≤◌, ◌<◌}
use borrow.Author.Tests.{ltb-true, ltb-false}
use lib.Dec.{ltb}
use lib.ListN.{length, get_or}
use native.Mathlib.Omega.{arith}
use Rattle.model.specs.Basics.{is_in}
use Rattle.model.specs.Tables.{Table, chord_at, naming, first_sync}
use Rattle.model.specs.Boards.{Board, Job, message_at, channel_of, is_open, is_pending, claimed, look, wake}
use Rattle.model.specs.Effects.{Effect, apply, claims, frees, consumes, wakes_by, resumes}
use Rattle.model.specs.Looks.{choice}
use Rattle.model.specs.Steps.{woken_of}
use Rattle.model.proofs.Tests.{never, same?}
use Rattle.model.proofs.Lists.{is_in-nth, nth-is_in}
use Rattle.model.proofs.Chords.{names-not, wakes-first}
use Rattle.model.proofs.Frame.{messages-count}
use Rattle.model.proofs.Passage.{After, same, turned_by, grows}
use Rattle.model.proofs.Phases.{is_resume}
use Rattle.model.proofs.Local.{Full}
use Rattle.model.proofs.Choice.{alike-via}
use Rattle.model.proofs.Obligation.{Meets, meets-before}
use Rattle.model.proofs.Covers.{missed-at, not-resume}
use Rattle.model.proofs.AtWork.{AtWork, held-claimed}
use Rattle.alone.proofs.Calm.{Next}
use Rattle.alone.proofs.Passes.{open-pending}

abbrev pub AllOpen : Board → List ℕ → Type 0
AllOpen b ns = (j : ℕ) → j < length ns → is_open (message_at b (get_or ns j 0)).status ≡ true

pub record NoMeet (t : Table) (o lim : ℕ) (b : Board) : Type 0 where
  pub none : (q : ℕ) (ns : List ℕ) → q < lim → Meets t b q ns → AllOpen b ns → is_in o ns ≡ true → ⊥

pub no-meet-less : {t : Table} {o lim lim' : ℕ} {b : Board} → lim' ≤ lim → NoMeet t o lim b → NoMeet t o lim' b
no-meet-less le k = record { none = λ q ns l. k.none q ns (omega arith) }

pub no-meet-zero : (t : Table) (o : ℕ) (b : Board) → NoMeet t o 0 b
no-meet-zero t o b = record { none = λ q ns l. absurd (omega arith) }

-- a message that is not open is in no such list
pub no-meet-shut : (t : Table) (o lim : ℕ) (b : Board) → is_open (message_at b o).status ≡ false → NoMeet t o lim b
no-meet-shut t o lim b e = record {
  none = λ q ns l m f x.
      let r = is_in-nth o ns x in
      never (sym e ∙ subst (λ (n : ℕ). is_open (message_at b n).status ≡ true) r.2 (f r.0 r.1));
}

-- a step that resumes nothing opens nothing
module _ {t : Table} {b : Board} {i : ℕ} {e : Effect} (x : Next t b i e) (calm : is_resume e.change ≡ false) where
  open-before : (n : ℕ) → is_open (message_at (apply b i e) n).status ≡ true → After b (apply b i e) e.change n
      → is_open (message_at b n).status ≡ true
  open-before n z (same f s m w) = ap is_open (sym s) ∙ z
  open-before n z (turned_by claims f l s y m w) = ap is_open s
  open-before n z (turned_by frees f l s y m w) = ap is_open s
  open-before n z (turned_by (consumes k) f l s y m w) = ap is_open s
  open-before n z (turned_by (wakes_by h) f l s y m w) = ap is_open s
  open-before n z (turned_by resumes f l s y m w) = absurd (not-resume e.change calm f)

  pub no-meet-on : {o lim : ℕ} → NoMeet t o lim b → NoMeet t o lim (apply b i e)
  no-meet-on k = record {
    none = λ q ns l m f.
        k.none q ns l
        (meets-before t b (apply b i e) (grows x.passage) q ns
        (λ j z. omega (arith, m.inside j z, messages-count b i e)) m)
        (λ j z. open-before (get_or ns j 0) (f j z) (x.passage.after (get_or ns j 0)));
  }

-- chords that do not name the message's channel add nothing
meets-names : (t : Table) (b : Board) (q : ℕ) (ns : List ℕ) (n : ℕ) → Meets t b q ns → is_in n ns ≡ true
    → is_in (channel_of b n) (chord_at t q).channels ≡ true
meets-names t b q ns n m e = let r = is_in-nth n ns e in go r.0 r.1 r.2
  where
    go : (j : ℕ) → j < length ns → get_or ns j 0 ≡ n → is_in (channel_of b n) (chord_at t q).channels ≡ true
    go j a z = rw (← z) (rw (m.kinds j a) (nth-is_in (chord_at t q).channels j (omega (arith, m.all))))

pub no-meet-skips : {t : Table} {o r : ℕ} {b : Board} → NoMeet t o r b → NoMeet t o (naming t (channel_of b o) r) b
no-meet-skips {t} {o} {r} {b} k = record { none = λ q ns l m f x. go q ns l m f x (ltb q r) refl }
  where
    go : (q : ℕ) (ns : List ℕ) → q < naming t (channel_of b o) r → Meets t b q ns → AllOpen b ns → is_in o ns ≡ true
        → (u : Bool) → ltb q r ≡ u → ⊥
    go q ns l m f x true e = k.none q ns (ltb-true _ _ e) m f x
    go q ns l m f x false e =
        never (sym (names-not t (channel_of b o) r q (ltb-false _ _ e) l) ∙ meets-names t b q ns o m x)

-- nor does a chord at which a look has missed in peace
pub no-meet-missed : {t : Table} {b : Board} {i : ℕ} {w : Job} {k : ℕ} → AtWork t b i w (look k)
    → ((n : ℕ) → (message_at b n).status ≢ claimed) → choice t b w k ≡ 0 → NoMeet t w.subject w.chord b
    → NoMeet t w.subject (suc w.chord) b
no-meet-missed {t} {b} {i} {w} {k} a free e below =
    record { none = λ q ns l m f x. go q ns l m f x (same? q w.chord) }
  where
    go : (q : ℕ) (ns : List ℕ) → q < suc w.chord → Meets t b q ns → AllOpen b ns → is_in w.subject ns ≡ true
        → (q ≡ w.chord) ⊎ (q ≢ w.chord) → ⊥
    go q ns l m f x (inr d) = below.none q ns (omega arith) m f x
    go q ns l m f x (inl d) =
        let p = a.job.placed in
        let r = missed-at t b w k ns p.0 p.1 p.2 e (subst (λ (r : ℕ). Meets t b r ns) d m) x in
        let y = is_in-nth r.0 ns r.1 in
        let o = subst (λ (n : ℕ). is_open (message_at b n).status ≡ true) y.2 (f y.0 y.1) in
        never (sym r.4 ∙ ap is_pending (open-pending (message_at b r.0).status o (free r.0)))

-- a job about to wake cannot be about to wake such a message
full_meets : (t : Table) (b : Board) (h r : ℕ) (c : List ℕ) → Full t b h r c → Meets t b r c
full_meets t b h r c f = record {
  chord-in = f.selection.chord-in;
  inside = f.selection.inside;
  all = f.all;
  kinds = f.selection.kinds;
  props = λ i j k l.
      alike-via (chord_at t r) (message_at b h).sent (message_at b (get_or c i 0)).sent (message_at b (get_or c j 0)).sent
      (f.selection.props i k) (f.selection.props j l);
  one = f.selection.one;
}

pub wakes-other : {t : Table} {b : Board} {i : ℕ} {w : Job} {o : ℕ} → AtWork t b i w wake
    → NoMeet t o (length t.chords) b → woken_of t w ≢ o
unfolding woken_of
wakes-other {t} {b} {i} {w} {o} a k e =
    let f = a.job.placed.full in
    let sync = (wakes-first t w.chord (message_at b w.subject).sent.channel a.job.placed.to-wake).0 in
    k.none w.chord w.chosen f.selection.chord-in (full_meets t b w.subject w.chord w.chosen f)
    (λ j l. ap is_open (held-claimed a j l))
    (subst (λ (n : ℕ). is_in n w.chosen ≡ true) e
    (nth-is_in w.chosen (first_sync t w.chord) (omega (arith, f.all, sync))))
