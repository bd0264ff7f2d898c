-- A pass looks at every chord ahead that names its subject, and a retry at all of them; and how a step that goes on
-- with its job, or ends it, hands on what it is bound to.
use mathlib.Core.Path.{refl, ◌≡◌, sym, ◌∙◌, subst, ap, subst⁻¹}
use mathlib.Core.Logic.{inl, inr, ◌⊎◌, ◌≢◌}
use mathlib.Core.Bool.{Bool, true, false, not, ◌&&◌}
use mathlib.Core.List.{List}
use Prim.Native.Nat.{◌-◌, ℕ, ◌≤◌, ◌<◌, zero, suc}
use borrow.Author.Tests.{leb-true, leb-false, eq-eqb, ne_eqb}
use lib.Dec.{leb, eqb}
use lib.ListN.{length, get_or}
use native.Mathlib.Omega.{arith}
use Rattle.model.specs.Basics.{is_in}
use Rattle.model.specs.Tables.{Table, naming, chord_at, is_sync, size, channel_at}
use Rattle.model.specs.Boards.{Board, channel_of, message_at, Status, is_pending, is_claimed, woken, consumed}
use Rattle.model.specs.Boards.{pending, claimed, is_open, Job, Phase, is_consumed, Message, Sender, no_message}
use Rattle.model.specs.Boards.{sender_at, working, blocked}
use Rattle.model.specs.Effects.{Change, Turn, resumes, none, turn, records, signals}
use Rattle.model.specs.Jobs.{pass_from, job_end, in_job, ends_by, sync_end, waker_end, new_pass}
use Rattle.model.specs.Looks.{subject_place, choice, fits}
use Rattle.model.specs.Steps.{rests_then}
use Rattle.model.proofs.Tests.{never, and, no_true, other-false}
use Rattle.model.proofs.Lists.{is_in-nth, first-in, nth-is_in}
use Rattle.model.proofs.Pigeon.{one_left}
use Rattle.model.proofs.Chords.{names-not}
use Rattle.model.proofs.Jobs.{pass-by}
use Rattle.model.proofs.Passage.{TurnsTo}
use Rattle.model.proofs.Phases.{is_resume, same-job, blocked-not}
use Rattle.model.proofs.Local.{Full, Waits, Selection}
use Rattle.model.proofs.Choice.{choice-none}
use Rattle.model.proofs.Matches.{Unmatched}
use Rattle.model.proofs.Obligation.{Covers, CoversAt, Case, Obliged, ObligationKept, by_waker, by_subject}
use Rattle.model.proofs.Obligation.{Meets}

-- a pass begun covers what lies ahead; a marked one, everything
pub covers-retrying : (t : Table) (h channel from k q : ℕ) (retry : Bool) → retry ≡ true
    → Covers (pass_from t h channel from retry k) q
covers-retrying t h channel from k q retry e =
    rw e (pass-by t h channel from true k (λ w. Covers w q) (λ l. inl refl) (λ l. refl))

pub covers-ahead : (t : Table) (h channel from k q : ℕ) (retry : Bool) → q < length t.chords → from ≤ q
    → is_in channel (chord_at t q).channels ≡ true → Covers (pass_from t h channel from retry k) q
covers-ahead t h channel from k q retry l m n =
    let named = go (leb (naming t channel from) q) refl in
    pass-by t h channel from retry k (λ w. Covers w q) (λ r. inr named) (λ r. absurd (omega (arith, named)))
  where
    go : (u : Bool) → leb (naming t channel from) q ≡ u → naming t channel from ≤ q
    go true e = leb-true _ _ e
    go false e = never (sym (names-not t channel from q m (leb-false _ _ e)) ∙ n)

pub subject-of : (t : Table) (h channel from k : ℕ) (retry : Bool) → (pass_from t h channel from retry k).subject ≡ h
subject-of t h channel from k retry =
    pass-by t h channel from retry k (λ w. w.subject ≡ h) (λ l. refl) (λ l. refl)

pub rests-subject : (t : Table) (b : Board) (h k rests : ℕ) → (rests_then t b h k rests).subject ≡ h
rests-subject t b h k zero = subject-of t h _ 0 k false
rests-subject t b h k (suc rests) = refl

pub rests-cover : (t : Table) (b : Board) (h k rests q : ℕ) → q < length t.chords
    → is_in (channel_of b h) (chord_at t q).channels ≡ true → Covers (rests_then t b h k rests) q
rests-cover t b h k zero q l n = covers-ahead t h (channel_of b h) 0 k q false l (omega arith) n
rests-cover t b h k (suc rests) q l n = tt

pub full-subject : (t : Table) (b : Board) (h r : ℕ) (c : List ℕ) → Full t b h r c → is_in h c ≡ true
full-subject t b h r c f =
    let n = is_in-nth (message_at b h).sent.channel (chord_at t r).channels f.selection.names in
    let p : subject_place t b h r ≤ n.0 =
    first-in (eqb (message_at b h).sent.channel) (chord_at t r).channels n.0 n.1 (eq-eqb _ _ (sym n.2)) in
    let l : subject_place t b h r < length c = omega (arith, n.1, f.all) in
    rw (f.selection.subject_at (subject_place t b h r) l refl) at (nth-is_in c (subject_place t b h r) l)

pub status-left : (s : Status) → is_pending s ≡ false → is_claimed s ≡ false → (s ≡ woken) ⊎ (s ≡ consumed)
status-left pending e f = never (sym e)
status-left claimed e f = never (sym f)
status-left woken e f = inl refl
status-left consumed e f = inr refl

pub shut : (s : Status) → is_open s ≡ false → (s ≡ woken) ⊎ (s ≡ consumed)
shut pending e = never (sym e)
shut claimed e = never (sym e)
shut woken e = inl refl
shut consumed e = inr refl

pub covered : (w : Job) (q : ℕ) (p : Phase) → w.phase ≡ p → Covers w q → CoversAt p w.retry w.chord q
covered w q p e c = subst (λ (x : Phase). CoversAt x w.retry w.chord q) e c

not-gone : (s : Status) → s ≢ consumed → is_consumed s ≡ false
not-gone pending n = refl
not-gone claimed n = refl
not-gone woken n = refl
not-gone consumed n = absurd (n refl)

pub ends-takes : (t : Table) (is : List Message) (e : Sender) (h v : ℕ)
    → is_sync t (get_or is (e.own - 1) no_message).sent.channel ≡ true → e.waker ≡ suc v
    → (get_or is v no_message).status ≢ consumed → v ≢ h
    → job_end t is e h ≡ in_job e (pass_from t v (get_or is v no_message).sent.channel 0 false 0)
unfolding job_end
ends-takes t is e h v a k n ne =
    ap (ends_by t is e h) a
    ∙ ap (sync_end t is e h) k
    ∙ ap (waker_end t is e v) (and (no_true (not-gone _ n)) (no_true (ne_eqb v h ne)))

pub not-resume : (c : Change) {n : ℕ} → is_resume c ≡ false → TurnsTo c n resumes → ⊥
not-resume none e f = never f.0
not-resume (turn m τ) e f = never (sym e ∙ ap (λ (σ : Turn). is_resume (turn m σ)) f.2)
not-resume (records m r) e f = never (ap (λ (σ : Turn). is_resume (turn m σ)) f.2)
not-resume (signals m) e f = never f.0

module _ {t : Table} {b b' : Board} {i : ℕ} {c : Change} {d : Sender} {q : ℕ} {ns : List ℕ}
    (x : Case t b b' i c d q ns) where
  pub unmatched-of : (n : ℕ) → is_in n ns ≡ true → Unmatched b' n
  unmatched-of n e = let r = is_in-nth n ns e in rw r.2 at (x.unmatched r.0 r.1)

  pub live : (n : ℕ) → is_in n ns ≡ true → (message_at b' n).status ≢ consumed
  live n e z = let r = x.notes'.match n z in never (sym (unmatched-of n e r.0 r.2) ∙ r.3)

  pub names-it : (n : ℕ) → is_in n ns ≡ true → is_in (channel_of b n) (chord_at t q).channels ≡ true
  names-it n e = let r = is_in-nth n ns e in go r.0 r.1 r.2
    where
      go : (j : ℕ) → j < length ns → get_or ns j 0 ≡ n → is_in (channel_of b n) (chord_at t q).channels ≡ true
      go j a z = rw (← z) (rw (x.meets.kinds j a) (nth-is_in (chord_at t q).channels j (omega (arith, x.meets.all))))

  module _ (w : Job) (st : (sender_at b i).state ≡ working w) (no : is_resume c ≡ false) where
    kept_by : (is_in w.subject ns ≡ true → Covers w q → Obliged t b' q ns)
        → ((v : ℕ) → suc w.subject ≡ (sender_at b i).own → (sender_at b i).waker ≡ suc v → is_in v ns ≡ true → Obliged
        t b' q ns)
        → ObligationKept t b b' i c q ns
    kept_by f h = record {
      subject = λ y e n z. f (subst⁻¹ (λ (y : Job). is_in y.subject ns ≡ true) (same-job st e) n)
          (subst⁻¹ (λ (y : Job). Covers y q) (same-job st e) z);
      waker = λ y v e o z n. h v (subst⁻¹ (λ (y : Job). suc y.subject ≡ (sender_at b i).own) (same-job st e) o) z n;
      resumed = λ n e. absurd (not-resume c no e);
      noted = λ n v e. absurd (not-resume c no e);
    }

    -- the sender goes on with the same subject
    pub go_on : (w' : Job) → d.state ≡ working w' → d.own ≡ (sender_at b i).own → d.waker ≡ (sender_at b i).waker
        → w'.subject ≡ w.subject
        → (is_in w.subject ns ≡ true → Covers w q → Covers w' q ⊎ Obliged t b' q ns)
        → ObligationKept t b b' i c q ns
    go_on w' e o k h f = kept_by (λ n z. go n (f n z))
        (λ v z y n.
        by_waker i w' v (x.passage.own.state ∙ e) (ap suc h ∙ z ∙ sym o ∙ sym x.passage.own.own)
        (x.passage.own.waker ∙ k ∙ y) n)
      where
        go : is_in w.subject ns ≡ true → Covers w' q ⊎ Obliged t b' q ns → Obliged t b' q ns
        go n (inl z) = by_subject i w' (x.passage.own.state ∙ e) (ap (λ (y : ℕ). is_in y ns) h ∙ n) z
        go n (inr z) = z

    -- the job ends: a waker that is not consumed becomes the subject
    pub end-it : (e : Sender) → d ≡ job_end t b'.messages e w.subject → e.own ≡ (sender_at b i).own
        → e.waker ≡ (sender_at b i).waker
        → (is_in w.subject ns ≡ true → Covers w q → Obliged t b' q ns)
        → ObligationKept t b b' i c q ns
    end-it e z o k f = kept_by f taken
      where
        taken : (v : ℕ) → suc w.subject ≡ (sender_at b i).own → (sender_at b i).waker ≡ suc v → is_in v ns ≡ true
            → Obliged t b' q ns
        taken v h y n =
            by_subject i (new_pass t b'.messages v 0)
            (x.passage.own.state
            ∙ ap (λ (s : Sender). s.state)
            (z ∙ ends-takes t b'.messages e w.subject v waits (k ∙ y) (live v n) other))
            (ap (λ (s : ℕ). is_in s ns) (subject-of t v _ 0 0 false) ∙ n)
            (covers-ahead t v (channel_of b' v) 0 0 q false x.meets.chord-in (omega arith)
            (rw (x.passage.kept v r.0).channel (names-it v n)))
          where
            r : (v < length b.messages) × (is_sync t (channel_of b v) ≡ false) × (1 ≤ (sender_at b i).own)
                × Waits t b (sender_at b i).own
            r = x.sender-ok.waker_is v y

            own_is : w.subject ≡ (sender_at b i).own - 1
            own_is = omega arith

            waits : is_sync t (channel_of b' (e.own - 1)) ≡ true
            waits =
                rw
                (o, (x.passage.kept ((sender_at b i).own - 1) (omega (arith, r.2, x.sender-ok.own_in))).channel)
                r.3

            other : v ≢ w.subject
            other a = never (sym r.1 ∙ ap (λ (y : ℕ). is_sync t (channel_of b y)) (a ∙ own_is) ∙ r.3)

-- a blocked sender that does not resume is bound to nothing
pub blocked-obligation : (t : Table) (b b' : Board) (i : ℕ) (c : Change) (q : ℕ) (ns : List ℕ)
    → (sender_at b i).state ≡ blocked
    → is_resume c ≡ false → ObligationKept t b b' i c q ns
blocked-obligation t b b' i c q ns st e = record {
  subject = λ w f. absurd (blocked-not st f);
  waker = λ w v f. absurd (blocked-not st f);
  resumed = λ n f. absurd (not-resume c e f);
  noted = λ n v f. absurd (not-resume c e f);
}

-- a miss at a chord: some message of the list fits the member and is not pending
pub missed-at : (t : Table) (b : Board) (w : Job) (k : ℕ) (ns : List ℕ)
    → Selection t b w.subject w.chord w.chosen → length w.chosen ≡ k → k < size t w.chord
    → choice t b w k ≡ 0 → Meets t b w.chord ns → is_in w.subject ns ≡ true
    → (n : ℕ) × (is_in n ns ≡ true) × (n < length b.messages)
    × (fits (chord_at t w.chord) (channel_at t w.chord k) (message_at b w.subject).sent (message_at b n) ≡ true)
    × (is_pending (message_at b n).status ≡ false)
missed-at t b w k ns r lc kl c m hn =
    let o =
    one_left (channel_at t w.chord) (λ n. (message_at b n).sent.channel) (λ j. get_or ns j 0) w.chosen k lc
    (λ j l. r.kinds j (omega arith)) (λ j l. m.kinds j (omega (arith, m.all)))
    (λ i j a e. m.one i j (omega (arith, m.all)) (omega (arith, m.all))) in
    let p = is_in-nth w.subject ns hn in
    go o.0 (omega (arith, o.1, m.all)) o.2 o.3 p.0 p.1 p.2
  where
    go : (j : ℕ) → j < length ns → channel_at t w.chord j ≡ channel_at t w.chord k
        → is_in (get_or ns j 0) w.chosen ≡ false → (i : ℕ) → i < length ns → get_or ns i 0 ≡ w.subject
        → (n : ℕ) × (is_in n ns ≡ true) × (n < length b.messages)
        × (fits (chord_at t w.chord) (channel_at t w.chord k) (message_at b w.subject).sent (message_at b n)
        ≡ true) × (is_pending (message_at b n).status ≡ false)
    go j jl e f i il h = (get_or ns j 0, nth-is_in ns j jl, m.inside j jl, ft, open-not)
      where
        ft : fits (chord_at t w.chord) (channel_at t w.chord k) (message_at b w.subject).sent
            (message_at b (get_or ns j 0)) ≡ true
        ft = and (eq-eqb _ _ (m.kinds j jl ∙ e)) (rw h at (m.props i j il jl))

        open-not : is_pending (message_at b (get_or ns j 0)).status ≡ false
        open-not =
            flip (is_pending (message_at b (get_or ns j 0)).status)
            (other-false _ _ (choice-none t b w k c (get_or ns j 0) (m.inside j jl)) ft)
          where
            flip : (u : Bool) → (u && not (is_in (get_or ns j 0) w.chosen)) ≡ false → u ≡ false
            flip false z = refl
            flip true z = never (sym z ∙ no_true f)
