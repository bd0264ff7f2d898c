-- What is true of one sender by itself, whatever the others do: stable under Grows.
use mathlib.Core.Path.{◌≡◌, refl, ◌∙◌, sym, subst⁻¹}
use mathlib.Core.Logic.{◌⊎◌, inr, ◌≢◌, inl}
use mathlib.Core.Bool.{true, false, Bool}
use mathlib.Core.List.{List, [], ◌∷◌}
use Prim.Native.Nat.{ℕ, ◌-◌, ◌<◌, ◌≤◌, suc, zero}
use lib.ListN.{length, get_or}
use native.Mathlib.Omega.{arith}
use Rattle.model.specs.Basics.{is_in}
use Rattle.model.specs.Tables.{Table, chord_at, channel_at, size, wakes, is_sync, naming}
use Rattle.model.specs.Boards.{Board, message_at, wake, match_at, consumed, consume, Phase, look, claim, revert}
use Rattle.model.specs.Boards.{tell, free, signal, pass_end, backoff, Job, State, idle, working, blocked}
use Rattle.model.specs.Boards.{Sender, channel_of, sender_at}
use Rattle.model.specs.Effects.{Change}
use Rattle.model.specs.Jobs.{pass_from, goes_idle, job_end}
use Rattle.model.specs.Looks.{alike, subject_place}
use Rattle.model.specs.Steps.{to_tell, rests_then}
use Rattle.model.specs.Demands.{SameButSignal}
use Rattle.model.proofs.Tests.{same?}
use Rattle.model.proofs.Lists.{is_in-nth}
use Rattle.model.proofs.Chords.{names-yes}
use Rattle.model.proofs.Jobs.{pass-by, job-end-by}
use Rattle.model.proofs.Grows.{Grows}
use Rattle.model.proofs.Passage.{Passage, grows}

-- a job at chord r with subject h: the chord names the subject's channel, and the chosen messages are of the members'
-- channels, fit, and are distinct
pub record Selection (t : Table) (b : Board) (h r : ℕ) (c : List ℕ) : Type 0 where
  pub chord-in : r < length t.chords
  pub names : is_in (message_at b h).sent.channel (chord_at t r).channels ≡ true
  pub inside : (j : ℕ) → j < length c → get_or c j 0 < length b.messages
  pub kinds : (j : ℕ) → j < length c → (message_at b (get_or c j 0)).sent.channel ≡ channel_at t r j
  pub props : (j : ℕ) → j < length c → alike (chord_at t r) (message_at b h).sent (message_at b (get_or c j 0)).sent ≡ true
  pub one : (i j : ℕ) → i < length c → j < length c → get_or c i 0 ≡ get_or c j 0 → i ≡ j
  pub subject_at : (j : ℕ) → j < length c → j ≡ subject_place t b h r → get_or c j 0 ≡ h

pub record Full (t : Table) (b : Board) (h r : ℕ) (c : List ℕ) : Type 0 where
  pub selection : Selection t b h r c
  pub all : length c ≡ size t r

pub record AtConsume (t : Table) (b : Board) (h r : ℕ) (c : List ℕ) (k m : ℕ) : Type 0 where
  pub full : Full t b h r c
  pub at : k < size t r
  pub to_match : wakes t r (message_at b h).sent.channel ≡ false
  pub match-in : m ≤ length b.matches
  pub match : (k : ℕ) → m ≡ suc k → (match_at b k).messages ≡ c
  pub some : 1 ≤ m
  pub done : (j : ℕ) → j < k → ((message_at b (get_or c j 0)).status ≡ consumed) × ((message_at b (get_or c j 0)).match ≡ m)

pub record AtTell (t : Table) (b : Board) (h r : ℕ) (c : List ℕ) (k : ℕ) : Type 0 where
  pub full : Full t b h r c
  pub to_match : wakes t r (message_at b h).sent.channel ≡ false
  pub at : k < length (to_tell t b.messages h c)
  pub done : (j : ℕ) → j < size t r → (message_at b (get_or c j 0)).status ≡ consumed

pub record AtWake (t : Table) (b : Board) (h r : ℕ) (c : List ℕ) : Type 0 where
  pub full : Full t b h r c
  pub to-wake : wakes t r (message_at b h).sent.channel ≡ true

abbrev pub PlacedAt : Table → Board → ℕ → ℕ → List ℕ → Bool → Phase → Type 0
PlacedAt t b h r c retry (look k) = Selection t b h r c × (length c ≡ k) × (k < size t r)
PlacedAt t b h r c retry (claim k) = Full t b h r c × (k < size t r)
PlacedAt t b h r c retry (revert k m) = Full t b h r c × (k < m) × (m < size t r) × (retry ≡ true)
PlacedAt t b h r c retry (consume k m) = AtConsume t b h r c k m
PlacedAt t b h r c retry (tell k) = AtTell t b h r c k
PlacedAt t b h r c retry wake = AtWake t b h r c
PlacedAt t b h r c retry (free k) = AtWake t b h r c × (suc k < size t r)
PlacedAt t b h r c retry signal = AtWake t b h r c
PlacedAt t b h r c retry pass_end = length c ≡ 0
PlacedAt t b h r c retry (backoff rests) = length c ≡ 0

abbrev pub Placed : Table → Board → Job → Phase → Type 0
Placed t b w p = PlacedAt t b w.subject w.chord w.chosen w.retry p

-- a job of a sender with this own message and waker (numbers plus 1)
pub record JobAt (t : Table) (b : Board) (own waker : ℕ) (w : Job) (p : Phase) : Type 0 where
  pub subject_in : w.subject < length b.messages
  pub subject_is : (suc w.subject ≡ own) ⊎ (suc w.subject ≡ waker)
  pub placed : Placed t b w p

abbrev pub Waits : Table → Board → ℕ → Type 0
Waits t b own = is_sync t (message_at b (own - 1)).sent.channel ≡ true

abbrev pub StateOk : Table → Board → ℕ → ℕ → ℕ → State → Type 0
StateOk t b own waker matched idle = Unit {0}
StateOk t b own waker matched (working w) = (1 ≤ own) × JobAt t b own waker w w.phase
StateOk t b own waker matched blocked = (1 ≤ own) × Waits t b own × (matched ≡ 0)

pub record SenderOk (t : Table) (b : Board) (d : Sender) : Type 0 where
  pub own_in : d.own ≤ length b.messages
  pub waker_is : (v : ℕ) → d.waker ≡ suc v
      → (v < length b.messages) × (is_sync t (message_at b v).sent.channel ≡ false) × (1 ≤ d.own) × Waits t b
      d.own
  pub reply_is : (k : ℕ) → d.reply ≡ suc k
      → (1 ≤ d.own) × Waits t b d.own × (k < length b.matches)
      × (is_in (d.own - 1) (match_at b k).messages ≡ true)
  pub matched_is : (k : ℕ) → d.matched ≡ suc k
      → (1 ≤ d.own) × ((message_at b (d.own - 1)).status ≡ consumed) × (k < length b.matches)
      × (is_in (d.own - 1) (match_at b k).messages ≡ true)
  pub state_is : StateOk t b d.own d.waker d.matched d.state

-- all of it goes on
module _ (t : Table) (b b' : Board) (g : Grows b b') where
  selection-on : (h r : ℕ) (c : List ℕ) → h < length b.messages → Selection t b h r c → Selection t b' h r c
  selection-on h r c l q = record {
    chord-in = q.chord-in;
    names = rw (g.kept h l).channel q.names;
    inside = λ j l. omega (arith, q.inside j l, g.messages_more);
    kinds = λ j l. rw (g.kept (get_or c j 0) (q.inside j l)).channel (q.kinds j l);
    props = λ j m. rw ((g.kept h l).sent, (g.kept (get_or c j 0) (q.inside j m)).sent) (q.props j m);
    one = q.one;
    subject_at = λ j m e. q.subject_at j m (rw (g.kept h l).channel at e);
  }

  full-on : (h r : ℕ) (c : List ℕ) → h < length b.messages → Full t b h r c → Full t b' h r c
  full-on h r c l q = record { selection = selection-on h r c l q.selection; all = q.all }

  pub tell-on : (h : ℕ) (ns : List ℕ) → ((j : ℕ) → j < length ns → get_or ns j 0 < length b.messages)
      → to_tell t b'.messages h ns ≡ to_tell t b.messages h ns
  tell-on h [] l = refl
  tell-on h (n ∷ ns) l = rw ((g.kept n (l 0 (omega arith))).channel, tell-on h ns (λ j q. l (suc j) (omega arith)))

  waking-on : (h r : ℕ) (c : List ℕ) → h < length b.messages → AtWake t b h r c → AtWake t b' h r c
  waking-on h r c l q = record { full = full-on h r c l q.full; to-wake = rw (g.kept h l).channel q.to-wake }

  placed_on : (h r : ℕ) (c : List ℕ) (retry : Bool) → h < length b.messages → (p : Phase)
      → PlacedAt t b h r c retry p → PlacedAt t b' h r c retry p
  placed_on h r c retry l (look k) q = (selection-on h r c l q.0, q.1, q.2)
  placed_on h r c retry l (claim k) q = (full-on h r c l q.0, q.1)
  placed_on h r c retry l (revert k m) q = (full-on h r c l q.0, q.1, q.2, q.3)
  placed_on h r c retry l (consume k m) q = record {
    full = full-on h r c l q.full;
    at = q.at;
    to_match = rw (g.kept h l).channel q.to_match;
    match-in = omega (arith, q.match-in, g.matches_more);
    match = λ k e. rw (g.matches_same k (omega (arith, q.match-in, e))) (q.match k e);
    some = q.some;
    done = λ j l.
        let s = g.stays_consumed (get_or c j 0) (q.full.selection.inside j (omega (arith, q.full.all, q.at)))
        (q.done j l).0 in
        (s.0, s.1 ∙ (q.done j l).1);
  }
  placed_on h r c retry l (tell k) q = record {
    full = full-on h r c l q.full;
    to_match = rw (g.kept h l).channel q.to_match;
    at = rw (tell-on h c q.full.selection.inside) q.at;
    done = λ j l.
        (g.stays_consumed (get_or c j 0) (q.full.selection.inside j (omega (arith, q.full.all))) (q.done j l)).0;
  }
  placed_on h r c retry l wake q = waking-on h r c l q
  placed_on h r c retry l (free k) q = (waking-on h r c l q.0, q.1)
  placed_on h r c retry l signal q = waking-on h r c l q
  placed_on h r c retry l pass_end q = q
  placed_on h r c retry l (backoff rests) q = q

  pub job-on : (o v : ℕ) (w : Job) (p : Phase) → JobAt t b o v w p → JobAt t b' o v w p
  job-on o v w p j = record {
    subject_in = omega (arith, j.subject_in, g.messages_more);
    subject_is = j.subject_is;
    placed = placed_on w.subject w.chord w.chosen w.retry j.subject_in p j.placed;
  }

  waits-on : (o : ℕ) → 1 ≤ o → o ≤ length b.messages → Waits t b o → Waits t b' o
  waits-on o h l q = rw (g.kept (o - 1) (omega arith)).channel q

  state-on : (o v m : ℕ) (s : State) → o ≤ length b.messages → StateOk t b o v m s → StateOk t b' o v m s
  state-on o v m idle l q = tt
  state-on o v m (working w) l q = (q.0, job-on o v w w.phase q.1)
  state-on o v m blocked l q = (q.0, waits-on o q.0 l q.1, q.2)

  pub sender-on : (d : Sender) → SenderOk t b d → SenderOk t b' d
  sender-on d q = record {
    own_in = omega (arith, q.own_in, g.messages_more);
    waker_is = λ v e. let r = q.waker_is v e in (
      omega (arith, r.0, g.messages_more),
      rw (g.kept v r.0).channel r.1,
      r.2,
      waits-on d.own r.2 q.own_in r.3,
    );
    reply_is = λ k e. let r = q.reply_is k e in (
      r.0,
      waits-on d.own r.0 q.own_in r.1,
      omega (arith, r.2, g.matches_more),
      rw (g.matches_same k r.2) r.3,
    );
    matched_is = λ k e. let r = q.matched_is k e in (
      r.0,
      (g.stays_consumed (d.own - 1) (omega (arith, r.0, q.own_in)) r.1).0,
      omega (arith, r.2, g.matches_more),
      rw (g.matches_same k r.2) r.3,
    );
    state_is = state-on d.own d.waker d.matched d.state q.own_in q.state_is;
  }

-- a pass begun
pub pass-ok : (t : Table) (b : Board) (o v h from k : ℕ) (retry : Bool) → h < length b.messages
    → (suc h ≡ o) ⊎ (suc h ≡ v)
    → JobAt t b o v (pass_from t h (channel_of b h) from retry k) (pass_from t h (channel_of b h) from retry k).phase
pass-ok t b o v h from k retry l i =
    pass-by t h (channel_of b h) from retry k (λ w. JobAt t b o v w w.phase)
    (λ r-in.
    let n = names-yes t (channel_of b h) from r-in in
    let named = is_in-nth (channel_of b h) (chord_at t (naming t (channel_of b h) from)).channels n in
    record {
      subject_in = l;
      subject_is = i;
      placed = (
        record {
          chord-in = r-in;
          names = n;
          inside = λ j q. absurd (omega arith);
          kinds = λ j q. absurd (omega arith);
          props = λ j q. absurd (omega arith);
          one = λ i j q. absurd (omega arith);
          subject_at = λ j q. absurd (omega arith);
        },
        refl,
        omega (arith, named.1),
      );
    })
    (λ r-out. record { subject_in = l; subject_is = i; placed = refl })

pub rests-ok : (t : Table) (b : Board) (o v h k rests : ℕ) → h < length b.messages → (suc h ≡ o) ⊎ (suc h ≡ v)
    → JobAt t b o v (rests_then t b h k rests) (rests_then t b h k rests).phase
rests-ok t b o v h k zero l i = pass-ok t b o v h 0 k false l i
rests-ok t b o v h k (suc rests) l i = record { subject_in = l; subject_is = i; placed = refl }

-- a sender with another state, signal or reply
pub with-state : (t : Table) (b : Board) (d : Sender) (s : State) (g : Bool) → SenderOk t b d
    → StateOk t b d.own d.waker d.matched s
    → SenderOk t b
    (record { state = s; signalled = g; own = d.own; waker = d.waker; reply = d.reply; matched = d.matched })
with-state t b d s g q p = record {
  own_in = q.own_in;
  waker_is = q.waker_is;
  reply_is = q.reply_is;
  matched_is = q.matched_is;
  state_is = p;
}

-- a job's end keeps the sender in order
module _ (t : Table) (b : Board) (d : Sender) (h : ℕ) (q : SenderOk t b d) (some : 1 ≤ d.own) where
  idle-ok : (l : ℕ)
      → ((k : ℕ) → l ≡ suc k → (1 ≤ d.own) × Waits t b d.own × (k < length b.matches)
      × (is_in (d.own - 1) (match_at b k).messages ≡ true))
      → SenderOk t b (goes_idle d l)
  idle-ok l f = record {
    own_in = q.own_in;
    waker_is = q.waker_is;
    reply_is = f;
    matched_is = q.matched_is;
    state_is = tt;
  }

  pub ends-ok : SenderOk t b (job_end t b.messages d h)
  ends-ok =
      job-end-by t b.messages d h (SenderOk t b) (λ s. idle-ok 0 (λ k f. absurd (omega arith)))
      (λ s m e. idle-ok (suc m) (λ k f. let r = q.matched_is k (e ∙ f) in (r.0, s, r.2, r.3)))
      (λ s e. with-state t b d blocked d.signalled q (some, s, e))
      (λ s v e f ne.
      with-state t b d _ d.signalled q
      (some, pass-ok t b d.own d.waker v 0 0 false (q.waker_is v e).0 (inr (sym e))))

-- a signal does not matter, so all senders are in order after a call if the caller is
like-ok : (t : Table) (b : Board) (d e : Sender) → SameButSignal d e → SenderOk t b d → SenderOk t b e
like-ok t b d e l q = record {
  own_in = rw l.own q.own_in;
  waker_is = λ v z. rw l.own (q.waker_is v (sym l.waker ∙ z));
  reply_is = λ k z. rw l.own (q.reply_is k (sym l.reply ∙ z));
  matched_is = λ k z. rw l.own (q.matched_is k (sym l.matched ∙ z));
  state_is = subst⁻¹ (λ (o : ℕ). StateOk t b o e.waker e.matched e.state) l.own
      (subst⁻¹ (λ (v : ℕ). StateOk t b d.own v e.matched e.state) l.waker
      (subst⁻¹ (λ (m : ℕ). StateOk t b d.own d.waker m e.state) l.matched
      (subst⁻¹ (StateOk t b d.own d.waker d.matched) l.state q.state_is)));
}

pub locals-after : {t : Table} {b b' : Board} {i : ℕ} {c : Change} {d : Sender} → Passage b b' i c d
    → ((j : ℕ) → SenderOk t b (sender_at b j)) → SenderOk t b' d → (j : ℕ) → SenderOk t b' (sender_at b' j)
locals-after {t} {b} {b'} {i} {c} {d} p q k j = go (same? j i)
  where
    go : (j ≡ i) ⊎ (j ≢ i) → SenderOk t b' (sender_at b' j)
    go (inl e) = subst⁻¹ (λ (x : ℕ). SenderOk t b' (sender_at b' x)) e (like-ok t b' d (sender_at b' i) p.own k)
    go (inr e) =
        like-ok t b' (sender_at b j) (sender_at b' j) (p.others j e)
        (sender-on t b b' (grows p) (sender_at b j) (q j))
