-- The pool follows the board: what the pool holds after each call, and that every match is one that it allows. The
-- pool is fed the match reads of the last board of the schedule, to which every board on the way grows.
use mathlib.Core.Path.{◌≡◌, ap, refl, subst⁻¹, ◌∙◌, sym}
use mathlib.Core.Logic.{◌⊎◌, ◌≢◌, inr, inl}
use mathlib.Core.Bool.{false, true, Bool, ◌||◌}
use mathlib.Core.List.{◌++◌, ◌∷◌, [], List, map, map-append}
use Prim.Native.Nat.{ℕ, ◌<◌, suc}
use borrow.Author.Tests.{eq-eqb, lt-ltb, eqb-true}
use lib.Dec.{eqb}
use lib.IntN.{◌+ℤ◌, ℤ, +ℤ_assoc}
use lib.ListN.{length, get_or, get_or-map, length-map, set, length-set}
use lib.Seq.{get_or-set_same, get_or-set_other}
use native.Mathlib.Omega.{arith}
use Rattle.model.specs.Basics.{is_in, every}
use Rattle.model.specs.Tables.{Table}
use Rattle.model.specs.Boards.{Board, Match, sender_at, no_match, cents_of, match_at, Sent, Message, Sender}
use Rattle.model.specs.Effects.{Effect, apply, records, matches_after, Change, none, turn, signals, word_of}
use Rattle.model.specs.Effects.{value_of}
use Rattle.model.specs.Adds.{added, new_message}
use Rattle.model.specs.Pools.{Pool, cents_added, match_reads, no_read, read_match, sent_at, fair, without, leaves}
use Rattle.model.specs.Pools.{MatchRead, enters, worth, pool_cents}
use Rattle.model.proofs.Tests.{never, same?, and, either, or_right}
use Rattle.model.proofs.Lists.{nth-is_in, nth-every}
use Rattle.model.proofs.Words.{is_record}
use Rattle.model.proofs.Frame.{matches-kept, messages-count, sents-after, records-count, records-last}
use Rattle.model.proofs.Grows.{Grows}
use Rattle.model.proofs.Passage.{grows, step-passage}
use Rattle.model.proofs.Local.{Full}
use Rattle.model.proofs.Notes.{notes-after}
use Rattle.model.proofs.Matches.{Unmatched}
use Rattle.model.proofs.Owners.{Owning, keeps_own, new_own}
use Rattle.model.proofs.Obligation.{unmatched-before}
use Rattle.model.proofs.Invariant.{Inv, StepOwes, step_call, CallOwes}
use Rattle.model.proofs.PoolLaws.{same_z-refl, one-distinct, in-snoc, in_without, without_in, without-distinct}
use Rattle.model.proofs.PoolLaws.{snoc-distinct}
use Rattle.model.proofs.Cents.{cents-worth, cents_in, cents-same, some_out, cents-in-snoc, added-snoc, cents-snoc}
use Rattle.model.proofs.PoolMeets.{PoolOk, count, sent_of, as_sent, full_meets}
use Rattle.model.proofs.Adds as A

-- matches after a step
matches-still : (b : Board) (i : ℕ) (e : Effect) → is_record e.change ≡ false → (apply b i e).matches ≡ b.matches
unfolding apply
matches-still b i e = matches-kept e.change b.matches

matches_more : (b : Board) (i : ℕ) (e : Effect) (x : ℕ) (m : Match) → e.change ≡ records x m
    → (apply b i e).matches ≡ b.matches ++ (m ∷ [])
unfolding apply matches_after
matches_more b i e x m q = ap (λ (c : Change). matches_after c b.matches) q

is-record : (c : Change) → is_record c ≡ true → (n : ℕ) × (m : Match) × (c ≡ records n m)
is-record none e = never e
is-record (turn n τ) e = never e
is-record (records n m) e = (n, m, refl)
is-record (signals n) e = never e

-- a step
module _ (t : Table) (last b : Board) (p : Pool) (ok : PoolOk t last b p) (i : ℕ) (e : Effect)
    (v : Inv t b) (l : i < 32) (f : StepOwes t b i e) where
  g : Grows b (apply b i e)
  g = grows (step-passage b i e (omega (arith, v.senders)) f.lawful)

  own_same : (j : ℕ) → (sender_at (apply b i e) j).own ≡ (sender_at b j).own
  own_same j = go (step_call t b i e l v f) (same? j i)
    where
      go : CallOwes t b (apply b i e) i e.change e.sender → (j ≡ i) ⊎ (j ≢ i)
          → (sender_at (apply b i e) j).own ≡ (sender_at b j).own
      go k (inr z) = (k.passage.others j z).own
      go k (inl z) = subst⁻¹ (λ (x : ℕ). (sender_at (apply b i e) x).own ≡ (sender_at b x).own) z
          (k.passage.own.own ∙ kept (f.owners (notes-after k.passage v.notes f.notes)).owning)
        where
          kept : Owning b (apply b i e) i e.sender → e.sender.own ≡ (sender_at b i).own
          kept (keeps_own o n) = o
          kept (new_own x y o n) = absurd (omega (arith, n, messages-count b i e))

  still-in : (n : ℕ) → n < length (apply b i e).messages → n < length b.messages
  still-in n h = omega (arith, messages-count b i e)

  inside-before : (n : ℕ) → n < length (apply b i e).messages → Unmatched (apply b i e) n → is_in n p.inside ≡ true
  inside-before n h u = ok.is_inside n (still-in n h) (unmatched-before b (apply b i e) g n u)

  pub pool-still : is_record e.change ≡ false → PoolOk t last (apply b i e) p
  pool-still q = record {
    sents = ok.sents ∙ sym (sents-after b i e);
    own_count = ok.own_count;
    owns = λ j. own_same j ∙ ok.owns j;
    inside_is = λ n z. let r = ok.inside_is n z in (
      omega (arith, r.0, messages-count b i e),
      subst⁻¹ (λ (ms : List Match).
          (k : ℕ) → k < length ms → is_in n (get_or ms k no_match).messages ≡ false) (matches-still b i e q) r.1,
    );
    is_inside = inside-before;
    number = ok.number ∙ ap length (sym (matches-still b i e q));
    good = ok.good;
    once_in = ok.once_in;
    total = subst⁻¹ (λ (ms : List Match).
        cents_added t p.sent ≡ cents_in t (sent_of last) ms +ℤ pool_cents t (sent_of last) p.inside)
        (matches-still b i e q) ok.total;
  }

  -- match m is recorded, which the last board still has
  module _ (x : ℕ) (m : Match) (ec : e.change ≡ records x m) (gl : Grows (apply b i e) last) where
    k : ℕ
    k = length b.matches

    count-now : length (apply b i e).matches ≡ suc (length b.matches)
    count-now = records-count b i e x m ec

    last-is : match_at (apply b i e) (length b.matches) ≡ m
    last-is = records-last b i e x m ec (length b.matches) refl

    read : get_or (match_reads t last) (length b.matches) no_read ≡ read_match t last m
    read =
        get_or-map (read_match t last) last.matches (length b.matches) no_match
        ∙ ap (read_match t last) (gl.matches_same (length b.matches) (omega (arith, count-now)) ∙ last-is)

    full : (h : ℕ) × Full t b h m.chord m.messages
    full = f.recorded.subject x m ec

    fresh : (j : ℕ) → j < length m.messages
        → Unmatched b (get_or m.messages j 0) × (get_or m.messages j 0 < length b.messages)
    fresh j q = let r = f.matches.begins x m ec (get_or m.messages j 0) (nth-is_in m.messages j q) in (r.1, r.2)

    all_in : every (λ n. is_in n p.inside) m.messages ≡ true
    all_in = nth-every _ m.messages 0 (λ j q. let r = fresh j q in ok.is_inside _ r.1 r.0)

    cents-are : cents_of t (sent_of last) m.messages ≡ pool_cents t (sent_at p.sent) m.messages
    cents-are =
        cents-worth t (sent_of last) m.messages
        ∙ cents-same t (sent_of last) (sent_at p.sent) m.messages (λ j q. let r = (fresh j q).1 in
        (gl.kept _ (omega (arith, r, messages-count b i e))).sent ∙ (g.kept _ r).sent ∙ as_sent t last b p ok _)

    in-reads : length b.matches < length (match_reads t last)
    in-reads = omega (arith, count-now, gl.matches_more, length-map last.matches (read_match t last))

    is-fair : fair t (match_reads t last) p (length b.matches) (read_match t last m) ≡ true
    unfolding fair
    is-fair =
        and (eq-eqb _ _ (sym ok.number))
        (and (lt-ltb (length b.matches) (length (match_reads t last)) in-reads)
        (and (lt-ltb _ _ full.1.selection.chord-in)
        (and all_in (and (full_meets t last b p ok full.0 m.chord m.messages full.1)
        (same_z-refl _ _ cents-are)))))

    unmatched-now : (n : ℕ) → Unmatched b n → is_in n m.messages ≡ false → Unmatched (apply b i e) n
    unmatched-now n u q y h = at (same? y (length b.matches))
      where
        at : (y ≡ length b.matches) ⊎ (y ≢ length b.matches) → is_in n (match_at (apply b i e) y).messages ≡ false
        at (inl z) = rw (records-last b i e x m ec y z) q
        at (inr z) = let h' : y < length b.matches = omega (arith, count-now) in rw (g.matches_same y h') (u y h')

    not-in-it : (n : ℕ) → Unmatched (apply b i e) n → is_in n m.messages ≡ false
    not-in-it n u = rw last-is at (u (length b.matches) (omega (arith, count-now)))

    total-now : cents_added t p.sent
        ≡ cents_in t (sent_of last) (apply b i e).matches
        +ℤ pool_cents t (sent_of last) (without m.messages p.inside)
    total-now =
        ok.total
        ∙ ap (λ (z : ℤ). cents_in t (sent_of last) b.matches +ℤ z) (some_out t (sent_of last) m.messages p.inside
        (one-distinct m.messages full.1.selection.one) ok.once_in all_in)
        ∙ sym (+ℤ_assoc (cents_in t (sent_of last) b.matches) _ _)
        ∙ ap (λ (z : ℤ). z +ℤ pool_cents t (sent_of last) (without m.messages p.inside))
        (sym (ap (cents_in t (sent_of last)) (matches_more b i e x m ec) ∙ cents-in-snoc t (sent_of last) b.matches m))

    pub pool-matched : PoolOk t last (apply b i e) (leaves t (match_reads t last) p (length b.matches) true)
    pool-matched = record {
      sents = ok.sents ∙ sym (sents-after b i e);
      own_count = ok.own_count;
      owns = λ j. own_same j ∙ ok.owns j;
      inside_is = λ n q. let z = in_without n _ p.inside q in let r = ok.inside_is n z.0 in (
        omega (arith, r.0, messages-count b i e),
        unmatched-now n r.1 (sym (ap (λ (y : MatchRead). is_in n y.messages) read) ∙ z.1),
      );
      is_inside =
          λ n h u. without_in n _ p.inside (inside-before n h u)
          (ap (λ (y : MatchRead). is_in n y.messages) read ∙ not-in-it n u);
      number = ap suc ok.number ∙ sym count-now;
      good = and ok.good (ap (fair t (match_reads t last) p (length b.matches)) read ∙ is-fair);
      once_in = without-distinct _ p.inside ok.once_in;
      total = subst⁻¹ (λ (y : MatchRead). cents_added t p.sent
          ≡ cents_in t (sent_of last) (apply b i e).matches
          +ℤ pool_cents t (sent_of last) (without y.messages p.inside)) read total-now;
    }

  pub step-pool : Grows (apply b i e) last → eqb (word_of e.said) 6 ≡ is_record e.change
      → PoolOk t last (apply b i e) (leaves t (match_reads t last) p (value_of e.said) (eqb (word_of e.said) 6))
  step-pool gl q =
      subst⁻¹ (λ (u : Bool). PoolOk t last (apply b i e) (leaves t (match_reads t last) p (value_of e.said) u)) q
      (go (is_record e.change) refl)
    where
      go : (u : Bool) → is_record e.change ≡ u
          → PoolOk t last (apply b i e) (leaves t (match_reads t last) p (value_of e.said) u)
      go false z = pool-still z
      go true z =
          let r = is-record e.change z in
          subst⁻¹ (λ (y : ℕ). PoolOk t last (apply b i e) (leaves t (match_reads t last) p y true))
          (f.recorded.number r.0 r.1 r.2) (pool-matched r.0 r.1 r.2 gl)

-- an accepted add
module _ (t : Table) (last b : Board) (p : Pool) (ok : PoolOk t last b p) (i : ℕ) (x : Sent) (v : Inv t b) (l : i < 32)
    (gl : Grows (added t b i x) last) where
  n : ℕ
  n = length b.messages

  abbrev b' : Board
  b' = added t b i x

  sents-now : p.sent ++ (x ∷ []) ≡ map (λ y. y.sent) b'.messages
  unfolding added
  sents-now =
      ap (λ (ys : List Sent). ys ++ (x ∷ [])) ok.sents
      ∙ sym (map-append (λ y. y.sent) b.messages (new_message x ∷ []))

  own-now : (j : ℕ) → (sender_at b' j).own ≡ get_or (set p.own i (suc (length b.messages))) j 0
  own-now j = go (same? j i)
    where
      go : (j ≡ i) ⊎ (j ≢ i) → (sender_at b' j).own ≡ get_or (set p.own i (suc (length b.messages))) j 0
      go (inl e) =
          rw (
            e,
            A.sender-now t b i x (omega (arith, v.senders)),
            get_or-set_same p.own i (suc (length b.messages)) 0 (omega (arith, ok.own_count)),
          )
      go (inr e) =
          ap (λ (d : Sender). d.own) (A.sender-old t b i x j e)
          ∙ ok.owns j
          ∙ sym (get_or-set_other p.own i j _ 0 e)

  unmatched-same : (m : ℕ) → Unmatched b m → Unmatched b' m
  unmatched-same m u =
      subst⁻¹ (λ (ms : List Match). (k : ℕ) → k < length ms → is_in m (get_or ms k no_match).messages ≡ false)
      (A.matches-now t b i x) u

  new-unmatched : Unmatched b (length b.messages)
  new-unmatched k h = go (is_in (length b.messages) (match_at b k).messages) refl
    where
      go : (u : Bool) → is_in (length b.messages) (match_at b k).messages ≡ u
          → is_in (length b.messages) (match_at b k).messages ≡ false
      go false e = e
      go true e = absurd (omega (arith, v.matches.on_board (length b.messages) k h e))

  not_yet : (u : Bool) → is_in (length b.messages) p.inside ≡ u → is_in (length b.messages) p.inside ≡ false
  not_yet false e = e
  not_yet true e = absurd (omega (arith, (ok.inside_is (length b.messages) e).0))

  total-new : cents_added t (p.sent ++ (x ∷ []))
      ≡ cents_in t (sent_of last) b'.matches +ℤ pool_cents t (sent_of last) (p.inside ++ (length b.messages ∷ []))
  total-new =
      added-snoc t p.sent x
      ∙ ap (λ (z : ℤ). z +ℤ worth t x) ok.total
      ∙ +ℤ_assoc (cents_in t (sent_of last) b.matches) _ _
      ∙ ap (λ (z : ℤ). cents_in t (sent_of last) b.matches +ℤ z)
      (ap (λ (y : Sent). pool_cents t (sent_of last) p.inside +ℤ worth t y) (sym is_x)
      ∙ sym (cents-snoc t (sent_of last) p.inside (length b.messages)))
      ∙ ap (λ (ms : List Match).
      cents_in t (sent_of last) ms +ℤ pool_cents t (sent_of last) (p.inside ++ (length b.messages ∷ [])))
      (sym (A.matches-now t b i x))
    where
      is_x : sent_of last (length b.messages) ≡ x
      is_x =
          (gl.kept _ (omega (arith, A.messages-now t b i x))).sent
          ∙ ap (λ (y : Message). y.sent) (A.new-message t b i x)

  pub pool-entered : PoolOk t last b' (enters i x p (length b.messages) true)
  pool-entered = record {
    sents = sents-now;
    own_count = length-set p.own i _ ∙ ok.own_count;
    owns = own-now;
    inside_is = λ m q. at m (either {t = is_in m p.inside} (sym (in-snoc m (length b.messages) p.inside) ∙ q));
    is_inside = λ m h u. in-snoc m (length b.messages) p.inside ∙ here m h u (same? m (length b.messages));
    number = ok.number ∙ ap length (sym (A.matches-now t b i x));
    good = and ok.good (eq-eqb _ _ (sym (count t last b p ok)));
    once_in = snoc-distinct p.inside (length b.messages) ok.once_in (not_yet _ refl);
    total = total-new;
  }
    where
      at : (m : ℕ) → (is_in m p.inside ≡ true) ⊎ (eqb m (length b.messages) ≡ true)
          → (m < length b'.messages) × Unmatched b' m
      at m (inl q) = let r = ok.inside_is m q in (omega (arith, r.0, A.messages-now t b i x), unmatched-same m r.1)
      at m (inr q) = rw (eqb-true m (length b.messages) q)
          (omega (arith, A.messages-now t b i x), unmatched-same (length b.messages) new-unmatched)

      here : (m : ℕ) → m < length b'.messages → Unmatched b' m
          → (m ≡ length b.messages) ⊎ (m ≢ length b.messages)
          → (is_in m p.inside || eqb m (length b.messages)) ≡ true
      here m h u (inl e) = or_right (is_in m p.inside) (eq-eqb m (length b.messages) e)
      here m h u (inr e) = rw (ok.is_inside m (omega (arith, A.messages-now t b i x))
          (unmatched-before b b' (A.added-grows t b i x (omega (arith, v.senders))) m u))
