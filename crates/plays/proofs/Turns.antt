-- Calls played one after another: what they say and leave is the model's schedule, and what each leaves alone stays.
use Rattle.std.proofs.Common.{◌≡◌, ◌≢◌, ℕ, zero, suc, ◌+◌, ◌*◌, ◌-◌, ◌<◌, ◌≤◌, Bool, true, false, List, [], ◌∷◌, map}
use Rattle.std.proofs.Common.{drop-drop, take-take, refl, sym, ap, subst, ◌∙◌, true≢false, arith}
use Rattle.model.specs.Layout.{table_of}
use Rattle.model.specs.Boards.{Board}
use Rattle.model.specs.Effects.{Said}
use Rattle.model.specs.Pools.{Call, answer_to, after_all, history}
use Rattle.columns.specs.Columns.{list_from}
use Rattle.state.specs.declared.Sender as DD
use Rattle.boards.specs.Calls.{Held}
use Rattle.refusals.specs.Calls.{board_of, refusal_of, SameFrom, SameTo, Beyond, caller_of, row_at, SameRow}
use Rattle.refusals.proofs.CallLaws.{beyond-same, row_same}
use Rattle.plays.specs.Replays.{answer_number, answer_numbers, PlaysInTurn}

-- What two calls leave

pub same-on : {A : Type 0} (n m : ℕ) (xs ys : List A) → n ≤ m → SameFrom n xs ys → SameFrom m xs ys
same-on n m xs ys l e =
    let z : n + (m - n) ≡ m = omega arith in
    rw (← z, ← drop-drop (m - n) n xs, ← drop-drop (m - n) n ys, e)

same_up : {A : Type 0} (n m : ℕ) (xs ys : List A) → n ≤ m → SameTo m xs ys → SameTo n xs ys
same_up n m xs ys l e = rw (← take-take n m xs l, ← take-take n m ys l, e)

beyond-then : (h g i : Held) → Beyond h g → Beyond g i → Beyond h i
beyond-then h g i p q =
    let n = i.board.messages in
    let l = q.messages_grow in
    let m = q.matches_grow in
    record {
      messages_grow = omega (arith, p.messages_grow, l);
      matches_grow = omega (arith, p.matches_grow, m);
      channels = q.channels ∙ same-on _ n _ _ l p.channels;
      properties = q.properties ∙ same-on _ n _ _ l p.properties;
      days = q.days ∙ same-on _ n _ _ l p.days;
      cents = q.cents ∙ same-on _ n _ _ l p.cents;
      statuses = q.statuses ∙ same-on _ n _ _ l p.statuses;
      matched = q.matched ∙ same-on _ n _ _ l p.matched;
      wakers = q.wakers ∙ same-on _ n _ _ l p.wakers;
      units = q.units ∙ same-on _ n _ _ l p.units;
      chords = q.chords ∙ same-on _ i.board.matches _ _ m p.chords;
      messages = q.messages
          ∙ same-on (8 * g.board.matches) (8 * i.board.matches) _ _ (omega (arith, m)) p.messages;
      recorded =
          same_up (8 * h.board.matches) (8 * g.board.matches) _ _ (omega (arith, p.matches_grow)) q.recorded
          ∙ p.recorded;
      stays_closed = λ e. q.stays_closed (p.stays_closed e);
      close_day = λ e. q.close_day e ∙ p.close_day (unclosed e);
    }
  where
    unclosed : i.board.closed ≡ false → g.board.closed ≡ false
    unclosed e = go g.board.closed refl
      where
        go : (u : Bool) → g.board.closed ≡ u → u ≡ false
        go false f = refl
        go true f = absurd (true≢false (sym (q.stays_closed f) ∙ e))

row-then : (d e f : DD.Sender) → SameRow d e → SameRow e f → SameRow d f
row-then d e f p q = record {
  state = p.state ∙ q.state;
  own = p.own ∙ q.own;
  waker = p.waker ∙ q.waker;
  reply = p.reply ∙ q.reply;
  matched = p.matched ∙ q.matched;
  job = p.job ∙ q.job;
}

-- Calls in turn

module _ (s : List ℕ) where
  pub turns-leave : (h : Held) (ks : List Call) (ws : List Said) (g : Held) → refusal_of s h ≡ 0
      → PlaysInTurn s h ks ws g → (board_of s g ≡ after_all (table_of s) (board_of s h) ks)
      × (map answer_number ws ≡ answer_numbers (history (table_of s) (board_of s h) ks)) × (refusal_of s g ≡ 0)
  turns-leave h [] ws g e (p, q) = (ap (board_of s) q, ap (map answer_number) p, ap (refusal_of s) q ∙ e)
  turns-leave h (k ∷ ks) [] g e p = absurd p
  turns-leave h (k ∷ ks) (w ∷ ws) g e (f, p, rest) =
      let u : w ≡ (answer_to (table_of s) (board_of s h) k).said = rw e at p.says in
      let v = p.leaves e in
      let r = turns-leave f ks ws g (p.accepted e) rest in
      (r.0 ∙ ap (λ (b : Board). after_all (table_of s) b ks) v, rw (r.1, u, v), r.2)

  pub turns-beyond : (h : Held) (ks : List Call) (ws : List Said) (g : Held) → PlaysInTurn s h ks ws g → Beyond h g
  turns-beyond h [] ws g (p, q) = subst (Beyond h) (sym q) (beyond-same s h)
  turns-beyond h (k ∷ ks) [] g p = absurd p
  turns-beyond h (k ∷ ks) (w ∷ ws) g (f, p, rest) = beyond-then h f g p.beyond (turns-beyond f ks ws g rest)

  -- sender j makes none of the n calls from number i on
  pub turns-others : (j : ℕ) (k : ℕ → Call) (i n : ℕ) (h : Held) (ws : List Said) (g : Held)
      → ((m : ℕ) → m < i + n → j ≢ caller_of (k m)) → PlaysInTurn s h (list_from k i n) ws g
      → SameRow (row_at h j) (row_at g j)
  turns-others j k i zero h ws g silent (p, q) =
      subst (λ (f : Held). SameRow (row_at h j) (row_at f j)) (sym q) (row_same (row_at h j))
  turns-others j k i (suc n) h [] g silent p = absurd p
  turns-others j k i (suc n) h (w ∷ ws) g silent (f, p, rest) =
      row-then (row_at h j) (row_at f j) (row_at g j) (p.others j (silent i (omega arith)))
      (turns-others j k (suc i) n f ws g (λ m l. silent m (omega (arith, l))) rest)
