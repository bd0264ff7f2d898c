-- Consuming keeps the invariant: the message notes its match, and the sender remembers a match of its own message.
-- After the last one it tells the other synchronous messages' senders, if there are any, or ends its job.
use mathlib.Core.Path.{refl, ap, ◌≡◌, subst, subst⁻¹, sym, ◌∙◌}
use mathlib.Core.Logic.{◌⊎◌, ◌≢◌, inl, inr}
use mathlib.Core.Bool.{true, Bool, false}
use mathlib.Core.List.{List, ◌∷◌, []}
use Prim.Native.Nat.{ℕ, ◌-◌, ◌<◌, suc, ◌≤◌, zero}
use borrow.Author.Tests.{eq-eqb, eqb-false}
use lib.Dec.{eqb}
use lib.ListN.{get_or, length}
use native.Mathlib.Omega.{arith}
use Rattle.model.specs.Basics.{is_in}
use Rattle.model.specs.Tables.{Table, is_sync}
use Rattle.model.specs.Boards.{Board, Job, consume, Sender, message_at, consumed, sender_at, match_at}
use Rattle.model.specs.Boards.{State, Phase, working, tell, channel_of, idle, idle_sender}
use Rattle.model.specs.Effects.{consumes, Effect, Consumed, turn, apply}
use Rattle.model.specs.Jobs.{in_job, in_phase, job_end}
use Rattle.model.specs.Steps.{with_matched, to_tell, consumed_to, consumed_end, consume_step}
use Rattle.model.specs.Holdings.{Holds, HoldsAt}
use Rattle.model.proofs.Tests.{same?, tests, never}
use Rattle.model.proofs.Lists.{nth-is_in, is_in-nth}
use Rattle.model.proofs.Words.{is_record}
use Rattle.model.proofs.Frame.{messages-at}
use Rattle.model.proofs.Grows.{Turns, Grows}
use Rattle.model.proofs.Phases.{consume_at}
use Rattle.model.proofs.Local.{AtConsume, JobAt, job-on, SenderOk, sender-on, StateOk, PlacedAt, with-state}
use Rattle.model.proofs.Local.{ends-ok}
use Rattle.model.proofs.Holding.{HoldingKept}
use Rattle.model.proofs.Places.{drop-place, last-drop, ends-empty}
use Rattle.model.proofs.Notes.{NotesKept}
use Rattle.model.proofs.Matches.{WillConsume, WillConsumeIn}
use Rattle.model.proofs.Covers.{go_on, covered, end-it}
use Rattle.model.proofs.Answering.{WillTell, WillTellAt, in-tell}
use Rattle.model.proofs.Invariant.{StepOwes, no-record}
use Rattle.model.proofs.AtWork.{AtWork, drops, grown, from-work, job-owners, no-signal, not-waking, job-answer}
use Rattle.model.proofs.AtWork.{end-owners, end-answer}

module _ {t : Table} {b : Board} {i : ℕ} {w : Job} {k m : ℕ} (c : AtWork t b i w (consume k m)) where
  p : AtConsume t b w.subject w.chord w.chosen k m
  p = c.job.placed

  abbrev n : ℕ
  n = get_or w.chosen k 0

  in-chosen : k < length w.chosen
  in-chosen = omega (arith, p.at, p.full.all)

  takes : Turns b n (consumes m)
  takes = drops c (consumes m) refl k (omega arith, in-chosen) (p.full.selection.inside k in-chosen)

  -- the effect, whatever the sender is after it
  module _ (x : Sender) where
    abbrev s : Effect
    s = record { said = Consumed n; change = turn n (consumes m); sender = x }

    abbrev b' : Board
    b' = apply b i s

    g : Grows b b'
    g = grown c s takes

    now-is : ((message_at b' n).status ≡ consumed) × ((message_at b' n).match ≡ m)
    now-is = rw (messages-at b i s n takes.on_board, eq-eqb n n refl) (refl, refl)

    up : JobAt t b' (sender_at b i).own (sender_at b i).waker w (consume k m)
    up = job-on t b b' g (sender_at b i).own (sender_at b i).waker w (consume k m) c.job

    done-now : (j : ℕ) → j < suc k
        → ((message_at b' (get_or w.chosen j 0)).status ≡ consumed) × ((message_at b' (get_or w.chosen j 0)).match ≡ m)
    done-now j h = go (same? j k)
      where
        go : (j ≡ k) ⊎ (j ≢ k)
            → ((message_at b' (get_or w.chosen j 0)).status ≡ consumed)
            × ((message_at b' (get_or w.chosen j 0)).match ≡ m)
        go (inl e) = rw e now-is
        go (inr e) = up.placed.done j (omega arith)

    noted : NotesKept t b' (turn n (consumes m))
    noted = go m refl p.some
      where
        go : (y : ℕ) → m ≡ y → 1 ≤ m
            → (y : ℕ) × (m ≡ suc y) × (y < length b'.matches) × (is_in n (match_at b' y).messages ≡ true)
        go zero e l = absurd (omega arith)
        go (suc y) e l = (
          y,
          e,
          omega (arith, p.match-in, g.matches_more),
          rw (g.matches_same y (omega (arith, p.match-in)), p.match y e) (nth-is_in w.chosen k in-chosen),
        )

    -- the sender with a match of its own message remembered, if this is it
    module _ (u : Bool) (ue : eqb (suc n) (sender_at b i).own ≡ u) where
      abbrev d : Sender
      d = with_matched u (sender_at b i) m

      same-own : (u : Bool) → (with_matched u (sender_at b i) m).own ≡ (sender_at b i).own
      same-own true = refl
      same-own false = refl

      same-waker : (u : Bool) → (with_matched u (sender_at b i) m).waker ≡ (sender_at b i).waker
      same-waker true = refl
      same-waker false = refl

      same-signal : (u : Bool) → (with_matched u (sender_at b i) m).signalled ≡ (sender_at b i).signalled
      same-signal true = refl
      same-signal false = refl

      match_kept : (u : Bool) → 1 ≤ (sender_at b i).matched → 1 ≤ (with_matched u (sender_at b i) m).matched
      match_kept true q = p.some
      match_kept false q = q

      own-matched : (u : Bool) → eqb (suc n) (sender_at b i).own ≡ u → n ≡ (sender_at b i).own - 1
          → 1 ≤ (with_matched u (sender_at b i) m).matched
      own-matched true z q = p.some
      own-matched false z q = absurd (eqb-false (suc n) (sender_at b i).own z (omega (arith, c.own_some, q)))

      d-ok : SenderOk t b' d
      d-ok = go u ue
        where
          q : SenderOk t b' (sender_at b i)
          q = sender-on t b b' g (sender_at b i) (c.inv.locals i)

          go : (u : Bool) → eqb (suc n) (sender_at b i).own ≡ u → SenderOk t b' (with_matched u (sender_at b i) m)
          go false e = q
          go true e =
              let o : (sender_at b i).own - 1 ≡ n = omega tests in
              record {
                own_in = q.own_in;
                waker_is = q.waker_is;
                reply_is = q.reply_is;
                matched_is = λ y z. (
                  c.own_some,
                  rw o now-is.0,
                  omega (arith, up.placed.match-in, z),
                  rw (o, up.placed.match y z) (nth-is_in w.chosen k in-chosen),
                );
                state_is =
                    subst⁻¹ (λ (y : State). StateOk t b' (sender_at b i).own (sender_at b i).waker m y) c.state (
                      c.own_some,
                      subst⁻¹ (λ (y : Phase). JobAt t b' (sender_at b i).own (sender_at b i).waker w y)
                          c.phase up,
                    );
              }

      -- the job goes on in another phase
      job-in : (r : Phase) → x ≡ in_job d (in_phase w r)
          → PlacedAt t b' w.subject w.chord w.chosen w.retry r → SenderOk t b' x
      job-in r e y = subst⁻¹ (SenderOk t b') e (with-state t b' d (working (in_phase w r)) d.signalled d-ok (
        rw (same-own u) c.own_some,
        record {
          subject_in = up.subject_in;
          subject_is = rw (same-own u, same-waker u) c.job.subject_is;
          placed = y;
        },
      ))

      -- what this sender has yet to consume: it is consumed now, or still to be
      goes_on : (r : Sender)
          → ((j : ℕ) → suc k ≤ j → j < length w.chosen → WillConsume r.state (get_or w.chosen j 0))
          → (y : ℕ) → WillConsume (sender_at b i).state y → (n ≡ y) ⊎ WillConsume r.state y
      goes_on r f y z = at (same? a.place k)
        where
          a : WillConsumeIn w y
          a = subst (λ (q : State). WillConsume q y) c.state z

          at : (a.place ≡ k) ⊎ (a.place ≢ k) → (n ≡ y) ⊎ WillConsume r.state y
          at (inl e) = inl (ap (λ (j : ℕ). get_or w.chosen j 0) (sym e) ∙ a.is)
          at (inr e) = inr (subst (WillConsume r.state) a.is
              (f a.place (omega (arith, a.low, ap consume_at (sym c.phase ∙ a.ph), e)) a.high))

      tells : (y : ℕ) → WillTell t b (sender_at b i).state y → (is_in y w.chosen ≡ true) × (y ≢ w.subject)
      tells y z =
          subst (λ (q : Phase). WillTellAt t b w y q) c.phase
          (subst (λ (q : State). WillTell t b q y) c.state z)

      -- those that it will tell are in the list to tell
      in_list : (y : ℕ) → y < length b.messages → is_sync t (channel_of b y) ≡ true
          → WillTell t b (sender_at b i).state y
          → is_in y (to_tell t b'.messages w.subject w.chosen) ≡ true
      in_list y l wt z =
          let r = tells y z in
          in-tell t b'.messages w.subject y w.chosen r.0 (rw (g.kept y l).channel wt) r.1

      -- the sender goes on with the job in phase r, in which it will consume what is left
      module _ (r : Phase) (e : x ≡ in_job d (in_phase w r))
          (later : (j : ℕ) → suc k ≤ j → j < length w.chosen → WillConsume (working (in_phase w r))
          (get_or w.chosen j 0)) where
        on : (y : ℕ) → WillConsume (sender_at b i).state y → (n ≡ y) ⊎ WillConsume (working (in_phase w r)) y
        on y z = goes_on (in_job d (in_phase w r)) later y z

        job-on-owes : PlacedAt t b' w.subject w.chord w.chosen w.retry r
            → HoldingKept (turn n (consumes m)) (HoldsAt t w.chord w.chosen (consume k m))
            (HoldsAt t w.chord w.chosen r)
            → ((y : ℕ) → y < length b.messages → is_sync t (channel_of b y) ≡ true
            → WillTell t b (sender_at b i).state y
            → WillTell t b' (working (in_phase w r)) y)
            → StepOwes t b i s
        job-on-owes placed holds told =
            let state = ap (λ (q : Sender). q.state) e in
            let own = ap (λ (q : Sender). q.own) e ∙ same-own u in
            let signal = ap (λ (q : Sender). q.signalled) e ∙ same-signal u in
            let matched = ap (λ (q : Sender). q.matched) e in
            record {
              lawful = takes;
              local = job-in r e placed;
              holding =
                  subst⁻¹ (λ (q : Sender).
                  HoldingKept (turn n (consumes m)) (Holds t (sender_at b i).state) (Holds t q.state)) e
                  (from-work c _ _ holds);
              notes = noted;
              matches = record {
                goes_on =
                    λ y z. subst⁻¹ (λ (q : Sender). ((message_at b' y).status ≡ consumed) ⊎ WillConsume q.state y) e
                    (gone y (on y z));
                begins = λ y q z. never (ap is_record z);
              };
              owners = λ y. job-owners c s takes _ state own signal (λ a z. absurd (no-signal c refl a z))
                  (λ a h z. absurd (not-waking s.change refl z));
              obligation =
                  λ q ns y.
                  go_on y w c.state refl _ state own (ap (λ (q : Sender). q.waker) e ∙ same-waker u) refl
                  (λ a z. absurd (covered w q (consume k m) c.phase z));
              answering = record {
                own = λ y o o'. job-answer c s takes _ state own signal y (λ z. omega (arith, matched, match_kept u z))
                    (λ z. mine y o matched (on y z));
                tells_on = λ y l wt z. inl (subst⁻¹ (λ (q : Sender). WillTell t b' q.state y) e (told y l wt z));
                tells_new = λ y q z. never (ap is_record z);
              };
              recorded = no-record t b s refl;
            }
          where
            gone : (y : ℕ) → (n ≡ y) ⊎ WillConsume (working (in_phase w r)) y
                → ((message_at b' y).status ≡ consumed) ⊎ WillConsume (working (in_phase w r)) y
            gone y (inl z) = inl (subst (λ (q : ℕ). (message_at b' q).status ≡ consumed) z now-is.0)
            gone y (inr z) = inr z

            mine : (y : ℕ) → (sender_at b i).own ≡ suc y → x.matched ≡ d.matched
                → (n ≡ y) ⊎ WillConsume (working (in_phase w r)) y
                → (1 ≤ x.matched) ⊎ WillConsume (working (in_phase w r)) y
            mine y o q (inl z) = inl (omega (arith, q, own-matched u ue (omega (arith, o, z))))
            mine y o q (inr z) = inr z

      -- on to the next message
      next : x ≡ in_job d (in_phase w (consume (suc k) m)) → eqb (suc k) (length w.chosen) ≡ false → StepOwes t b i s
      next e z =
          job-on-owes (consume (suc k) m) e
          (λ j lo hi. record { at = suc k; match = m; place = j; ph = refl; low = lo; high = hi; is = refl })
          (record {
            full = up.placed.full;
            at = omega (tests, in-chosen, p.full.all);
            to_match = up.placed.to_match;
            match-in = up.placed.match-in;
            match = up.placed.match;
            some = up.placed.some;
            done = done-now;
          })
          (drop-place t w.chord w.chosen (consume k m) (consume (suc k) m) _ k (_, (refl, refl, refl), refl)
          (omega arith, in-chosen) (λ j r. ((omega (arith, r.0), r.1), λ q. omega (arith, r.0, q)))
          (λ j r ne. (omega (arith, r.0), r.1)) (λ j r q. p.full.selection.one j k r.1 in-chosen q))
          (λ y l wt q. tells y q)

      -- the last message
      module _ (z : eqb (suc k) (length w.chosen) ≡ true) where
        dropped : (A : ℕ → Type 0) → ((y : ℕ) → A y → ⊥)
            → HoldingKept (turn n (consumes m)) (HoldsAt t w.chord w.chosen (consume k m)) A
        dropped A f = last-drop t w.chord w.chosen (consume k m) A _ k (_, (refl, refl, refl), refl)
            (omega arith, in-chosen) (λ j q. omega (tests, q.0, q.1)) f

        -- some are to be told
        tells-next : (y : ℕ) (ys : List ℕ) → to_tell t b'.messages w.subject w.chosen ≡ y ∷ ys
            → x ≡ in_job d (in_phase w (tell 0)) → StepOwes t b i s
        tells-next y ys l e =
            job-on-owes (tell 0) e (λ j lo hi. absurd (omega tests))
            (record {
              full = up.placed.full;
              to_match = up.placed.to_match;
              at = rw l (omega arith);
              done = λ j h. (done-now j (omega (tests, up.placed.full.all))).0;
            })
            (dropped _ (λ a q. q.held))
            (λ a h wt q.
            let r = is_in-nth a (to_tell t b'.messages w.subject w.chosen) (in_list a h wt q) in
            (r.0, omega arith, r.1, r.2))

        -- nobody is to be told
        ends : to_tell t b'.messages w.subject w.chosen ≡ [] → x ≡ job_end t b'.messages d w.subject
            → StepOwes t b i s
        ends l e = record {
          lawful = takes;
          local = local;
          holding = from-work c _ _ (dropped _ (λ y q. ends-empty t b'.messages d w.subject y
              (subst (λ (r : Sender). Holds t r.state y) e q)));
          notes = noted;
          matches = record {
            goes_on = λ y q. inl (subst (λ (r : ℕ). (message_at b' r).status ≡ consumed) (last y q) now-is.0);
            begins = λ y r q. never (ap is_record q);
          };
          owners =
              λ q.
              end-owners c s takes d e (same-own u) (same-signal u) local q (λ y r. absurd (no-signal c refl y r))
              refl;
          obligation = λ q ns v. end-it v w c.state refl d e (same-own u) (same-waker u)
              (λ a y. absurd (covered w q (consume k m) c.phase y));
          answering = record {
            own = λ y o o'. end-answer c s takes d e (same-own u) (same-signal u) y o (match_kept u)
                (λ q. own-matched u ue (omega (arith, o, last y q)));
            tells_on = λ a h wt q. never (ap (is_in a) (sym l) ∙ in_list a h wt q);
            tells_new = λ a v q. never (ap is_record q);
          };
          recorded = no-record t b s refl;
        }
          where
            local : SenderOk t b' x
            local = subst⁻¹ (SenderOk t b') e (ends-ok t b' d w.subject d-ok (rw (same-own u) c.own_some))

            last : (y : ℕ) → WillConsume (sender_at b i).state y → n ≡ y
            last y q = go (goes_on idle_sender (λ j lo hi. absurd (omega tests)) y q)
              where
                go : (n ≡ y) ⊎ WillConsume idle y → n ≡ y
                go (inl r) = r
                go (inr r) = absurd r

  consumed-to : (x d : Sender) (u last : Bool) → eqb (suc n) (sender_at b i).own ≡ u
      → d ≡ with_matched u (sender_at b i) m
      → eqb (suc k) (length w.chosen) ≡ last
      → x ≡ consumed_to t
      (apply b i (record { said = Consumed n; change = turn n (consumes m); sender = x })).messages d w k m
      last
      → StepOwes t b i (record { said = Consumed n; change = turn n (consumes m); sender = x })
  consumed-to x d u false ue dd e ed =
      next x u ue (ed ∙ ap (λ (y : Sender). in_job y (in_phase w (consume (suc k) m))) dd) e
  consumed-to x d u true ue dd e ed = go (to_tell t _ w.subject w.chosen) refl
    where
      go : (ys : List ℕ)
          → to_tell t (apply b i (record { said = Consumed n; change = turn n (consumes m); sender = x })).messages
          w.subject w.chosen ≡ ys
          → StepOwes t b i (record { said = Consumed n; change = turn n (consumes m); sender = x })
      go [] l = ends x u ue e l
          (ed
          ∙ ap (consumed_end t
          (apply b i (record { said = Consumed n; change = turn n (consumes m); sender = x })).messages d w)
          l
          ∙ ap (λ (y : Sender). job_end t
          (apply b i (record { said = Consumed n; change = turn n (consumes m); sender = x })).messages y
          w.subject) dd)
      go (y ∷ ys) l = tells-next x u ue e y ys l
          (ed
          ∙ ap (consumed_end t
          (apply b i (record { said = Consumed n; change = turn n (consumes m); sender = x })).messages d w)
          l
          ∙ ap (λ (r : Sender). in_job r (in_phase w (tell 0))) dd)

  pub consume-owes : StepOwes t b i (consume_step t b (sender_at b i) w k m)
  unfolding consume_step apply
  consume-owes =
      consumed-to _ _ (eqb (suc n) (sender_at b i).own) (eqb (suc k) (length w.chosen)) refl refl refl refl
