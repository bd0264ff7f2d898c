-- The calls played so far, and those left, come to all of them.
use Rattle.std.proofs.Common.{◌≡◌, ◌≢◌, ℕ, ◌+◌, ◌-◌, ◌<◌, ◌≤◌, true, false, List, [], ◌∷◌, ◌++◌, map}
use Rattle.std.proofs.Common.{length, drop, take, set, refl, sym, ap, ◌∙◌, arith, tests, append_assoc}
use Rattle.std.proofs.Common.{append-nil, length-set, take-append-drop, drop-set-lt}
use Rattle.std.proofs.lemmas.List.{map-append, take_more_set}
use Rattle.std.proofs.lemmas.Bool.{le-leb, lt-leb}
use Rattle.model.specs.Effects.{Said}
use Rattle.model.specs.Pools.{Call}
use Rattle.model.proofs.Tests.{first-none, refused-first}
use Rattle.columns.specs.Columns.{list_from}
use Rattle.columns.proofs.ListFrom.{left-from, none_from}
use Rattle.boards.specs.Calls.{Held}
use Rattle.refusals.specs.Calls.{refusal_of, row_at, Plays}
use Rattle.refusals.proofs.CallLaws.{beyond-same, row_same}
use Rattle.plays.specs.Replays.{CallRows, calls_len, call_at, calls_of, rows_fit}
use Rattle.plays.specs.Replays.{answer_number}
use Rattle.plays.specs.Replays.{refusal_after, replay_number, Fit, PlaysInTurn, PlaysAll, Replays}
use Rattle.plays.proofs.Turns.{same-on, turns-leave, turns-beyond, turns-others}

-- The calls left

-- those from number k on
abbrev left : CallRows → ℕ → List Call
left c k = list_from (call_at c) k (calls_len c - k)

-- k calls are played: g is held, and the answers stand at their places
pub record Played (s : List ℕ) (h : Held) (c : CallRows) (before : List ℕ) (k : ℕ) (g : Held)
    (answers : List ℕ) : Type 0 where
  pub some : k ≤ calls_len c
  pub len : length answers ≡ length before
  pub begun : refusal_of s h ≡ 0
  pub said : List Said
  -- with those left they are all
  pub turns : (vs : List Said) (i : Held) → PlaysInTurn s g (left c k) vs i
      → PlaysInTurn s h (calls_of c) (said ++ vs) i
  pub says : take k answers ≡ map answer_number said
  pub others : drop k answers ≡ drop k before

module _ (s : List ℕ) (h : Held) (c : CallRows) (before : List ℕ) where
  module _ (k : ℕ) (g : Held) (answers : List ℕ) (p : Played s h c before k g answers) where
    -- one call more
    pub played-next : (j : Call) (w : Said) (g' : Held) (x : ℕ) → k < calls_len c
        → calls_len c ≤ length before → j ≡ call_at c k → Plays s g j w g' → x ≡ answer_number w
        → Played s h c before (k + 1) g' (set answers k x)
    played-next j w g' x l room same r e =
        let here : k < length answers = omega (arith, p.len) in
        record {
          some = omega arith;
          len = length-set answers k x ∙ p.len;
          begun = p.begun;
          said = p.said ++ (w ∷ []);
          turns = λ vs i rest.
              rw append_assoc
              (p.turns (w ∷ vs) i (rw (left-from (call_at c) k (calls_len c) l, ← same) (g', r, rest)));
          says = rw (take_more_set answers k x here, p.says, e) (sym (map-append answer_number p.said (w ∷ [])));
          others =
              drop-set-lt (k + 1) answers k x (omega arith) ∙ same-on k (k + 1) answers before (omega arith) p.others;
        }

    -- all calls are played
    pub played-all : calls_len c ≤ k → PlaysAll s h c before answers g
    played-all l =
        let n : k ≡ calls_len c = omega (arith, p.some) in
        let t : PlaysInTurn s h (calls_of c) p.said g =
        rw append-nil at (p.turns [] g (rw (none_from (call_at c) k (calls_len c) l) (refl, refl))) in
        let m = turns-leave s h (calls_of c) p.said g p.begun t in
        let after : answers ≡ map answer_number p.said ++ drop (calls_len c) before =
        sym (take-append-drop k answers) ∙ rw (p.says, p.others, n) in
        record {
          said = p.said;
          turns = t;
          answers = after;
          leaves = m.0;
          says = after ∙ ap (λ ns. ns ++ drop (calls_len c) before) m.1;
          accepted = m.2;
          beyond = turns-beyond s h (calls_of c) p.said g t;
          others = λ i silent.
              turns-others s i (call_at c) 0 (calls_len c) h p.said g (λ m lt. silent m (omega (arith, lt))) t;
        }

-- The ways out of a replay

-- x is the board's refusal
module _ (x : ℕ) (c : CallRows) (n : ℕ) where
  pub refused-board : (f : ℕ) → f ≢ 0 → f ≡ x → f ≡ refusal_after x c n
  refused-board f z e = e ∙ refused-first x _ (λ y. z (e ∙ y))

  module _ (e : x ≡ 0) where
    pub refused-rows : rows_fit c ≡ false → 30 ≡ refusal_after x c n
    refused-rows u = rw (e, u)

    module _ (u : rows_fit c ≡ true) where
      pub refused-room : n < calls_len c → 31 ≡ refusal_after x c n
      refused-room l = rw (e, u, lt-leb (calls_len c) n l)

      pub refused_none : calls_len c ≤ n → 0 ≡ refusal_after x c n
      refused_none l = rw (e, u, le-leb (calls_len c) n l)

  -- what is not refused may be played
  pub may-play : refusal_after x c n ≡ 0 → (x ≡ 0) × Fit c n
  unfolding rows_fit
  may-play e =
      let fit : Fit c n = record {
        calls-len = grind (arith, tests);
        numbers_len = grind (arith, tests);
        answers_all = grind (arith, tests);
      } in
      ((first-none x _ e).0, fit)

module _ (s : List ℕ) (h : Held) (c : CallRows) (before : List ℕ) (f : ℕ)
    (e : f ≡ replay_number s h c (length before)) where
  pub replays-refused : f ≢ 0 → Replays s h c before before f h
  replays-refused n = record {
    number = e;
    keeps = λ _. (refl, refl);
    plays = λ z. absurd (n z);
    beyond = beyond-same s h;
    others = λ j _. row_same (row_at h j);
  }

  pub replays-all : f ≡ 0 → (after : List ℕ) (g : Held) → PlaysAll s h c before after g
      → Replays s h c before after 0 g
  replays-all z after g p = record {
    number = sym z ∙ e;
    keeps = λ n. absurd (n refl);
    plays = λ _. p;
    beyond = p.beyond;
    others = p.others;
  }
