-- What a chunk of the input, its end and a part of the report add to what was printed.
use mathlib.Core.Path.{◌≡◌, sym, ap, subst, ◌∙◌}
use mathlib.Core.Bool.{Bool, true, false, ◌||◌}
use mathlib.Core.List.{List, [], ◌++◌, append-nil, append_assoc}
use Prim.Native.Nat.{ℕ, ◌<◌, ◌≤◌}
use native.Mathlib.Omega.{arith}
use borrow.Author.Tests.{ne_eqb}
use lib.Dec.{eqb}
use lib.ListN.{length, get_or, take}
use Rattle.model.specs.Layout.{table_of}
use Rattle.model.specs.Sessions.{fed, input_ends, session_of}
use Rattle.model.proofs.Tests.{never}
use Rattle.columns.specs.Columns.{Passed}
use Rattle.boards.specs.Layout.{Lists, statuses_in}
use Rattle.refusals.specs.Held.{held_of, Accepted}
use Rattle.refusals.specs.Calls.{board_of}
use Rattle.sessions.specs.declared.Carry as DC
use Rattle.sessions.specs.Serves.{session, ServesChunk, ServesEnd}
use Rattle.reports.specs.Parts.{lines_on, line_count, all_lines, between}
use Rattle.reports.proofs.PartLaws.{parts-on}
use Rattle.printouts.specs.declared.Stage as DS
use Rattle.printouts.specs.Stages.{read_of, Serving, Reporting, SoFarBy, SoFar, Stands, Advances, taken}
use Rattle.printouts.proofs.SessionLaws.{after, fed-on, ends_on}

module _ (s before text : List ℕ) {l l' : Lists} {c : DC.Carry} {at : ℕ} {out : List ℕ} (p : Serving s before text c l)
  where
    chunk-on : {c' : DC.Carry} (input : List ℕ) → ServesChunk s l c input l' c' at out
        → Serving s (before ++ input) (text ++ take at out) c' l'
    chunk-on input e =
        let x = read_of s before in
        let q = e.says x.partial p.keeps in
        let step : read_of s (before ++ input)
        ≡ after x.text (fed (table_of s) (session [] (board_of s (held_of l)) x.partial) input)
        = rw p.board (fed-on (table_of s) _ before input) in
        record {
          answers = rw (step, p.answers, q.0.text);
          board = rw step q.0.board;
          keeps = rw step q.1;
        }

    end_on : ServesEnd s l c l' at out → Reporting s (before ++ []) (text ++ take at out) 0 l'
    end_on e =
        let x = read_of s before in
        let q = e.says x.partial p.keeps in
        let step : session_of (table_of s) before
        ≡ after x.text (input_ends (table_of s) (session [] (board_of s (held_of l)) x.partial) x.partial)
        = rw p.board (ends_on (table_of s) x x.partial) in
        rw (append-nil before)
        (record {
          lines = rw (step, p.answers, q.text) (sym (append-nil _));
          board = rw step q.board;
        })

-- the next part of the report
part-on : (s before text : List ℕ) {l : Lists} {n m : ℕ} (at : ℕ) (out : List ℕ) → n < m
    → take at out ≡ all_lines (between n m (lines_on s l))
    → Reporting s before text n l → Reporting s (before ++ []) (text ++ take at out) m l
part-on s before text {l} {n} {m} at out h e p =
    let ws = lines_on s l in
    rw (append-nil before)
    (record {
      lines = rw (e, p.lines)
          (append_assoc (session_of (table_of s) before).text (all_lines (take n ws)) _
          ∙ ap (λ (x : List ℕ). (session_of (table_of s) before).text ++ x) (parts-on ws n m (omega (arith, h))));
      board = p.board;
    })

abbrev stage : DC.Carry → ℕ → ℕ → Bool → DS.Stage
stage carry start next ended = record { carry = carry; start = start; next = next; ended = ended }

serving : (s before text : List ℕ) (l : Lists) (g : DS.Stage) → g.ended ≡ false → SoFar s before text g l
    → Serving s before text g.carry l
serving s before text l g e p = subst (λ (b : Bool). SoFarBy b s before text g l) e p

module _ {s : List ℕ} {l : Lists} {g : DS.Stage} (w : Stands s l g) where
  -- a turn, from what it adds
  turn : {l' : Lists} {g' : DS.Stage} {at : ℕ} {out input : List ℕ}
      → ((before text : List ℕ) → SoFar s before text g l
      → SoFar s (before ++ taken g.ended input) (text ++ take at out) g' l')
      → g'.ended ≡ (g.ended || eqb (length input) 0) → (g.ended ≡ true → g.next < g'.next) → Accepted s l'
      → Passed g'.start (get_or l'.board 0 0) (statuses_in l'.bytes) → g'.carry.len ≤ 81
      → g'.next ≤ line_count l'.board → at ≤ length out → Advances s l g input l' g' at out
  turn {l'} {g'} {at} {out} {input} p ends further a passed k n room = record {
    prints = p;
    ends = ends;
    further = further;
    stands = record {
      accepted = a;
      passed = passed;
      kept = k;
      listed = n;
      input = w.input ++ taken g.ended input;
      text = w.text ++ take at out;
      reached = p w.input w.text w.reached;
    };
    room = room;
  }

  module _ {l' : Lists} {at : ℕ} {out : List ℕ} (e : g.ended ≡ false) {start : ℕ}
      (passed : Passed start (get_or l'.board 0 0) (statuses_in l'.bytes)) where
    pub chunk-advances : {input : List ℕ} {c' : DC.Carry} → 0 < length input
        → ServesChunk s l g.carry input l' c' at out → Advances s l g input l' (stage c' start 0 g.ended) at out
    chunk-advances {input} {c'} h q =
        turn (λ before text p. rw e (chunk-on s before text (serving s before text l g e p) input q))
        (rw e (sym (ne_eqb (length input) 0 (λ z. omega (arith, z, h))))) (λ y. never (sym e ∙ y)) q.accepted passed
        q.kept (omega arith) q.room

    pub end-advances : 104 ≤ length out → ServesEnd s l g.carry l' at out
        → Advances s l g [] l' (stage g.carry start 0 true) at out
    end-advances h q =
        turn (λ before text p. rw e (end_on s before text (serving s before text l g e p) q)) (rw e)
        (λ y. never (sym e ∙ y)) q.accepted passed w.kept (omega arith) (omega (arith, h, q.room))

  -- the report goes on
  pub part-advances : {m at : ℕ} {out : List ℕ} → g.ended ≡ true → g.next < m → m ≤ line_count l.board
      → at ≤ length out → take at out ≡ all_lines (between g.next m (lines_on s l))
      → (input : List ℕ) → Advances s l g input l (stage g.carry g.start m g.ended) at out
  part-advances {m} {at} {out} e h n room q input =
      turn (λ before text z. rw e (part-on s before text at out h q (rw e at z))) (rw e) (λ y. h) w.accepted w.passed
      w.kept n room
