-- However the input is split into reads, what the program's turns print is the model's printout.
use mathlib.Core.Path.{◌≡◌, refl, sym, ap, subst, ◌∙◌}
use mathlib.Core.Bool.{Bool, true, false, ◌||◌}
use mathlib.Core.List.{List, [], ◌∷◌, ◌++◌, append-nil, append_assoc}
use Prim.Native.Nat.{ℕ, zero, suc}
use borrow.Author.Tests.{eq-eqb, eqb-true}
use lib.Dec.{eqb}
use lib.ListN.{length, take}
use Rattle.model.specs.Basics.{first_of}
use Rattle.model.specs.Boards.{builtin_backoffs}
use Rattle.model.specs.Layout.{table_of, table_refusal}
use Rattle.model.specs.Sessions.{printed_by, printout}
use Rattle.model.proofs.Tests.{both}
use Rattle.boards.specs.Layout.{Lists, board_len}
use Rattle.refusals.specs.Held.{held_of}
use Rattle.refusals.specs.Calls.{board_of}
use Rattle.reports.specs.Parts.{lines_on, line_count}
use Rattle.reports.proofs.PartLaws.{written}
use Rattle.reports.proofs.ListLines.{counted}
use Rattle.reports.proofs.Whole.{report-whole}
use Rattle.calls.specs.Opens.{open_number}
use Rattle.schedules.proofs.PublicResting.{resting-calls}
use Rattle.printouts.specs.declared.Stage as DS
use Rattle.printouts.specs.Stages.{Reporting, SoFarBy, SoFar, done_on, taken}
use Rattle.printouts.specs.Prints.{Turns, ServesAll, PrintsBy, input_of, ProgramPrints}
use Rattle.printouts.proofs.Beginnings.{begun-far}

ended-none : (is : List (List ℕ)) → input_of true is ≡ []
ended-none [] = refl
ended-none (i ∷ is) = refl

-- what a turn takes, then what is left
input-next : (ended : Bool) (i : List ℕ) (is : List (List ℕ))
    → taken ended i ++ input_of (ended || eqb (length i) 0) is ≡ input_of ended (i ∷ is)
input-next true i is = ended-none is
input-next false i is = refl

module _ (s : List ℕ) where
  turns-on : (l : Lists) (g : DS.Stage) (reads : List (List ℕ)) (text : List ℕ) (l' : Lists) (g' : DS.Stage)
      → Turns s l g reads text l' g' → (before said : List ℕ) → SoFar s before said g l
      → SoFar s (before ++ input_of g.ended reads) (said ++ text) g' l'
  turns-on l g [] text l' g' (e, f, h) before said p = rw (e, f, h, append-nil before, append-nil said) p
  turns-on l g (i ∷ is) text l' g' (m, h, at, out, rest, a, e, more) before said p =
      let r = turns-on m h is rest l' g' more _ _ (a.prints before said p) in
      let x : (before ++ taken g.ended i) ++ input_of h.ended is ≡ before ++ input_of g.ended (i ∷ is)
      = append_assoc before (taken g.ended i) _
      ∙ ap (λ (y : List ℕ). before ++ y)
      (ap (λ (y : Bool). taken g.ended i ++ input_of y is) a.ends ∙ input-next g.ended i is) in
      let z : (said ++ take at out) ++ rest ≡ said ++ text
      = append_assoc said (take at out) rest ∙ ap (λ (y : List ℕ). said ++ y) (sym e) in
      subst (λ (y : List ℕ). SoFar s y (said ++ text) g' l') x
      (subst (λ (y : List ℕ). SoFar s ((before ++ taken g.ended i) ++ input_of h.ended is) y g' l') z r)

  -- all is printed
  whole : (input text : List ℕ) (l : Lists) (g : DS.Stage) → SoFar s input text g l → done_on l.board g ≡ true
      → text ≡ printed_by 0 s input
  whole input text l g p d =
      let e = both {t = g.ended} d in
      let q : Reporting s input text g.next l = subst (λ (b : Bool). SoFarBy b s input text g l) e.0 p in
      let n : g.next ≡ length (lines_on s l)
      = eqb-true g.next (line_count l.board) e.1 ∙ sym (counted s l) in
      q.lines ∙ rw (n, report-whole (table_of s) (board_of s (held_of l)), q.board)

  served : (reads : List (List ℕ)) (text : List ℕ) → ServesAll s reads text
      → text ≡ printed_by 0 s (input_of false reads)
  served reads text p =
      let q = turns-on p.first p.begun reads text p.last p.reached p.turns [] []
      (begun-far s p.first p.begun p.opened p.begins) in
      let b = p.begins.goes_on in
      whole (input_of false reads) text p.last p.reached
      (subst (λ (e : Bool). SoFar s (input_of e reads) text p.reached p.last) b q) p.done

open-number : (s before : List ℕ) → length before ≡ board_len → open_number s builtin_backoffs before ≡ table_refusal s
open-number s before e =
    resting-calls.none_given s before ∙ rw (eq-eqb (length before) board_len e) (go (table_refusal s))
  where
    go : (n : ℕ) → first_of n 0 ≡ n
    go zero = refl
    go (suc n) = refl

prints-by : (f : ℕ) (s : List ℕ) (reads : List (List ℕ)) (text : List ℕ) → PrintsBy f s reads text
    → text ≡ printed_by f s (input_of false reads)
prints-by zero s reads text p = served s reads text p
prints-by (suc f) s reads text p = p.whole ∙ written p.printed p.inside

pub program-prints : ProgramPrints
unfolding printout
program-prints file reads text (before, e, p) =
    let s = take 413 file in
    prints-by (table_refusal s) s reads text
    (subst (λ (f : ℕ). PrintsBy f s reads text) (open-number s before e) p)
