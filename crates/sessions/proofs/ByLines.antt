-- The bytes of the input, fed one after another, are answered as its lines are.
use mathlib.Core.Path.{◌≡◌, refl, sym, ap, ◌∙◌}
use mathlib.Core.Bool.{Bool, true, false}
use mathlib.Core.List.{List, [], ◌∷◌, ◌++◌, append-nil, append_assoc}
use Prim.Native.Nat.{ℕ}
use lib.Dec.{eqb}
use lib.Seq.{append_snoc}
use Rattle.model.specs.Tables.{Table}
use Rattle.model.specs.Boards.{Board, empty_board, builtin_backoffs}
use Rattle.model.specs.Lines.{line_of, cut_at, ended, lines_of}
use Rattle.model.specs.Printing.{answer_line}
use Rattle.model.specs.Sessions.{Session, line_answer, line_ends, fed, input_ends, session_of}
use Rattle.model.specs.Sessions.{answers_text, after_lines}
use Rattle.sessions.specs.Serves.{session}

-- bytes before the first of the parts
abbrev after : List ℕ → List (List ℕ) → List (List ℕ)
after p [] = p ∷ []
after p (s ∷ ss) = (p ++ s) ∷ ss

-- there is a part always
cut-some : (xs : List ℕ) → (s : List ℕ) × (ss : List (List ℕ)) × (cut_at 10 xs ≡ s ∷ ss)
unfolding cut_at
cut-some [] = ([], [], refl)
cut-some (x ∷ xs) = go (eqb x 10) refl (cut-some xs)
  where
    go : (e : Bool) → eqb x 10 ≡ e → (s : List ℕ) × (ss : List (List ℕ)) × (cut_at 10 xs ≡ s ∷ ss)
        → (s : List ℕ) × (ss : List (List ℕ)) × (cut_at 10 (x ∷ xs) ≡ s ∷ ss)
    go true e c = ([], cut_at 10 xs, rw e)
    go false e c = (x ∷ c.0, c.1, rw (e, c.2))

ended-more : (l s : List ℕ) (ss : List (List ℕ)) → ended (l ∷ s ∷ ss) ≡ l ∷ ended (s ∷ ss)
ended-more [] s ss = refl
ended-more (x ∷ xs) s ss = refl

module _ (t : Table) where
  -- all lines are answered, after a text
  abbrev told : List ℕ → Board → List (List ℕ) → Session
  told text b ls = session (text ++ answers_text t b ls) (after_lines t b ls) []

  abbrev finish : Session → Session
  finish x = input_ends t x x.partial

  last : (text : List ℕ) (b : Board) (p : List ℕ) → finish (session text b p) ≡ told text b (ended ((p ++ []) ∷ []))
  unfolding line_ends
  last text b [] = rw (append-nil text)
  last text b (y ∷ ys) = rw (append-nil ys, append-nil (answer_line (line_answer t b (line_of (y ∷ ys))).said))

  by_parts : (input text : List ℕ) (b : Board) (p : List ℕ)
      → finish (fed t (session text b p) input) ≡ told text b (ended (after p (cut_at 10 input)))
  unfolding cut_at line_ends
  by_parts [] text b p = last text b p
  by_parts (x ∷ xs) text b p = go (eqb x 10) refl (cut-some xs) (by_parts xs)
    where
      go : (e : Bool) → eqb x 10 ≡ e → (s : List ℕ) × (ss : List (List ℕ)) × (cut_at 10 xs ≡ s ∷ ss)
          → ((text : List ℕ) (b : Board) (p : List ℕ)
          → finish (fed t (session text b p) xs) ≡ told text b (ended (after p (cut_at 10 xs))))
          → finish (fed t (session text b p) (x ∷ xs)) ≡ told text b (ended (after p (cut_at 10 (x ∷ xs))))
      go true e c all =
          let a = line_answer t b (line_of p) in
          let w = answer_line a.said in
          let ls = ended (c.0 ∷ c.1) in
          let step : fed t (session text b p) (x ∷ xs) ≡ fed t (session (text ++ w) a.board []) xs = rw e in
          let cut : cut_at 10 (x ∷ xs) ≡ [] ∷ c.0 ∷ c.1 = rw (e, c.2) in
          let parts : ended (after p (cut_at 10 (x ∷ xs))) ≡ p ∷ ls
          = ap (λ ps. ended (after p ps)) cut ∙ ap (λ q. ended (q ∷ c.0 ∷ c.1)) (append-nil p) ∙ ended-more p c.0 c.1 in
          ap finish step ∙ all (text ++ w) a.board []
          ∙ ap (λ ps. told (text ++ w) a.board (ended (after [] ps))) c.2
          ∙ ap (λ v. session v (after_lines t a.board ls) []) (append_assoc text w (answers_text t a.board ls))
          ∙ ap (λ ps. told text b ps) (sym parts)
      go false e c all =
          let step : fed t (session text b p) (x ∷ xs) ≡ fed t (session text b (p ++ (x ∷ []))) xs = rw e in
          let parts : after p (cut_at 10 (x ∷ xs)) ≡ after (p ++ (x ∷ [])) (cut_at 10 xs)
          = rw (e, c.2, append_snoc p x c.0) in
          ap finish step ∙ all text b (p ++ (x ∷ [])) ∙ ap (λ ps. told text b (ended ps)) (sym parts)

  -- the text and the board are those of the lines, answered one after the other
  pub by_lines : (input : List ℕ)
      → ((session_of t input).text ≡ answers_text t (empty_board builtin_backoffs) (lines_of input))
      × ((session_of t input).board ≡ after_lines t (empty_board builtin_backoffs) (lines_of input))
  by_lines input =
      let c = cut-some input in
      let e : session_of t input ≡ told [] (empty_board builtin_backoffs) (lines_of input)
      = rw c.2 (rw c.2 at (by_parts input [] (empty_board builtin_backoffs) [])) in
      (ap (λ (x : Session). x.text) e, ap (λ (x : Session). x.board) e)
