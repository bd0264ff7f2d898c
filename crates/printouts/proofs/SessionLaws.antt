-- Laws of sessions: input in two parts, and text that was printed before.
use mathlib.Core.Path.{◌≡◌, refl, sym, ap, ◌∙◌}
use mathlib.Core.Bool.{Bool, true, false}
use mathlib.Core.List.{List, [], ◌∷◌, ◌++◌, append-nil, append_assoc}
use Prim.Native.Nat.{ℕ}
use lib.Dec.{eqb}
use Rattle.model.specs.Tables.{Table}
use Rattle.model.specs.Lines.{line_of}
use Rattle.model.specs.Printing.{answer_line}
use Rattle.model.specs.Sessions.{Session, line_answer, line_ends, fed_byte, fed, input_ends}
use Rattle.sessions.specs.Serves.{session}

-- a session with text before its own
abbrev pub after : List ℕ → Session → Session
after w x = session (w ++ x.text) x.board x.partial

-- a session from its board and the bytes since the last line feed
abbrev pub begun : Session → Session
begun x = session [] x.board x.partial

pub begun-after : (x : Session) → x ≡ after x.text (begun x)
begun-after x = ap (λ v. session v x.board x.partial) (sym (append-nil x.text))

module _ (t : Table) (w : List ℕ) where
  line_after : (x : Session) → line_ends t (after w x) ≡ after w (line_ends t x)
  unfolding line_ends
  line_after x =
      let a = line_answer t x.board (line_of x.partial) in
      ap (λ v. session v a.board []) (append_assoc w x.text (answer_line a.said))

  byte-after : (x : Session) (c : ℕ) → fed_byte t (after w x) c ≡ after w (fed_byte t x c)
  byte-after x c = go (eqb c 10) refl
    where
      go : (e : Bool) → eqb c 10 ≡ e → fed_byte t (after w x) c ≡ after w (fed_byte t x c)
      go true e = rw e (line_after x)
      go false e = rw e

  pub fed-after : (x : Session) (cs : List ℕ) → fed t (after w x) cs ≡ after w (fed t x cs)
  fed-after x [] = refl
  fed-after x (c ∷ cs) = ap (λ y. fed t y cs) (byte-after x c) ∙ fed-after (fed_byte t x c) cs

  pub ends-after : (x : Session) (p : List ℕ) → input_ends t (after w x) p ≡ after w (input_ends t x p)
  ends-after x [] = refl
  ends-after x (c ∷ cs) = line_after x

module _ (t : Table) where
  pub fed-more : (x : Session) (cs ds : List ℕ) → fed t x (cs ++ ds) ≡ fed t (fed t x cs) ds
  fed-more x [] ds = refl
  fed-more x (c ∷ cs) ds = fed-more (fed_byte t x c) cs ds

  -- two parts of the input, the second from where the first ends
  pub fed-on : (x : Session) (cs ds : List ℕ)
      → fed t x (cs ++ ds) ≡ after (fed t x cs).text (fed t (begun (fed t x cs)) ds)
  fed-on x cs ds =
      let y = fed t x cs in
      fed-more x cs ds ∙ ap (λ z. fed t z ds) (begun-after y) ∙ fed-after t y.text (begun y) ds

  -- the end of the input, from where it is
  pub ends_on : (x : Session) (p : List ℕ) → input_ends t x p ≡ after x.text (input_ends t (begun x) p)
  ends_on x p = ap (λ z. input_ends t z p) (begun-after x) ∙ ends-after t x.text (begun x) p
