-- Bytes fed to a session: up to a line feed the line grows, and of a line the first 81 bytes tell what it reads as.
use Rattle.std.proofs.Common.{◌≡◌, ℕ, suc, ◌+◌, ◌<◌, ◌≤◌, Bool, true, false, List, [], ◌∷◌, ◌++◌, eqb, leb, length}
use Rattle.std.proofs.Common.{take, refl, ap, sym, ◌∙◌, add-one, arith}
use Rattle.std.specs.List.{list_any, position_or_len, before_first, after_first}
use Rattle.std.proofs.lemmas.List.{take_all, length-take-le}
use mathlib.Core.List.{append-nil}
use lib.Seq.{append_snoc}
use borrow.Author.Tests.{leb-true, leb-false}
use Rattle.model.specs.Tables.{Table}
use Rattle.model.specs.Lines.{line_of}
use Rattle.model.specs.Sessions.{Session, line_ends, fed}
use Rattle.model.proofs.Tests.{never}

-- bytes after those since the last line feed
abbrev pub grown : Session → List ℕ → Session
grown x bs = record { text = x.text; board = x.board; partial = x.partial ++ bs }

abbrev pub is_feed : ℕ → Bool
is_feed b = eqb b 10

-- where no byte is a line feed, none has a place
pub no_feed : (bs : List ℕ) → list_any is_feed bs ≡ false → length bs ≤ position_or_len is_feed bs
no_feed [] h = omega arith
no_feed (c ∷ cs) h = go (eqb c 10) refl h (no_feed cs)
  where
    go : (e : Bool) → eqb c 10 ≡ e → list_any is_feed (c ∷ cs) ≡ false
        → (list_any is_feed cs ≡ false → length cs ≤ position_or_len is_feed cs)
        → length (c ∷ cs) ≤ position_or_len is_feed (c ∷ cs)
    go true e h ih = never (sym h ∙ rw e)
    go false e h ih = rw e (omega (arith, ih (rw e at h)))

module _ (t : Table) where
  pub fed-line : (bs : List ℕ) (x : Session) → position_or_len is_feed bs < length bs
      → fed t x bs ≡ fed t (line_ends t (grown x (before_first is_feed bs))) (after_first is_feed bs)
  fed-line [] x h = absurd (omega arith)
  fed-line (c ∷ cs) x h = go (eqb c 10) refl h (fed-line cs)
    where
      go : (e : Bool) → eqb c 10 ≡ e → position_or_len is_feed (c ∷ cs) < length (c ∷ cs)
          → ((y : Session) → position_or_len is_feed cs < length cs
          → fed t y cs ≡ fed t (line_ends t (grown y (before_first is_feed cs))) (after_first is_feed cs))
          → fed t x (c ∷ cs)
          ≡ fed t (line_ends t (grown x (before_first is_feed (c ∷ cs)))) (after_first is_feed (c ∷ cs))
      go true e h ih = rw (e, append-nil x.partial)
      go false e h ih =
          let l = rw e at h in
          let one : 1 + position_or_len is_feed cs ≡ suc (position_or_len is_feed cs) = omega arith in
          rw (e, ih (grown x (c ∷ [])) (omega arith)) (simp (one, add-one, append_snoc))

  pub fed-rest : (bs : List ℕ) (x : Session) → length bs ≤ position_or_len is_feed bs → fed t x bs ≡ grown x bs
  fed-rest [] x h = rw (append-nil x.partial)
  fed-rest (c ∷ cs) x h = go (eqb c 10) refl h (fed-rest cs)
    where
      go : (e : Bool) → eqb c 10 ≡ e → length (c ∷ cs) ≤ position_or_len is_feed (c ∷ cs)
          → ((y : Session) → length cs ≤ position_or_len is_feed cs → fed t y cs ≡ grown y cs)
          → fed t x (c ∷ cs) ≡ grown x (c ∷ cs)
      go true e h ih = absurd (omega (arith, rw e at h))
      go false e h ih =
          let l = rw e at h in rw (e, ih (grown x (c ∷ [])) (omega arith), append_snoc x.partial c cs)

-- over 80 bytes both are unreadable
pub line-cut : (p : List ℕ) → line_of (take 81 p) ≡ line_of p
unfolding line_of
line-cut p = go (leb (length p) 80) refl
  where
    go : (e : Bool) → leb (length p) 80 ≡ e → line_of (take 81 p) ≡ line_of p
    go true e = let l = leb-true (length p) 80 e in ap line_of (take_all 81 p (omega (arith, l)))
    go false e =
        let l = leb-false (length p) 80 e in
        let n : length (take 81 p) ≡ 81 = length-take-le 81 p (omega (arith, l)) in
        rw (e, n)
