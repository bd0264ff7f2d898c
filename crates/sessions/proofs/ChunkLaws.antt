-- The lines of a chunk served so far, and the bytes left, come to the whole chunk.
use mathlib.Core.Path.{◌≡◌, refl, sym, ap, subst, ◌∙◌}
use mathlib.Core.List.{List, [], ◌∷◌, ◌++◌}
use Prim.Native.Nat.{ℕ, ◌+◌, ◌*◌, ◌<◌, ◌≤◌}
use native.Mathlib.Omega.{arith}
use lib.ListN.{length, take, length-drop}
use Rattle.std.specs.List.{position_or_len, before_first, after_first}
use Rattle.model.specs.Layout.{table_of}
use Rattle.model.specs.Lines.{line_of}
use Rattle.model.specs.Sessions.{Session, line_ends, fed, input_ends}
use Rattle.model.proofs.Parts.{take_again, take-sets}
use Rattle.boards.specs.Layout.{Lists}
use Rattle.refusals.specs.Held.{held_of, Accepted}
use Rattle.refusals.specs.Calls.{board_of}
use Rattle.prints.specs.Printed.{Printed}
use Rattle.prints.proofs.Texts as texts
use Rattle.sessions.specs.declared.Carry as DC
use Rattle.sessions.specs.Serves.{Serves, ServesChunk, ServesEnd, Says, Keeps, carry_of, session}
use Rattle.sessions.proofs.FeedLaws.{is_feed, fed-line, fed-rest, line-cut}

-- what is printed follows what stands before it
printed-take : {out done w : List ℕ} {at after : ℕ} → Printed out at w after done → after ≤ length out
    → take after done ≡ take at out ++ w
printed-take {out} {done} {w} {at} {after} p l =
    let e : after ≡ at + length w = p.place in
    rw (e, p.bytes) (take-sets out at w (omega (arith, p.place)))

-- the model's line end, where the line's bytes read as those that were served
pub line-served : (s : List ℕ) (h : Lists) (line out : List ℕ) (at : ℕ) (h' : Lists) (after : ℕ) (done p : List ℕ)
    → Serves s h line out at h' after done → at + 16 ≤ length out → line_of p ≡ line_of line
    → line_ends (table_of s) (session (take at out) (board_of s (held_of h)) p)
    ≡ session (take after done) (board_of s (held_of h')) []
unfolding line_ends
line-served s h line out at h' after done p v l e =
    rw (e, printed-take v.prints (omega (arith, v.room)), v.leaves)

-- the carry with bytes after it keeps what it kept, with these after it
pub keeps-more : (p bs : List ℕ) (c r : DC.Carry) → Keeps p c → carry_of r ≡ take 81 (carry_of c ++ bs)
    → Keeps (p ++ bs) r
keeps-more p bs c r k e = take_again 81 p bs ∙ ap (λ q. take 81 (q ++ bs)) k ∙ sym e

pub reads_as : (p : List ℕ) (c : DC.Carry) → Keeps p c → line_of p ≡ line_of (carry_of c)
reads_as p c k = sym (line-cut p) ∙ ap line_of k

-- a session from which the bytes left lead to where all of them lead
pub record Leads (s : List ℕ) (x : Session) (input : List ℕ) (h : Lists) (c : DC.Carry) (at : ℕ) (left done : List ℕ) :
    Type 0 where
  pub partial : List ℕ
  pub keeps : Keeps partial c
  pub leads : fed (table_of s) x input ≡ fed (table_of s) (session (take at done) (board_of s (held_of h)) partial) left

-- the lines that end before the bytes left are served
pub record Sofar (s : List ℕ) (h : Lists) (c : DC.Carry) (input out : List ℕ) (h' : Lists) (c' : DC.Carry) (at : ℕ)
    (left done : List ℕ) : Type 0 where
  pub printed : at + 16 * length left ≤ 16 * length input
  pub len : length done ≡ length out
  pub accepted : Accepted s h'
  pub kept : c'.len ≤ 81
  pub leads : (p : List ℕ) → Keeps p c → Leads s (session [] (board_of s (held_of h)) p) input h' c' at left done

-- a line ends, and others may follow
abbrev pub Ends : List ℕ → List ℕ → List ℕ → Type 0
Ends left line rest =
    (position_or_len is_feed left < length left)
    × (line ≡ before_first is_feed left)
    × (rest ≡ after_first is_feed left)

module _ {s : List ℕ} {h : Lists} {c : DC.Carry} {input out : List ℕ} {h' : Lists} {c' : DC.Carry} {at : ℕ}
    {left done : List ℕ} (i : Sofar s h c input out h' c' at left done) where
  -- one line more
  pub sofar-next : {bs rest : List ℕ} (line : DC.Carry) {g : Lists} {at' : ℕ} {done' : List ℕ} {c'' : DC.Carry}
      → Ends left bs rest → 16 * length input ≤ length out → carry_of line ≡ take 81 (carry_of c' ++ bs)
      → Serves s h' (carry_of line) done at g at' done' → c''.len ≡ 0
      → Sofar s h c input out g c'' at' rest done'
  sofar-next {bs} {rest} line {g} {at'} {done'} {c''} f r e v z =
      let n : length rest + 1 ≤ length left = rw f.2 (omega (arith, f.0, length-drop {A = ℕ})) in
      record {
        printed = omega (arith, v.room, i.printed, n);
        len = texts.kept v.prints ∙ i.len;
        accepted = v.accepted;
        kept = omega (arith, z);
        leads = λ p q. next (i.leads p q);
      }
    where
      next : {x : Session} → Leads s x input h' c' at left done → Leads s x input g c'' at' rest done'
      next {x} d =
          let o : at + 16 ≤ length done = omega (arith, i.printed, i.len, f.0, r) in
          let y = d.partial ++ bs in
          let u : Keeps y line = keeps-more d.partial bs c' line d.keeps e in
          let w = line-served s h' (carry_of line) done at g at' done' y v o (reads_as y line u) in
          record {
            partial = [];
            keeps = rw z;
            leads = d.leads ∙ fed-line (table_of s) left _ f.0 ∙ rw (← f.1, ← f.2, w);
          }

  -- no line feed is left
  pub sofar-all : (r : DC.Carry) → length left ≤ position_or_len is_feed left → 16 * length input ≤ length out
      → carry_of r ≡ take 81 (carry_of c' ++ left) → r.len ≤ 81 → ServesChunk s h c input h' r at done
  sofar-all r l o e k = record {
    says = λ p q. ends (i.leads p q);
    accepted = i.accepted;
    room = omega (arith, i.printed, i.len, o);
    kept = k;
  }
    where
      ends : {x : Session} → Leads s x input h' c' at left done
          → Says (fed (table_of s) x input) (board_of s (held_of h')) at done
          × Keeps (fed (table_of s) x input).partial r
      ends {x} d =
          let z = d.leads ∙ fed-rest (table_of s) left _ l in
          let u = keeps-more d.partial left c' r d.keeps e in
          subst (λ (y : Session). Says y (board_of s (held_of h')) at done × Keeps y.partial r) (sym z)
          (record { text = refl; board = refl }, u)

-- the end of input after some bytes
pub end_line : {s : List ℕ} {h : Lists} (c : DC.Carry) {out : List ℕ} {h' : Lists} {after : ℕ} {done : List ℕ}
    → 0 < length (carry_of c) → 16 ≤ length out → Serves s h (carry_of c) out 0 h' after done
    → ServesEnd s h c h' after done
end_line {s} {h} c {out} {h'} {after} {done} n l v =
    record { says = ends; accepted = v.accepted; room = omega (arith, v.room) }
  where
    ends : (p : List ℕ) → Keeps p c
        → Says (input_ends (table_of s) (session [] (board_of s (held_of h)) p) p) (board_of s (held_of h')) after done
    ends [] k = let z = ap (length {A = ℕ}) k in absurd (omega (arith, z, n))
    ends (x ∷ xs) k =
        let same = reads_as (x ∷ xs) c k in
        let e = line-served s h (carry_of c) out 0 h' after done (x ∷ xs) v (omega (arith, l)) same in
        record { text = sym (ap (λ (y : Session). y.text) e); board = sym (ap (λ (y : Session). y.board) e) }
