-- Turns, and one more.
use mathlib.Core.Path.{refl, ap, ◌∙◌, sym, subst}
use mathlib.Core.List.{List, [], ◌∷◌, ◌++◌, append-nil, append_assoc}
use Prim.Native.Nat.{ℕ}
use lib.ListN.{take}
use Rattle.boards.specs.Layout.{Lists}
use Rattle.printouts.specs.declared.Stage as DS
use Rattle.printouts.specs.Stages.{Advances}
use Rattle.printouts.specs.Prints.{Turns, Turned, Advanced}

module _ (s : List ℕ) where
  more : (l : Lists) (g : DS.Stage) (reads : List (List ℕ)) (text : List ℕ) (m : Lists) (h : DS.Stage)
      (input : List ℕ) (l' : Lists) (g' : DS.Stage) (at : ℕ) (out : List ℕ) → Turns s l g reads text m h
      → Advances s m h input l' g' at out → Turns s l g (reads ++ (input ∷ [])) (text ++ take at out) l' g'
  more l g [] text m h input l' g' at out (e, f, k) a =
      let b = subst (λ (x : Lists). Advances s x g input l' g' at out) f
      (subst (λ (x : DS.Stage). Advances s m x input l' g' at out) k a) in (
        l',
        g',
        at,
        out,
        [],
        b,
        ap (λ x. x ++ take at out) e ∙ sym (append-nil (take at out)),
        (refl, refl, refl),
      )
  more l g (i ∷ is) text m h input l' g' at out (n, k, at₁, out₁, rest, b, e, on) a =
      let r = more n k is rest m h input l' g' at out on a in (
        n,
        k,
        at₁,
        out₁,
        rest ++ take at out,
        b,
        ap (λ x. x ++ take at out) e ∙ append_assoc (take at₁ out₁) rest (take at out),
        r,
      )

  pub turned_none : (l : Lists) (g : DS.Stage) → Turned s l g l g
  turned_none l g = ([], [], (refl, refl, refl))

  pub turned_more : (l : Lists) (g : DS.Stage) (m : Lists) (h : DS.Stage) (l' : Lists) (g' : DS.Stage)
      → Turned s l g m h → Advanced s m h l' g' → Turned s l g l' g'
  turned_more l g m h l' g' (reads, text, t) (input, at, out, a) =
      (reads ++ (input ∷ []), text ++ take at out, more l g reads text m h input l' g' at out t a)
