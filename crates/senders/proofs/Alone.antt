-- Laws of marks walked from the front: each with those after it.
use mathlib.Core.Path.{◌≡◌, refl}
use mathlib.Core.Logic.{◌≢◌}
use mathlib.Core.Bool.{Bool, ◌&&◌, not}
use mathlib.Core.List.{List, [], ◌∷◌, map}
use Prim.Native.Nat.{ℕ, suc, ◌+◌, ◌-◌, ◌<◌}
use native.Mathlib.Numerals.{add-one}
use native.Mathlib.Omega.{arith}
use borrow.Author.Tests.{ne_eqb}
use lib.Dec.{eqb}
use lib.ListN.{length, get_or, take, drop, length-drop}
use lib.Seq.{drop-cons, take_all}
use Rattle.std.specs.List.{list_any}
use Rattle.std.proofs.lemmas.Grind.{common_steps}
use Rattle.model.specs.Basics.{every}
use Rattle.model.specs.Tables.{Table}
use Rattle.model.specs.Sound.{owns, none_shared}
use Rattle.state.specs.declared.Sender as DD
use Rattle.state.specs.Views.{sender_in, job_in}
use Rattle.state.proofs.StateLaws.{idle-is}
use Rattle.senders.specs.Seen.{mark_by, none_twice}

-- Marks

every-not : (p : ℕ → Bool) (xs : List ℕ) → every (λ x. not (p x)) xs ≡ not (list_any p xs)
every-not p [] = refl
every-not p (x ∷ xs) = let ih = every-not p xs in grind (arith, common_steps)

-- the i-th, if it is not 0, with those after it, then those after it
module _ (s : List ℕ) (i : ℕ) (h : i < length s) where
  pub twice-idle : get_or s i 0 ≡ 0 → none_twice (drop i s) ≡ none_twice (drop (i + 1) s)
  twice-idle e = rw (drop-cons s i 0 h, add-one i, e)

  pub twice-step : get_or s i 0 ≢ 0 → (b : Bool)
      → list_any (λ y. eqb y (get_or s i 0)) (take (length s - (i + 1)) (drop (i + 1) s)) ≡ b
      → none_twice (drop i s) ≡ (not b && none_twice (drop (i + 1) s))
  twice-step z b e =
      let all = take_all (length s - (i + 1)) (drop (i + 1) s) (omega (arith, length-drop (i + 1) s)) in
      let m = get_or s i 0 in
      rw (← e, all, drop-cons s i 0 h, add-one i, ne_eqb m 0 z, every-not (λ y. eqb y m) (drop (suc i) s))

-- Marks of senders

-- a mark is that of message o's sender, if it is not idle and o is its own
module _ (t : Table) where
  owns-is : (o : ℕ) (d : DD.Sender) → eqb (mark_by d) (o + 1) ≡ owns o (sender_in t d)
  owns-is o d = let e = idle-is d.state (job_in t d.job) in grind (arith, common_steps)

  others-is : (o : ℕ) (ds : List DD.Sender) → every (λ x. not (eqb x (o + 1))) (map mark_by ds)
      ≡ every (λ e. not (owns o e)) (map (sender_in t) ds)
  others-is o [] = refl
  others-is o (d ∷ ds) = rw (owns-is o d, others-is o ds)

  pub marks-shared : (ds : List DD.Sender) → none_twice (map mark_by ds) ≡ none_shared (map (sender_in t) ds)
  marks-shared [] = refl
  marks-shared (d ∷ ds) =
      let ih = marks-shared ds in
      let e = idle-is d.state (job_in t d.job) in
      let others = others-is d.own ds in
      grind (arith, common_steps)
