-- Laws of the messages that are to be told: those of the choice that pass the test.
use Rattle.std.proofs.Common.{◌≡◌, ℕ, suc, ◌<◌, List, [], ◌∷◌, length, get_or, take, arith, refl}
use Rattle.std.specs.List.{All, filter}
use Rattle.std.proofs.lemmas.Grind.{common_steps}
use Rattle.model.specs.Tables.{Table}
use Rattle.model.specs.Boards.{Message}
use Rattle.model.specs.Steps.{to_tell}
use Rattle.state.proofs.Sizes.{chord_few}
use Rattle.consumes.specs.Holds.{Channels, ChoiceLent, Left, is_told}

passing : (t : Table) (is : List Message) (channels : List ℕ) (n : ℕ) → Channels is channels n → (h : ℕ) (xs : List ℕ)
    → All (λ x. x < n) xs → to_tell t is h xs ≡ filter (is_told t channels h) xs
passing t is channels n c h [] a = refl
passing t is channels n c h (x ∷ xs) a =
    let ih = passing t is channels n c h xs (λ i d l. a (suc i) d (omega arith)) in
    let e = c.channel x (a 0 0 (omega arith)) in
    grind (arith, common_steps)

module _ (t : Table) (chosen channels : List ℕ) (len n : ℕ) (lent : ChoiceLent t chosen channels len n) where
  pub all_lent : (i d : ℕ) → i < length (take len chosen) → get_or (take len chosen) i d < n
  all_lent i d l = let b = lent.below i in grind (arith, common_steps)

  pub tells_is : (is : List Message) → Channels is channels n → (h : ℕ)
      → to_tell t is h (take len chosen) ≡ filter (is_told t channels h) (take len chosen)
  tells_is is c h = passing t is channels n c h (take len chosen) all_lent

  pub left_there : (h k : ℕ) → Left t channels n h (take len chosen) k
      → k < length (filter (is_told t channels h) (take len chosen))
  left_there h k l = let e = tells_is l.messages l.same h in let m = l.more in grind (arith, common_steps)

pub ruleset tells = (chord_few, all_lent, tells_is, left_there)
