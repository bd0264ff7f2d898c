-- The matches tested a column at a time are the matches tested one at a time, and numbers that are all below a count
-- are so for each match.
use Rattle.std.proofs.Common.{◌≡◌, ℕ, ◌+◌, ◌*◌, ◌<◌, ◌≤◌, Bool, true, false, ◌&&◌, List, length, take, drop, get_or}
use Rattle.std.proofs.Common.{ltb, refl, sym, ◌∙◌, arith}
use borrow.Author.Tests.{ltb-true}
use lib.ListN.{length-drop}
use lib.Seq.{get_or-drop}
use Rattle.std.proofs.lemmas.List.{get_or-take, length-take-le}
use Rattle.model.specs.Basics.{every}
use Rattle.model.specs.Tables.{size}
use Rattle.model.specs.Boards.{Board}
use Rattle.model.specs.Layout.{table_refusal, table_of}
use Rattle.model.specs.Sound.{match_ok, all_below}
use Rattle.model.proofs.Lists.{every-nth}
use Rattle.model.proofs.Parts.{to_end}
use Rattle.model.proofs.TableLaws.{size_few}
use Rattle.columns.specs.MatchColumns.{MatchColumns, match_in, matches_from}
use Rattle.soundness.specs.Tests.{each_below, below, numbers_ok}
use Rattle.soundness.proofs.Each.{each_none, each-one, at_each, each_and, each_same, each_of, each-made}

pub ruleset turns = (each_none, each-one, to_end)

-- k numbers from the front, where there are so many if u holds
front-is : (count : ℕ) (ns : List ℕ) (k : ℕ) (u : Bool) → (u ≡ true → k ≤ length ns)
    → (u && all_below count (take k ns)) ≡ (u && each_below k (below count ns))
front-is count ns k true h = each_of (λ x. ltb x count) ns 0 k (h refl)
front-is count ns k false h = refl

module _ (s : List ℕ) (accepts : table_refusal s ≡ 0) (m : MatchColumns) (n : ℕ) (b : Board)
    (there : n ≤ length m.chords) (long : 8 * n ≤ length m.messages) where
  match_is : (i : ℕ) → i < n → match_ok (table_of s) b (match_in (table_of s) m i)
      ≡ (below (length (table_of s).chords) m.chords i
      && numbers_ok (table_of s) (take n m.chords) m.messages (length b.messages) i)
  unfolding match_ok match_in
  match_is i h =
      let q = get_or m.chords i 0 in
      rw (get_or-take n m.chords i 0 h)
      (front-is (length b.messages) (drop (8 * i) m.messages) (size (table_of s) q)
      (ltb q (length (table_of s).chords))
      (λ e. let k = size_few s q accepts (ltb-true _ _ e) in simp length-drop (omega arith)))

  pub matches-are : every (match_ok (table_of s) b) (matches_from (table_of s) m 0 n)
      ≡ (every (λ x. ltb x (length (table_of s).chords)) (take n m.chords)
      && each_below (length (take n m.chords))
      (numbers_ok (table_of s) (take n m.chords) m.messages (length b.messages)))
  matches-are =
      let t = table_of s in
      rw (each_of (λ x. ltb x (length t.chords)) m.chords 0 n there, length-take-le n m.chords there)
      (each-made (match_ok t b) (match_in t m) n
      ∙ each_same _ _ n match_is
      ∙ sym (each_and _ _ n))

  pub all_are : every (λ x. ltb x (length (table_of s).chords)) (take n m.chords) ≡ true
      → every (λ x. ltb x (length b.messages)) (take (8 * n) m.messages) ≡ true
      → every (match_ok (table_of s) b) (matches_from (table_of s) m 0 n) ≡ true
  all_are e f = rw (matches-are, e) (at_each _ _ (λ i h. at_each _ _ (λ j l. one i j h l)))
    where
      one : (i j : ℕ) → i < length (take n m.chords) → j < size (table_of s) (get_or (take n m.chords) i 0)
          → below (length b.messages) (drop (8 * i) m.messages) j ≡ true
      one i j h l =
          let x = get_or (take n m.chords) i 0 in
          let k = size_few s x accepts
          (ltb-true _ _ (every-nth (λ x. ltb x (length (table_of s).chords)) (take n m.chords) 0 e i h)) in
          let z = length-take-le n m.chords there in
          let y = length-take-le (8 * n) m.messages long in
          rw (get_or-drop (8 * i) m.messages j 0, ← get_or-take (8 * n) m.messages (8 * i + j) 0 (omega arith))
          (every-nth (λ x. ltb x (length b.messages)) (take (8 * n) m.messages) 0 f (8 * i + j) (omega arith))
