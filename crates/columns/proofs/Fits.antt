-- Laws of sixty-four messages' bytes, 1 where the message fits, and their word.
use mathlib.Core.Path.{◌≡◌, refl, sym, ap, ◌∙◌}
use mathlib.Core.Bool.{Bool, false}
use mathlib.Core.List.{List}
use Prim.Native.Nat.{ℕ, ◌+◌, ◌<◌}
use native.Mathlib.Omega.{arith}
use lib.ListN.{get_or}
use Rattle.columns.specs.Firsts.{first_from, found}
use Rattle.columns.specs.Words.{bit, is_one, word_from}
use Rattle.columns.proofs.Firsts.{not_found, none_passes}
use Rattle.columns.proofs.Words.{bit_is, word_same, word_none}

module _ (y : List ℕ) (p : ℕ → Bool) (at : ℕ) (h : (k : ℕ) → k < 64 → get_or y k 0 ≡ bit (p (at + k))) where
  one-is : (k : ℕ) → k < 64 → is_one y k ≡ p (at + k)
  unfolding is_one
  one-is k l = rw (h k l) (bit_is (p (at + k)))

  -- the word of a test that tells which bytes are 1
  pub ones-word : (q : ℕ → Bool) → ((k : ℕ) → k < 64 → q k ≡ is_one y k)
      → word_from (λ k. bit (q k)) 0 64 ≡ word_from (λ k. bit (p k)) at 64
  ones-word q e = word_same _ _ at 0 at 64 (λ k l. ap bit (e k (omega arith) ∙ one-is k (omega arith))) (omega arith)

  pub none-one : found (first_from (is_one y) 0 64) ≡ false → 0 ≡ word_from (λ k. bit (p k)) at 64
  none-one e =
      sym (word_none (is_one y) 0 64 (none_passes (is_one y) 0 64 (not_found _ e)))
      ∙ ones-word (is_one y) (λ k l. refl)
