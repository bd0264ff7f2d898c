-- Lists are determined by what they hold: their columns are all of their parts, and a board's numbers are all read.
use mathlib.Core.Path.{◌≡◌, sym, ap, ◌∙◌}
use mathlib.Core.List.{List, ◌++◌}
use Prim.Native.Nat.{ℕ, ◌+◌, ◌≤◌}
use native.Mathlib.Omega.{arith}
use lib.ListN.{length, take, drop, take-append-drop, drop_of_length-le}
use lib.Seq.{drop-drop}
use Rattle.boards.specs.Calls.{Held}
use Rattle.boards.specs.Parts.{part}
use Rattle.boards.specs.Layout.{Lists, lists}
use Rattle.rows.specs.Numbers.{board_numbers}
use Rattle.rows.proofs.DecodeLaws.{from_back}
use Rattle.refusals.specs.Calls.{SameFrom}
use Rattle.refusals.specs.Held.{held_of, HeldOnce}
use Rattle.refusals.proofs.HeldLaws.{held-is}

-- two lists agree past their ends, and from a part on where they agree in it and past it
module _ {A : Type 0} (xs ys : List A) where
  pub past-ends : (n : ℕ) → length xs ≤ n → length ys ≤ n → SameFrom n xs ys
  past-ends n k l = drop_of_length-le xs k ∙ sym (drop_of_length-le ys l)

  pub from-part : (at n : ℕ) → part at n xs ≡ part at n ys → SameFrom (at + n) xs ys → SameFrom at xs ys
  unfolding part
  from-part at n e f =
      sym (take-append-drop n (drop at xs)) ∙ ap (λ z. z ++ drop n (drop at xs)) e
      ∙ ap (λ z. take n (drop at ys) ++ z) (drop-drop n at xs ∙ f ∙ sym (drop-drop n at ys))
      ∙ take-append-drop n (drop at ys)

lists-are : (l m : Lists) → l.board ≡ m.board → l.bytes ≡ m.bytes → l.links ≡ m.links → l.keys ≡ m.keys
    → l.cents ≡ m.cents → l ≡ m
lists-are l m a b c d e = go
  where
    go : lists l.board l.bytes l.links l.keys l.cents
        ≡ lists m.board m.bytes m.links m.keys m.cents
    go = rw (a, b, c, d, e)

pub held-once : HeldOnce
held-once s l m a b e =
    let same : held_of l ≡ held_of m =
    sym (held-is l a.numbers a.sized) ∙ e ∙ held-is m b.numbers b.sized in
    let x = a.sized in
    let y = b.sized in
    lists-are l m
    (sym (from_back l.board a.numbers).0 ∙ ap (λ (h : Held). board_numbers h.board) same
    ∙ (from_back m.board b.numbers).0)
    (from-part _ _ 0 1024 (ap (λ (h : Held). h.columns.channels) same)
    (from-part _ _ 1024 1024 (ap (λ (h : Held). h.columns.statuses) same)
    (from-part _ _ 2048 1024 (ap (λ (h : Held). h.matches.chords) same)
    (past-ends l.bytes m.bytes 3072 (omega (arith, x.bytes-len)) (omega (arith, y.bytes-len))))))
    (from-part _ _ 0 1024 (ap (λ (h : Held). h.columns.matched) same)
    (from-part _ _ 1024 1024 (ap (λ (h : Held). h.columns.wakers) same)
    (from-part _ _ 2048 8192 (ap (λ (h : Held). h.matches.messages) same)
    (from-part _ _ 10240 1024 (ap (λ (h : Held). h.columns.units) same)
    (past-ends l.links m.links 11264 (omega (arith, x.links-len)) (omega (arith, y.links-len)))))))
    (ap (λ (h : Held). h.columns.keys) same)
    (ap (λ (h : Held). h.columns.cents) same)
