-- The messages tested a column at a time are the messages tested one at a time.
use mathlib.Core.Path.{◌≡◌, refl, sym, ◌∙◌}
use mathlib.Core.Bool.{Bool, true, false, ◌&&◌, ◌||◌, not, and-true}
use Prim.Native.Nat.{ℕ, zero, suc, ◌≤◌}
use native.Mathlib.Omega.{arith}
use borrow.Author.Tests.{leb-true}
use lib.Dec.{leb, eqb, leb-suc-suc}
use lib.ListN.{length, get_or}
use Rattle.model.specs.Tables.{Table}
use Rattle.model.specs.Boards.{Board, Message}
use Rattle.model.specs.Sound.{message_ok, note_ok}
use Rattle.columns.specs.Columns.{Columns, status_of, message_in}
use Rattle.soundness.specs.Tests.{each_below, below, in_range, link_ok, messages_ok}
use Rattle.soundness.proofs.Each.{each_same, each_and, each_of, each-made}

-- what a status asks for, by its byte
note-is : (x : Message) (s : ℕ) → s ≤ 3
    → note_ok x (status_of s) ≡ ((not (eqb s 3) || leb 1 x.match) && (not (eqb s 2) || leb 1 x.waker))
note-is x zero h = refl
note-is x (suc zero) h = refl
note-is x (suc (suc zero)) h = refl
note-is x (suc (suc (suc zero))) h = sym (and-true (leb 1 x.match))
note-is x (suc (suc (suc (suc s)))) h = absurd (omega arith)

-- a message's tests (its status, channel, cents, two links and note) in the columns' order
sorted : (s a c m w p q n : Bool) → (s ≡ true → n ≡ (p && q))
    → (s && (a && (c && (m && (w && n))))) ≡ (a && (c && (s && ((m && p) && (w && q)))))
sorted false true true m w p q n e = refl
sorted false true false m w p q n e = refl
sorted false false c m w p q n e = refl
sorted true false c m w p q n e = refl
sorted true true false m w p q n e = refl
sorted true true true false w p q n e = refl
sorted true true true true false true q n e = refl
sorted true true true true false false q n e = refl
sorted true true true true true p q n e = e refl

module _ (t : Table) (b : Board) (c : Columns) where
  message-is : (i : ℕ) → (leb (get_or c.statuses i 0) 3 && message_ok t b (message_in c i))
      ≡ (below (length t.kinds) c.channels i && (in_range c.cents i && (below 4 c.statuses i
      && (link_ok c.matched c.statuses (length b.matches) 3 i
      && link_ok c.wakers c.statuses (length b.messages) 2 i))))
  unfolding message_ok message_in
  message-is i =
      let s = get_or c.statuses i 0 in
      let match = get_or c.matched i 0 in
      let waker = get_or c.wakers i 0 in
      rw (leb-suc-suc s 3)
      (sorted (leb s 3) (below (length t.kinds) c.channels i) (in_range c.cents i)
      (leb match (length b.matches)) (leb waker (length b.messages))
      (not (eqb s 3) || leb 1 match) (not (eqb s 2) || leb 1 waker) (note_ok (message_in c i) (status_of s))
      (λ e. note-is (message_in c i) s (leb-true s 3 e)))

  pub messages-are : (n : ℕ) → n ≤ length c.statuses → messages_ok t b c n
      ≡ (each_below n (below (length t.kinds) c.channels) && (each_below n (in_range c.cents)
      && (each_below n (below 4 c.statuses)
      && (each_below n (link_ok c.matched c.statuses (length b.matches) 3)
      && each_below n (link_ok c.wakers c.statuses (length b.messages) 2)))))
  messages-are n h =
      rw (
        each_of (λ x. leb x 3) c.statuses 0 n h,
        each-made (message_ok t b) (message_in c) n,
      )
      (each_and (λ i. leb (get_or c.statuses i 0) 3) (λ i. message_ok t b (message_in c i)) n
      ∙ each_same _ _ n (λ i l. message-is i)
      ∙ sym (joined (below (length t.kinds) c.channels) (in_range c.cents) (below 4 c.statuses)
      (link_ok c.matched c.statuses (length b.matches) 3)
      (link_ok c.wakers c.statuses (length b.messages) 2)))
    where
      joined : (f g h p q : ℕ → Bool)
          → (each_below n f && (each_below n g && (each_below n h && (each_below n p && each_below n q))))
          ≡ each_below n (λ i. f i && (g i && (h i && (p i && q i))))
      joined f g h p q =
          rw (each_and p q n, each_and h (λ i. p i && q i) n, each_and g (λ i. h i && (p i && q i)) n)
          (each_and f (λ i. g i && (h i && (p i && q i))) n)
