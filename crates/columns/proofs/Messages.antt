-- Laws of messages by columns.
use mathlib.Core.Path.{◌≡◌, refl, ap, sym}
use mathlib.Core.List.{List}
use Prim.Native.Nat.{ℕ, zero, suc, ◌<◌, ◌≤◌}
use mathlib.Core.Bool.{◌&&◌, not}
use lib.Dec.{eqb, ltb, leb}
use lib.ListN.{length, get_or}
use native.Mathlib.Omega.{arith}
use borrow.Author.Tests.{ne_eqb, le-ltb, le-leb}
use Rattle.model.specs.Boards.{Message, no_message, is_pending, is_claimed, is_consumed, is_open}
use Rattle.columns.specs.Columns.{Columns, Lent, status_of, message_in, messages_from}
use Rattle.columns.proofs.ListFrom.{length_from, nth-from}

pub length-messages : (c : Columns) (i n : ℕ) → length (messages_from c i n) ≡ n
length-messages c = length_from (message_in c)

-- the k-th of n messages
pub nth-message : (c : Columns) (n k : ℕ) → k < n → get_or (messages_from c 0 n) k no_message ≡ message_in c k
nth-message c = nth-from (message_in c) no_message

pub nth-channel : (c : Columns) (n k : ℕ) → k < n
    → (get_or (messages_from c 0 n) k no_message).sent.channel ≡ get_or c.channels k 0
unfolding message_in
nth-channel c n k h = ap (λ (x : Message). x.sent.channel) (nth-message c n k h)

-- columns long enough for n messages are for fewer
pub lent-less : {channels keys units statuses : List ℕ} (k n : ℕ) → k ≤ n → Lent n channels keys units statuses
    → Lent k channels keys units statuses
lent-less k n h l = record {
  few = omega arith;
  channels_all = omega arith;
  keys_all = omega arith;
  units_all = omega arith;
  statuses_all = omega arith;
}

-- the status that a byte stands for
pub pending-is : (s : ℕ) → is_pending (status_of s) ≡ eqb s 0
pending-is zero = refl
pending-is (suc zero) = refl
pending-is (suc (suc zero)) = refl
pending-is (suc (suc (suc s))) = sym (ne_eqb (suc (suc (suc s))) 0 (λ e. omega arith))

pub claimed_is : (s : ℕ) → is_claimed (status_of s) ≡ eqb s 1
claimed_is zero = refl
claimed_is (suc zero) = refl
claimed_is (suc (suc zero)) = refl
claimed_is (suc (suc (suc s))) = sym (ne_eqb (suc (suc (suc s))) 1 (λ e. omega arith))

pub consumed_is : (s : ℕ) → is_consumed (status_of s) ≡ leb 3 s
consumed_is zero = refl
consumed_is (suc zero) = refl
consumed_is (suc (suc zero)) = refl
consumed_is (suc (suc (suc s))) = sym (le-leb 3 (suc (suc (suc s))) (omega arith))

pub open_is : (s : ℕ) → is_open (status_of s) ≡ ltb s 2
open_is zero = refl
open_is (suc zero) = refl
open_is (suc (suc zero)) = refl
open_is (suc (suc (suc s))) = sym (le-ltb (suc (suc (suc s))) 2 (omega arith))

pub woken_is : (s : ℕ) → (not (is_open (status_of s)) && not (is_consumed (status_of s))) ≡ eqb s 2
woken_is zero = refl
woken_is (suc zero) = refl
woken_is (suc (suc zero)) = refl
woken_is (suc (suc (suc s))) = sym (ne_eqb (suc (suc (suc s))) 2 (λ e. omega arith))
