-- A call by its move, or refused, on lists that the first tests accept.
use Rattle.std.proofs.Common.{◌≡◌, ◌≢◌, ℕ, ◌+◌, true, List, set, length-set, refl, arith}
use Rattle.model.specs.Layout.{table_of}
use Rattle.model.specs.Effects.{Said, Refused, Closed}
use Rattle.model.specs.Pools.{Call, closes}
use Rattle.boards.specs.Layout.{Lists, lists, close_day_at}
use Rattle.rows.specs.Numbers.{encodes}
use Rattle.rows.specs.Decoded.{board_from}
use Rattle.closes.specs.Closed.{closed_board}
use Rattle.refusals.specs.Held.{held_of, Accepted}
use Rattle.moves.specs.Refused.{call_refusal}
use Rattle.moves.proofs.RefusedLaws.{refused-call}
use Rattle.moves.proofs.CloseLaws.{close-plays}
use Rattle.plays.specs.Plays.{PlaysIn}
use Rattle.plays.specs.Replays.{CallRows, call_at}

module _ (s : List ℕ) (l : Lists) (k : Call) (a : Accepted s l) where
  pub play-refused : (f : ℕ) → f ≡ call_refusal (table_of s) (held_of l).board l.keys k → f ≢ 0
      → PlaysIn s l k (Refused f) l
  play-refused f e n = record {
    plays = refused-call s (held_of l) a.accepted k f e n;
    numbers = a.numbers;
    sized = a.sized;
    keeps = λ _. refl;
  }

  pub accepted-after : (w : Said) (l' : Lists) → PlaysIn s l k w l' → Accepted s l'
  accepted-after w l' p = record { numbers = p.numbers; sized = p.sized; accepted = p.plays.accepted a.accepted }

-- a close, written
pub closed-lists : (s : List ℕ) (l : Lists) (day : ℕ) → Accepted s l
    → call_refusal (table_of s) (held_of l).board l.keys (closes day) ≡ 0
    → (board keys : List ℕ) → encodes board ≡ true → board_from board ≡ closed_board (board_from l.board)
    → keys ≡ set l.keys close_day_at day
    → PlaysIn s l (closes day) Closed (lists board l.bytes l.links keys l.cents)
closed-lists s l day a z board keys e b k = record {
  plays = rw (b, k) (close-plays s (held_of l) day a.accepted z);
  numbers = e;
  sized = record {
    bytes-len = a.sized.bytes-len;
    links-len = a.sized.links-len;
    keys-len = rw (k, length-set l.keys close_day_at day) a.sized.keys-len;
    cents-len = a.sized.cents-len;
  };
  keeps = λ n. absurd (n refl);
}

-- after k calls of c, the last of which said w: l₀ as it was, or as its first call left it
pub record First (s : List ℕ) (l₀ : Lists) (c : CallRows) (k : ℕ) (w : Said) (l : Lists) : Type 0 where
  pub none : k ≡ 0 → l ≡ l₀
  pub one : k ≡ 1 → PlaysIn s l₀ (call_at c 0) w l

pub first_next : (s : List ℕ) (l₀ : Lists) (c : CallRows) (k : ℕ) (w v : Said) (l l' : Lists) (j : Call)
    → First s l₀ c k w l → j ≡ call_at c k → PlaysIn s l j v l' → First s l₀ c (k + 1) v l'
first_next s l₀ c k w v l l' j p e q = record {
  none = λ z. absurd (omega (arith, z));
  one = λ z. let n : k ≡ 0 = omega (arith, z) in rw (p.none n, e, n) at q;
}
