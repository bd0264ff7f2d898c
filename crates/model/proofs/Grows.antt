-- What no step undoes: messages keep what was sent, consumed stays, matches are only appended.
use mathlib.Core.Path.{◌≡◌, refl, ap, ◌∙◌}
use mathlib.Core.Logic.{◌≢◌}
use mathlib.Core.Bool.{Bool, true, false}
use Prim.Native.Nat.{ℕ, ◌≤◌, ◌<◌}
use borrow.Author.Tests.{eqb-false}
use lib.Dec.{eqb}
use lib.ListN.{length}
use native.Mathlib.Omega.{arith}
use Rattle.model.specs.Basics.{pick}
use Rattle.model.specs.Boards.{Message, Board, message_at, consumed, match_at, Status, pending, claimed, woken}
use Rattle.model.specs.Boards.{is_pending}
use Rattle.model.specs.Effects.{Turn, turn, turned, Change, none, records, claims, signals, frees, consumes}
use Rattle.model.specs.Effects.{wakes_by, resumes}
use Rattle.model.proofs.Tests.{never}
use Rattle.model.proofs.Frame.{message_after}

pub record SameSent (x y : Message) : Type 0 where
  pub sent : y.sent ≡ x.sent
  pub channel : y.sent.channel ≡ x.sent.channel

kept_if : (t : Bool) (τ : Turn) (x : Message) → SameSent x (pick t (turned τ x) x)
kept_if true τ x = record { sent = refl; channel = refl }
kept_if false τ x = record { sent = refl; channel = refl }

pub message-kept : (c : Change) (m : ℕ) (x : Message) → SameSent x (message_after c m x)
message-kept none m x = record { sent = refl; channel = refl }
message-kept (turn n τ) m x = kept_if (eqb m n) τ x
message-kept (records n r) m x = kept_if (eqb m n) claims x
message-kept (signals n) m x = record { sent = refl; channel = refl }

pub record Grows (b b' : Board) : Type 0 where
  pub messages_more : length b.messages ≤ length b'.messages
  pub kept : (n : ℕ) → n < length b.messages → SameSent (message_at b n) (message_at b' n)
  pub stays_consumed : (n : ℕ) → n < length b.messages → (message_at b n).status ≡ consumed
      → ((message_at b' n).status ≡ consumed) × ((message_at b' n).match ≡ (message_at b n).match)
  pub matches_more : length b.matches ≤ length b'.matches
  pub matches_same : (k : ℕ) → k < length b.matches → match_at b' k ≡ match_at b k

-- the status that a message has before it turns
abbrev pub status_before : Turn → Status
status_before claims = pending
status_before frees = claimed
status_before (consumes m) = claimed
status_before (wakes_by h) = claimed
status_before resumes = woken

pub record Turns (b : Board) (n : ℕ) (τ : Turn) : Type 0 where
  pub on_board : n < length b.messages
  pub from : (message_at b n).status ≡ status_before τ

abbrev pub Lawful : Board → Change → Type 0
Lawful b none = Unit {0}
Lawful b (turn n τ) = Turns b n τ
Lawful b (records n m) = Turns b n claims
Lawful b (signals n) = Unit {0}

-- statuses are told apart by a number: `apart refl`
abbrev pub code : Status → ℕ
code pending = 0
code claimed = 1
code woken = 2
code consumed = 3

pub apart : {s u : Status} → eqb (code s) (code u) ≡ false → s ≢ u
apart {s} {u} e q = eqb-false (code s) (code u) e (ap code q)

pub is-pending : (s : Status) → is_pending s ≡ true → s ≡ pending
is-pending pending e = refl
is-pending claimed e = never e
is-pending woken e = never e
is-pending consumed e = never e

pub grows-refl : (b : Board) → Grows b b
grows-refl b = record {
  messages_more = omega arith;
  kept = λ n h. record { sent = refl; channel = refl };
  stays_consumed = λ n h e. (e, refl);
  matches_more = omega arith;
  matches_same = λ k h. refl;
}

pub grows-trans : (b c d : Board) → Grows b c → Grows c d → Grows b d
grows-trans b c d g h = record {
  messages_more = omega (arith, g.messages_more, h.messages_more);
  kept = λ n l. let q = h.kept n (more n l) in
      let p = g.kept n l in record { sent = q.sent ∙ p.sent; channel = q.channel ∙ p.channel };
  stays_consumed = λ n l e. let p = g.stays_consumed n l e in
      let q = h.stays_consumed n (more n l) p.0 in (q.0, q.1 ∙ p.1);
  matches_more = omega (arith, g.matches_more, h.matches_more);
  matches_same = λ k l. h.matches_same k (omega (arith, g.matches_more)) ∙ g.matches_same k l;
}
  where
    more : (n : ℕ) → n < length b.messages → n < length c.messages
    more n l = omega (arith, g.messages_more)
