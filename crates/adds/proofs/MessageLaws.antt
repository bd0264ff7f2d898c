-- A message written past the last of n is one message more; those before it are as they were.
use mathlib.Core.Path.{◌≡◌}
use mathlib.Core.List.{List, [], ◌∷◌, ◌++◌}
use Prim.Native.Nat.{ℕ, suc, ◌+◌, ◌<◌}
use native.Mathlib.Omega.{arith}
use lib.ListN.{length, get_or, set}
use Rattle.std.proofs.lemmas.Grind.{common_steps}
use Rattle.model.specs.Boards.{Sent}
use Rattle.model.specs.Adds.{new_message}
use Rattle.columns.specs.Columns.{Columns, days_at, message_in, messages_from}
use Rattle.columns.proofs.ListFrom.{added-from}
use Rattle.boards.specs.Layout.{close_day_at}

-- columns long enough for message n
pub record Room (c : Columns) (n : ℕ) : Type 0 where
  pub few : n < 1024
  pub channels : n < length c.channels
  pub keys : days_at + n < length c.keys
  pub cents : n < length c.cents
  pub statuses : n < length c.statuses
  pub matched : n < length c.matched
  pub wakers : n < length c.wakers
  pub units : n < length c.units

-- the keys with those of message n: its property and its day
abbrev pub keyed : List ℕ → ℕ → ℕ → ℕ → List ℕ
keyed keys n property day = set (set keys n property) (days_at + n) day

pub close-kept : (keys : List ℕ) (n property day : ℕ) → n < 1024
    → get_or (keyed keys n property day) close_day_at 0 ≡ get_or keys close_day_at 0
close-kept keys n property day h = grind (arith, common_steps)

-- the columns with message n written
abbrev pub written : Columns → ℕ → Sent → Columns
written c n x = record {
  channels = set c.channels n x.channel;
  keys = keyed c.keys n x.property x.day;
  cents = set c.cents n x.cents;
  statuses = set c.statuses n 0;
  matched = set c.matched n 0;
  wakers = set c.wakers n 0;
  units = set c.units n x.unit;
}

module _ (c : Columns) (n : ℕ) (x : Sent) where
  earlier : n < 1024 → (j : ℕ) → j < n → message_in (written c n x) j ≡ message_in c j
  unfolding message_in
  earlier l j h = grind (arith, common_steps)

  at_end : Room c n → message_in (written c n x) n ≡ new_message x
  unfolding message_in
  at_end h = grind (arith, common_steps)

  pub message-added : Room c n
      → messages_from (written c n x) 0 (suc n) ≡ messages_from c 0 n ++ (new_message x ∷ [])
  message-added h = added-from (message_in c) (message_in (written c n x)) n (new_message x) (earlier h.few) (at_end h)
