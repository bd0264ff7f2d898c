-- Laws of the channels that are read of the messages, and of the messages to tell.
use mathlib.Core.Path.{◌≡◌, refl}
use mathlib.Core.List.{List, [], ◌∷◌}
use Rattle.std.specs.List.{filter}
use Prim.Native.Nat.{ℕ, ◌<◌}
use native.Mathlib.Omega.{arith}
use lib.ListN.{length, get_or-eq_default}
use Rattle.std.proofs.lemmas.Grind.{common_steps}
use Rattle.model.specs.Tables.{Table}
use Rattle.model.specs.Boards.{Board, no_message, channel_of}
use Rattle.model.specs.Steps.{to_tell}
use Rattle.model.specs.Layout.{table_refusal, table_of}
use Rattle.model.proofs.AcceptedChords.{table-ok}
use Rattle.state.proofs.Sizes.{chord_few}
use Rattle.senders.specs.Seen.{Seen, Known, channel_in, is_told}

-- the channel that is read is the board's
pub seen-channel : {b : Board} {n m : ℕ} {ch : List ℕ} → Seen b n m ch → (v : ℕ) → channel_of b v ≡ channel_in ch n v
unfolding channel_in
seen-channel {b} {n} {m} {ch} sees v =
    let e = sees.channel v in
    let d = get_or-eq_default b.messages no_message {n = v} in
    grind (arith, common_steps)

-- the messages to tell are those that pass the test
pub tells_is : (t : Table) (b : Board) (n m : ℕ) (ch : List ℕ) → Seen b n m ch → (h : ℕ) (xs : List ℕ)
    → to_tell t b.messages h xs ≡ filter (is_told t ch n h) xs
tells_is t b n m ch sees h [] = refl
tells_is t b n m ch sees h (x ∷ xs) =
    let ih = tells_is t b n m ch sees h xs in
    let e = seen-channel sees x in
    grind (arith, common_steps)

module _ (s : List ℕ) (accepts : table_refusal s ≡ 0) where
  pub channel_known : (n : ℕ) (ch : List ℕ) → Known (table_of s) n ch → (v : ℕ)
      → channel_in ch n v < length (table_of s).kinds
  unfolding channel_in
  channel_known n ch k v =
      let i = k.known v in
      let o = (table-ok s accepts).kinds_some in
      grind (arith, common_steps)

pub ruleset places = (chord_few, channel_known, tells_is)
