-- What a read (rule 6.6) answers as the model's message and match, and what a sound board gives it.
use Rattle.std.specs.Prelude.{◌≡◌, true, List, ℕ, ◌+◌, ◌*◌, ◌<◌, ◌≤◌, ℤ, pos, length, get_or, take}
use Rattle.model.specs.Tables.{Table}
use Rattle.model.specs.Boards.{Message}
use Rattle.model.specs.Pools.{MatchRead}
use Rattle.model.specs.Adds.{cents_ok}
use Rattle.columns.specs.Columns.{status_of}
use Rattle.columns.specs.MatchColumns.{MatchColumns, match_in}
use Rattle.reads.specs.declared.MessageRead as DM
use Rattle.reads.specs.declared.MatchRead as DR

abbrev pub message_of : DM.MessageRead → Message
message_of r = record {
  sent = record { channel = r.channel; property = r.property; cents = r.cents; day = r.day; unit = r.unit };
  status = status_of r.status;
  match = r.matched;
  waker = r.waker;
}

abbrev pub read_of : DR.MatchRead → MatchRead
read_of r = record { chord = r.chord; messages = take r.len r.messages; cents = r.cents }

-- match k is one of the lent, of a chord of the table
pub record MatchLent (t : Table) (m : MatchColumns) (k : ℕ) : Type 0 where
  pub chord-in : k < length m.chords
  pub numbers_in : 8 * k + 8 ≤ length m.messages
  pub chord_known : get_or m.chords k 0 < length t.chords

-- up to eight places of the list, with cents in range
pub record InRange (cents : List ℤ) (ns : List ℕ) : Type 0 where
  pub few : length ns ≤ 8
  pub within : (j : ℕ) → j < length ns → get_or ns j 0 < length cents
  pub in-range : (j : ℕ) → j < length ns → cents_ok (get_or cents (get_or ns j 0) (pos 0)) ≡ true

-- match k is of the first n messages, whose cents are in range
pub record Readable (t : Table) (m : MatchColumns) (k n : ℕ) (cents : List ℤ) : Type 0 where
  pub held : MatchLent t m k
  pub cents-in : n ≤ length cents
  pub numbers-below : (j : ℕ) → j < length (match_in t m k).messages → get_or (match_in t m k).messages j 0 < n
  pub in-range : (i : ℕ) → i < n → cents_ok (get_or cents i (pos 0)) ≡ true
