-- A claim on one record of a lent list (rules 4.4 and 6.8).
use Rattle.std.specs.Prelude.{Bool, ◌&&◌, List, ℕ, pos, ltb, length, get_or, set}
use Rattle.model.specs.Basics.{pick}
use Rattle.model.specs.Boards.{is_pending}
use Rattle.columns.specs.Columns.{status_of}
use Rattle.records.specs.declared.Message.{Message}

-- stands for a record past the end
abbrev pub no_record : Message
no_record = record { channel = 0; property = 0; cents = pos 0; day = 0; unit = 0; status = 0; matched = 0; waker = 0 }

-- rule 4.4: the status, 1, and nothing else of the record
abbrev pub claimed_of : Message → Message
claimed_of x = record {
  channel = x.channel;
  property = x.property;
  cents = x.cents;
  day = x.day;
  unit = x.unit;
  status = 1;
  matched = x.matched;
  waker = x.waker;
}

-- rule 4.4: the list has message n, and it is pending
abbrev pub claimable : List Message → ℕ → Bool
claimable ms n = ltb n (length ms) && is_pending (status_of (get_or ms n no_record).status)

-- rule 6.8: the list after the claim of message n, one record altered or none
abbrev pub claimed_at : List Message → ℕ → List Message
claimed_at ms n = pick (claimable ms n) (set ms n (claimed_of (get_or ms n no_record))) ms
