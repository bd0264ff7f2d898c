-- What refuses an add (rules 6.4, 9.8 and 9.9).
use Rattle.std.specs.Prelude.{Bool, ℕ, ltb, ℤ, length}
use Rattle.model.specs.Basics.{unless}
use Rattle.model.specs.Tables.{Table}
use Rattle.model.specs.Adds.{cents_ok}

-- rules 6.4, 9.8 and 9.9, by what is read: the sender's number, whether it is idle, whether its day is open, and
-- whether it has room
abbrev pub refusal_by : Table → ℕ → Bool → Bool → ℕ → ℤ → Bool → ℕ
refusal_by t i idle timely channel cents room =
    unless (ltb i 32) 8
    (unless idle 9
    (unless (ltb channel (length t.kinds)) 10
    (unless timely 19 (unless (cents_ok cents) 11 (unless room 26 0)))))
