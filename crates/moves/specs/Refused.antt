-- What refuses a call by itself, on a board that the first tests accept.
use Rattle.std.specs.Prelude.{List, ℕ, suc, leb, ltb, get_or}
use Rattle.model.specs.Basics.{unless}
use Rattle.model.specs.Tables.{Table}
use Rattle.model.specs.Shares.{has_room}
use Rattle.model.specs.Pools.{Call, adds, steps, closes}
use Rattle.state.specs.Views.{idle_is, sender_steps}
use Rattle.boards.specs.Boards.{HeldBoard, closed_in, zero_sender}
use Rattle.adds.specs.Refusals.{refusal_by}

-- rules 6.4, 6.5, 9.8 and 9.9: 8 to 11, 19 or 26 for an add, 8 or 13 for a step, 20 for a close; 0 for none
abbrev pub call_refusal : Table → HeldBoard → List ℕ → Call → ℕ
call_refusal t b keys (adds i x) =
    refusal_by t i (idle_is (get_or b.senders i zero_sender).state) (leb (closed_in b keys) x.day) x.channel
    x.cents (has_room b.tallies i)
call_refusal t b keys (steps i) = unless (ltb i 32) 8 (unless (sender_steps (get_or b.senders i zero_sender)) 13 0)
call_refusal t b keys (closes day) = unless (leb (closed_in b keys) (suc day)) 20 0
