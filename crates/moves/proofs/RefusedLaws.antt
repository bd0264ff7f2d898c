-- A call that is refused by itself alters nothing; one that is not has a caller.
use Rattle.std.proofs.Common.{◌≡◌, ◌≢◌, ℕ, zero, suc, ◌<◌, Bool, true, false, ltb, List, length, get_or, refl, arith}
use Rattle.std.proofs.Common.{tests, ltb-true, ltb-false}
use Rattle.std.proofs.lemmas.Bool.{lt-leb, le-leb}
use Rattle.model.specs.Basics.{unless}
use Rattle.model.specs.Layout.{table_of}
use Rattle.model.specs.Tables.{Table}
use Rattle.model.specs.Boards.{Board, Sent}
use Rattle.model.specs.Effects.{Refused, refused}
use Rattle.model.specs.Shares.{has_room}
use Rattle.model.specs.Closes.{close_refusal}
use Rattle.model.specs.Pools.{Call, adds, steps, closes, answer_to}
use Rattle.model.specs.Steps.{step_by}
use Rattle.state.specs.Views.{sender_steps}
use Rattle.boards.specs.declared.Call as DC
use Rattle.boards.specs.declared.Call.TheVariants as C
use Rattle.boards.specs.Boards.{HeldBoard, zero_sender}
use Rattle.boards.specs.Calls.{Held, call_in}
use Rattle.boards.proofs.SenderLaws.{nth-sender}
use Rattle.refusals.specs.Calls.{board_of, refusal_of, caller_of, Plays}
use Rattle.refusals.proofs.CallLaws.{plays-nothing}
use Rattle.steps.proofs.StateSteps.{refused-is}
use Rattle.adds.proofs.RefusalLaws.{refusal_is}
use Rattle.moves.specs.Refused.{call_refusal}

-- what an add that is not refused has
pub unrefused : (t : Table) (b : HeldBoard) (keys : List ℕ) (i : ℕ) (x : Sent) → call_refusal t b keys (adds i x) ≡ 0
    → (i < 32) × (x.channel < length t.kinds) × (has_room b.tallies i ≡ true)
unrefused t b keys i x e = (grind (arith, tests), grind (arith, tests), grind (arith, tests))

-- a call that is not refused has a caller
pub caller-in : (t : Table) (b : HeldBoard) (keys : List ℕ) (c : DC.Call) → call_refusal t b keys (call_in c) ≡ 0
    → caller_of (call_in c) < 32
caller-in t b keys (C.Add i x) e = grind (arith, tests)
caller-in t b keys (C.Step i) e = grind (arith, tests)

module _ (s : List ℕ) (h : Held) where
  abbrev t : Table
  t = table_of s

  abbrev b : Board
  b = board_of s h

  -- a step is refused for its sender's number, or by its sender
  step-refused : (i f : ℕ) (u v : Bool) → ltb i 32 ≡ u → sender_steps (get_or h.board.senders i zero_sender) ≡ v
      → suc f ≡ unless u 8 (unless v 13 0) → step_by t b i ≡ refused (suc f)
  unfolding step_by
  step-refused i f true true l p e = absurd (omega (arith, e))
  step-refused i f true false l p e =
      let d = get_or h.board.senders i zero_sender in
      rw (lt-leb 32 i (ltb-true i 32 l), e, ← nth-sender t h.board.senders i) (refused-is t b d p)
  step-refused i f false v l p e = rw (le-leb 32 i (ltb-false i 32 l), e)

  refused-answer : (k : Call) (f : ℕ) → suc f ≡ call_refusal t h.board h.columns.keys k
      → answer_to t b k ≡ record { said = Refused (suc f); board = b }
  unfolding close_refusal
  refused-answer (adds i x) f e = rw (refusal_is t h.board h.columns h.matches i x, ← e)
  refused-answer (steps i) f e = rw (step-refused i f _ _ refl refl e)
  refused-answer (closes day) f e = rw (← e)

  pub refused-call : refusal_of s h ≡ 0 → (k : Call) (f : ℕ) → f ≡ call_refusal t h.board h.columns.keys k → f ≢ 0
      → Plays s h k (Refused f) h
  refused-call z k zero e n = absurd (n refl)
  refused-call z k (suc f) e n = let r = refused-answer k f e in plays-nothing s h k z (Refused (suc f)) (rw r) (rw r)
