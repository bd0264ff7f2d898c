-- The invariant; what a call owes, part by part; and that a call which pays keeps it.
use mathlib.Core.Path.{◌≡◌, ◌∙◌, sym, ap}
use mathlib.Core.Bool.{false}
use mathlib.Core.List.{List}
use Prim.Native.Nat.{ℕ, ◌<◌, ◌≤◌}
use lib.ListN.{length, get_or}
use native.Mathlib.Omega.{arith}
use Rattle.model.specs.Tables.{Table}
use Rattle.model.specs.Boards.{Board, Sender, sender_at, Match}
use Rattle.model.specs.Effects.{Change, Effect, records, value_of, apply}
use Rattle.model.specs.Holdings.{Holds}
use Rattle.model.proofs.Tests.{never}
use Rattle.model.proofs.Shares.{Shares}
use Rattle.model.proofs.Words.{is_record}
use Rattle.model.proofs.Frame.{senders-count, messages-count, shares-still}
use Rattle.model.proofs.Grows.{Lawful}
use Rattle.model.proofs.Passage.{Passage, step-passage}
use Rattle.model.proofs.Local.{SenderOk, locals-after, Full}
use Rattle.model.proofs.Holding.{Holding, HoldingKept, holding_after}
use Rattle.model.proofs.Notes.{NotesOk, NotesKept, notes-after}
use Rattle.model.proofs.Matches.{MatchesOk, MatchesKept, matches-after}
use Rattle.model.proofs.Owners.{Owners, OwnersKept, owners-after}
use Rattle.model.proofs.Obligation.{Obligation, Case, ObligationKept, Meets, Obliged, obligation-after}
use Rattle.model.proofs.Answering.{Answering, AnsweringKept, answering-after}

pub record Inv (t : Table) (b : Board) : Type 0 where
  pub senders : length b.senders ≡ 32
  pub locals : (i : ℕ) → SenderOk t b (sender_at b i)
  pub notes : NotesOk t b
  pub holding : Holding t b
  pub matches : MatchesOk b
  pub owners : Owners t b
  pub obligation : Obligation t b
  pub answering : Answering t b
  pub shares : Shares b.tallies (length b.messages)

pub record CallOwes (t : Table) (b b' : Board) (i : ℕ) (c : Change) (d : Sender) : Type 0 where
  pub passage : Passage b b' i c d
  pub count : length b'.senders ≡ length b.senders
  pub local : SenderOk t b' d
  pub holding : HoldingKept c (Holds t (sender_at b i).state) (Holds t d.state)
  pub notes : NotesKept t b' c
  pub matches : MatchesKept b b' i c d
  pub owners : NotesOk t b' → OwnersKept t b b' i c d
  pub obligation : (q : ℕ) (ns : List ℕ) → Case t b b' i c d q ns → ObligationKept t b b' i c q ns
  pub new_obliged : (q : ℕ) (ns : List ℕ) (j : ℕ) → Meets t b' q ns → j < length ns → length b.messages ≤ get_or ns j 0
      → Obliged t b' q ns
  pub answering : AnsweringKept t b b' i c d
  pub shares : Shares b'.tallies (length b'.messages)

pub call-keeps : {t : Table} {b b' : Board} {i : ℕ} {c : Change} {d : Sender} → Inv t b → CallOwes t b b' i c d
    → Inv t b'
call-keeps {t} {b} {b'} {i} {c} {d} v f = record {
  senders = f.count ∙ v.senders;
  locals = locals-after p v.locals f.local;
  notes = notes';
  holding = holding_after p v.holding f.holding;
  matches = matches-after p v.matches f.matches;
  owners = owners-after p v.owners (λ j. (v.locals j).own_in) notes' (f.owners notes');
  obligation = obligation-after p v.obligation (v.locals i) notes' f.obligation f.new_obliged;
  answering = answering-after p v.locals (f.owners notes').owning v.answering f.answering
      v.owners v.notes v.matches f.matches;
  shares = f.shares;
}
  where
    p : Passage b b' i c d
    p = f.passage

    notes' : NotesOk t b'
    notes' = notes-after f.passage v.notes f.notes

-- a match as a step records it
pub record Recorded (t : Table) (b : Board) (s : Effect) : Type 0 where
  pub number : (n : ℕ) (m : Match) → s.change ≡ records n m → value_of s.said ≡ length b.matches
  pub subject : (n : ℕ) (m : Match) → s.change ≡ records n m → (h : ℕ) × Full t b h m.chord m.messages

pub no-record : (t : Table) (b : Board) (s : Effect) → is_record s.change ≡ false → Recorded t b s
no-record t b s e = record {
  number = λ n m f. never (sym e ∙ ap is_record f);
  subject = λ n m f. never (sym e ∙ ap is_record f);
}

-- what a step of sender i owes
pub record StepOwes (t : Table) (b : Board) (i : ℕ) (s : Effect) : Type 0 where
  pub lawful : Lawful b s.change
  pub local : SenderOk t (apply b i s) s.sender
  pub holding : HoldingKept s.change (Holds t (sender_at b i).state) (Holds t s.sender.state)
  pub notes : NotesKept t (apply b i s) s.change
  pub matches : MatchesKept b (apply b i s) i s.change s.sender
  pub owners : NotesOk t (apply b i s) → OwnersKept t b (apply b i s) i s.change s.sender
  pub obligation : (q : ℕ) (ns : List ℕ) → Case t b (apply b i s) i s.change s.sender q ns
      → ObligationKept t b (apply b i s) i s.change q ns
  pub answering : AnsweringKept t b (apply b i s) i s.change s.sender
  pub recorded : Recorded t b s

-- a step adds no message, so there is nothing new to be bound to
pub step_call : (t : Table) (b : Board) (i : ℕ) (s : Effect) → i < 32 → Inv t b → StepOwes t b i s
    → CallOwes t b (apply b i s) i s.change s.sender
step_call t b i s l v f = record {
  passage = step-passage b i s (omega (arith, v.senders)) f.lawful;
  count = senders-count b i s;
  local = f.local;
  holding = f.holding;
  notes = f.notes;
  matches = f.matches;
  owners = f.owners;
  obligation = f.obligation;
  new_obliged = λ q ns j m h z. absurd (omega (arith, m.inside j h, messages-count b i s));
  answering = f.answering;
  shares = shares-still b i s v.shares;
}
