-- The merged table extends the first, so that a schedule on the first's own channels gets the same answers.
use mathlib.Core.Path.{◌≡◌, refl, ap, ◌∙◌, subst}
use mathlib.Core.Bool.{true, false}
use mathlib.Core.List.{List, [], ◌∷◌, ◌++◌}
use Prim.Native.Nat.{ℕ, zero, suc, ◌-◌, ◌+◌}
use borrow.Author.Tests.{ltb-true, not-true}
use lib.Dec.{ltb}
use lib.ListN.{length, get_or, length-append, get_or-append}
use lib.Seq.{get_or-append-add}
use native.Mathlib.Omega.{arith}
use Rattle.model.specs.Basics.{is_in, every}
use Rattle.model.specs.Tables.{Chord, Table, no_chord, is_sync}
use Rattle.model.specs.Boards.{empty_board}
use Rattle.model.specs.Pools.{Call, adds, steps, closes, match_reads}
use Rattle.model.proofs.Tests.{both, neither}
use Rattle.model.proofs.SoundKept.{empty-facts, after-facts}
use Rattle.model.proofs.AcceptedChords.{TableOk}
use Rattle.merging.specs.Merges.{new_kinds, merged_chords, merged_table, named_by, own_channel, adds_to, SameSchedule}
use Rattle.merging.proofs.Extends.{Extends, Own}
use Rattle.merging.proofs.SameSchedule.{CallsOwn, calls_same, reads_same}

unnamed-at : (x : ℕ) (cs : List Chord) (j : ℕ) → named_by x cs ≡ false → is_in x (get_or cs j no_chord).channels ≡ false
unnamed-at x [] j e = refl
unnamed-at x (c ∷ cs) zero e = (neither {t = is_in x c.channels} e).0
unnamed-at x (c ∷ cs) (suc j) e = unnamed-at x cs j (neither {t = is_in x c.channels} e).1

module _ (t u : Table) (ms : List ℕ) (ok : TableOk t) where
  pub extends : Extends t (merged_table t u ms)
  unfolding merged_table is_sync
  extends = record {
    chords_same = λ r l. get_or-append t.chords (merged_chords t u ms) no_chord r l;
    chords_more = omega (arith, length-append t.chords (merged_chords t u ms));
    sync_same = λ x l. rw (get_or-append t.kinds (new_kinds ms u.kinds) 0 x l);
    kinds_more = omega (arith, length-append t.kinds (new_kinds ms u.kinds));
    kinds_some = ok.kinds_some;
    channel-in = ok.channel-in;
  }

  pub own_is : (x : ℕ) → own_channel t u ms x ≡ true → Own t (merged_table t u ms) x
  unfolding merged_table own_channel
  own_is x e =
      let p = both {t = ltb x (length t.kinds)} e in
      record {
        in_first = ltb-true x (length t.kinds) p.0;
        unnamed = λ r l. let z : length t.chords + (r - length t.chords) ≡ r = omega arith in
            subst (λ (q : ℕ). is_in x (get_or (t.chords ++ merged_chords t u ms) q no_chord).channels ≡ false) z
            (rw (get_or-append-add t.chords (merged_chords t u ms) (r - length t.chords) no_chord)
            (unnamed-at x (merged_chords t u ms) (r - length t.chords) (not-true _ p.1)));
      }

  calls-own : (cs : List Call) → every (adds_to (own_channel t u ms)) cs ≡ true → CallsOwn t (merged_table t u ms) cs
  calls-own [] e = tt
  calls-own (adds i x ∷ cs) e =
      let p = both {t = own_channel t u ms x.channel} e in (own_is x.channel p.0, calls-own cs p.1)
  calls-own (steps i ∷ cs) e = (tt, calls-own cs e)
  calls-own (closes day ∷ cs) e = (tt, calls-own cs e)

  pub same-schedule : (rests : List ℕ) (cs : List Call) → every (adds_to (own_channel t u ms)) cs ≡ true
      → SameSchedule t (merged_table t u ms) rests cs
  same-schedule rests cs e =
      let r = calls_same t (merged_table t u ms) extends cs (empty_board rests) (empty-facts t rests)
      (λ n l. absurd (omega arith)) (calls-own cs e) in
      record {
        answers = r.0;
        board = r.1;
        reads = ap (match_reads (merged_table t u ms)) r.1
            ∙ reads_same t (merged_table t u ms) extends _ (after-facts t rests cs);
      }
