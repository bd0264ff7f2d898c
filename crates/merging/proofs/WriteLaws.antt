-- What the code of a merge rests on: the merged counts by the two tables' own, and each refusal in its order.
use mathlib.Core.Path.{◌≡◌, refl, ap, sym, ◌∙◌}
use mathlib.Core.Logic.{◌≢◌}
use mathlib.Core.Bool.{Bool, true, false, ◌&&◌}
use mathlib.Core.List.{List, [], ◌∷◌, ◌++◌, map}
use Prim.Native.Nat.{ℕ, zero, suc, ◌+◌, ◌*◌, ◌<◌, ◌≤◌}
use borrow.Author.Tests.{ne_eqb, leb-true, le-leb}
use lib.Dec.{leb}
use lib.ListN.{length, get_or, length-append, length-map}
use native.Mathlib.Nat.{not-suc-le-zero}
use native.Mathlib.Omega.{arith}
use Rattle.model.specs.Tables.{Chord, Table, no_chord}
use Rattle.model.specs.Layout.{table_of, table_refusal, written_members, write_refusal, written}
use Rattle.model.proofs.Tests.{both, refused-first}
use Rattle.model.proofs.AcceptedChords.{TableOk}
use Rattle.merging.specs.Merges.{targets, new_kinds, merged_chord, merged_chords, merged_table, counts_fit, map_ok}
use Rattle.merging.specs.Merges.{merged_of, merge_refusal, merge_write_refusal, merge_written}
use Rattle.merging.proofs.MergedAccepted.{merge-accepted}

-- chords of at most eight channels each
abbrev pub Few : List Chord → Type 0
Few cs = (q : ℕ) → q < length cs → length (get_or cs q no_chord).channels ≤ 8

pub merged-few : (ts : List ℕ) (cs : List Chord) → Few cs → Few (map (merged_chord ts) cs)
merged-few ts [] f q l = absurd (not-suc-le-zero l)
merged-few ts (c ∷ cs) f zero l = omega (arith, f 0 (omega arith), length-map c.channels (λ x. get_or ts x 0))
merged-few ts (c ∷ cs) f (suc q) l = merged-few ts cs (λ j h. f (suc j) (omega arith)) q (omega arith)

few-members : (cs : List Chord) → Few cs → length (written_members cs) ≤ 8 * length cs
few-members [] f = omega arith
few-members (c ∷ cs) f =
    omega (
      arith,
      length-append c.channels (written_members cs),
      f 0 (omega arith),
      few-members cs (λ q l. f (suc q) (omega arith)),
    )

members-append : (cs ds : List Chord) → length (written_members (cs ++ ds))
    ≡ length (written_members cs) + length (written_members ds)
members-append [] ds = omega arith
members-append (c ∷ cs) ds =
    omega (
      arith,
      length-append c.channels (written_members (cs ++ ds)),
      length-append c.channels (written_members cs),
      members-append cs ds,
    )

module _ (t u : Table) (ms : List ℕ) (tok : TableOk t) (uok : TableOk u) where
  abbrev two_fit : Bool
  two_fit =
      leb (length t.kinds + length (new_kinds ms u.kinds)) 16 && leb (length t.chords + length u.chords) 32

  -- chords within their limit have members within theirs, so two sums decide 18
  pub fits-by-two : counts_fit (merged_table t u ms) ≡ two_fit
  unfolding counts_fit merged_table
  fits-by-two =
      rw (length-append t.kinds (new_kinds ms u.kinds), chords-now)
      (ap (λ (x : Bool). leb (length t.kinds + length (new_kinds ms u.kinds)) 16 && x)
      (go (leb (length t.chords + length u.chords) 32) refl))
    where
      chords-now : length (t.chords ++ merged_chords t u ms) ≡ length t.chords + length u.chords
      chords-now =
          omega (
            arith,
            length-append t.chords (merged_chords t u ms),
            length-map u.chords (merged_chord (targets (length t.kinds) ms)),
          )

      go : (v : Bool) → leb (length t.chords + length u.chords) 32 ≡ v
          → (v && leb (length (written_members (t.chords ++ merged_chords t u ms))) 256) ≡ v
      go false p = refl
      go true p =
          le-leb (length (written_members (t.chords ++ merged_chords t u ms))) 256
          (omega (
            arith,
            leb-true (length t.chords + length u.chords) 32 p,
            members-append t.chords (merged_chords t u ms),
            few-members t.chords tok.chord_few,
            few-members (merged_chords t u ms)
                (merged-few (targets (length t.kinds) ms) u.chords uok.chord_few),
            length-map u.chords (merged_chord (targets (length t.kinds) ms)),
          ))

  -- the room that accepted counts leave
  pub fits-room : counts_fit (merged_table t u ms) ≡ true
      → (length t.kinds + length (new_kinds ms u.kinds) ≤ 16) × (length t.chords + length u.chords ≤ 32)
  fits-room e =
      let p = both {t = leb (length t.kinds + length (new_kinds ms u.kinds)) 16} (sym fits-by-two ∙ e) in
      (leb-true _ _ p.0, leb-true _ _ p.1)

-- a merge that is not refused is a write of the merged table
module _ (s z ms out : List ℕ) (e : merge_refusal s z ms ≡ 0) where
  pub write-refusal-is : merge_write_refusal s z ms out ≡ write_refusal (merged_of s z ms) out
  unfolding merge_write_refusal write_refusal
  write-refusal-is = rw (e, (merge-accepted s z ms e).0)

  pub written_is : merge_written s z ms out ≡ written (merged_of s z ms) out
  unfolding merge_written written
  written_is = rw write-refusal-is

-- each refusal in its order, with the buffer kept
module _ (s z ms out : List ℕ) where
  pub record Refuses (n : ℕ) : Type 0 where
    pub number : n ≡ merge_write_refusal s z ms out
    pub kept : out ≡ merge_written s z ms out

  refuses : (n : ℕ) → n ≢ 0 → n ≡ merge_refusal s z ms → Refuses n
  unfolding merge_write_refusal merge_written
  refuses n p e =
      let w : n ≡ merge_write_refusal s z ms out = rw (← e) (refused-first n _ p) in
      record { number = w; kept = rw (← w, ne_eqb n 0 p) }

  pub first_refused : table_refusal s ≢ 0 → Refuses (table_refusal s)
  unfolding merge_refusal
  first_refused p = refuses (table_refusal s) p (refused-first (table_refusal s) _ p)

  module _ (a : table_refusal s ≡ 0) where
    pub second_refused : table_refusal z ≢ 0 → Refuses (table_refusal z)
    unfolding merge_refusal
    second_refused p = refuses (table_refusal z) p (rw a (refused-first (table_refusal z) _ p))

    module _ (b : table_refusal z ≡ 0) where
      pub map_refused : map_ok (table_of s) (table_of z) ms ≡ false → Refuses 17
      unfolding merge_refusal
      map_refused e = refuses 17 (λ q. absurd (omega arith)) (rw (a, b, e))

      module _ (m : map_ok (table_of s) (table_of z) ms ≡ true) where
        pub counts_refused : counts_fit (merged_of s z ms) ≡ false → Refuses 18
        unfolding merge_refusal
        counts_refused e = refuses 18 (λ q. absurd (omega arith)) (rw (a, b, m, e))

        pub none_refused : counts_fit (merged_of s z ms) ≡ true → merge_refusal s z ms ≡ 0
        unfolding merge_refusal
        none_refused e = rw (a, b, m, e)
