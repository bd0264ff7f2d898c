-- The lines of the report, one after another, are the model's report; and parts put together are the whole: a caller
-- that goes on at `next` until it is the count prints all of it.
use mathlib.Core.Path.{◌≡◌, refl, ap, ◌∙◌}
use mathlib.Core.List.{List, [], ◌∷◌, ◌++◌, append-nil}
use Prim.Native.Nat.{ℕ, suc, ◌≤◌}
use lib.ListN.{length, take}
use lib.Seq.{take-length}
use Rattle.model.specs.Tables.{Table}
use Rattle.model.specs.Boards.{Board, Message}
use Rattle.model.specs.Pools.{MatchRead, match_reads, quiet}
use Rattle.model.specs.Printing.{match_line, quiet_line}
use Rattle.model.specs.Sessions.{match_lines, open_lines, report_text}
use Rattle.reports.specs.Parts.{message_line, numbered, report_lines, all_lines, between}
use Rattle.reports.proofs.PartLaws.{joined-append, parts-on}

match-lines : (k : ℕ) (ms : List MatchRead) → all_lines (numbered match_line k ms) ≡ match_lines k ms
match-lines k [] = refl
match-lines k (m ∷ ms) = ap (λ r. match_line k m ++ r) (match-lines (suc k) ms)

open-lines : (n : ℕ) (xs : List Message) → all_lines (numbered message_line n xs) ≡ open_lines n xs
open-lines n [] = refl
open-lines n (x ∷ xs) = ap (λ r. message_line n x ++ r) (open-lines (suc n) xs)

module _ (t : Table) (b : Board) where
  pub report-joined : all_lines (report_lines t b) ≡ report_text t b
  unfolding report_lines report_text
  report-joined =
      let ms = numbered match_line 0 (match_reads t b) in
      let xs = numbered message_line 0 b.messages in
      let q = quiet_line (quiet b) in
      joined-append ms (xs ++ (q ∷ []))
      ∙ ap (λ r. r ++ all_lines (xs ++ (q ∷ []))) (match-lines 0 (match_reads t b))
      ∙ ap (λ r. match_lines 0 (match_reads t b) ++ r)
      (joined-append xs (q ∷ []) ∙ ap (λ r. r ++ (q ++ [])) (open-lines 0 b.messages)
      ∙ ap (λ r. open_lines 0 b.messages ++ r) (append-nil q))

  -- what is printed so far, and the next part
  pub report-goes-on : (n m : ℕ) → n ≤ m
      → all_lines (take n (report_lines t b)) ++ all_lines (between n m (report_lines t b))
      ≡ all_lines (take m (report_lines t b))
  report-goes-on n m h = parts-on (report_lines t b) n m h

  pub report-whole : all_lines (take (length (report_lines t b)) (report_lines t b)) ≡ report_text t b
  report-whole = ap all_lines (take-length (report_lines t b)) ∙ report-joined
