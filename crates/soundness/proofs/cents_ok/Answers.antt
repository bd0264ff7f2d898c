-- `soundness::cents_ok` meets its contract: the amounts are in range where those of each eight are, and what is left.
use Rattle.std.proofs.Common.{◌≡◌, ◌∙◌, ◌/◌, ◌*◌, ap, length, drop, rules, refl, true}
use Rattle.std.proofs.lemmas.Iterator.{YieldsList-from_slice}
use Rattle.std.proofs.lemmas.Iterator.Search.{all_from_yields_List}
use Rattle.model.specs.Basics.{every}
use Rattle.model.specs.Adds.{cents_ok}
use Rattle.soundness.proofs.Each.{folded}
use Rattle.soundness.proofs.Chunks.{by_chunks}
use Rattle.soundness.proofs.cents_ok.Goals as goal

pub returns : goal.returns
returns c =
    let a = c.args.cents.now in
    let each = folded cents_ok cents_ok (λ _. refl) true in
    let front : c.all.result ≡ every (every cents_ok) c.as_chunks.result.0.now
    = all_from_yields_List (every cents_ok) _ _ _ c.all.ensures.ran (YieldsList-from_slice c.as_chunks.result.0.now cc)
    (λ x b q k. search (rules, each x.now)) in
    let back : c.all_in_range.result ≡ every cents_ok (drop (length a / 8 * 8) a)
    = c.all_in_range.ensures ∙ each c.as_chunks.result.1.now ∙ ap (every cents_ok) c.as_chunks.ensures.back in
    rw (front, c.as_chunks.ensures.front, back) (by_chunks cents_ok 8 (length a / 8) a)
