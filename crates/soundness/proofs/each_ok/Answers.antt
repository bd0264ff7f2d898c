-- `soundness::each_ok` meets its contract: a match that is not sound is a no.
use Rattle.std.proofs.Common.{sym, ◌∙◌}
use Rattle.model.proofs.Parts.{to_end}
use Rattle.soundness.proofs.Each.{each-fails}
use Rattle.soundness.proofs.each_ok.Goals as goal

pub returns-then-not-match_ok : goal.returns-then-not-match_ok
returns-then-not-match_ok c =
    let e = rw to_end at c.match_ok.ensures in
    sym (each-fails _ _ c.loop-i.i c.loop-i-test.true (sym e ∙ c.if-not-match_ok.true))
