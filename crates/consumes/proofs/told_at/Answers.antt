-- `consumes::told_at` meets its contract: what the chain yields are the messages that pass the test.
use Rattle.std.proofs.Common.{sym, ◌∙◌, rules, tests}
use Rattle.std.proofs.lemmas.Iterator.{YieldsList-from_slice}
use Rattle.std.proofs.lemmas.Iterator.Adapters.{option_map_id}
use Rattle.std.proofs.lemmas.Iterator.Consumers.{nth_from_yields_List, YieldsList-at}
use Rattle.std.proofs.lemmas.Iterator.Consumers.{YieldsList-from_copied, YieldsList-from_filter}
use Rattle.std.proofs.lemmas.Option.{slice_get-get_or}
use Rattle.std.specs.List.{filter}
use Rattle.model.specs.Layout.{table_of}
use Rattle.consumes.specs.Holds.{is_told}
use Rattle.consumes.proofs.told_at.Goals as goal

pub returns : goal.returns
returns c =
    let a = c.args in
    let test = is_told (table_of a.table.now) a.channels.now a.subject in
    sym (option_map_id c.nth.result)
    ∙ nth_from_yields_List c.nth.result c.nth.new.self a.k (rw c.from.ensures at c.nth.ensures.ran)
    (YieldsList-from_filter _ test
    (YieldsList-at c.filter.ensures.source (YieldsList-from_copied
    (YieldsList-at c.copied.ensures.source (YieldsList-from_slice a.chosen.now cc))))
    c.filter.ensures.closure (λ x r q k. search (rules, tests)))
    ∙ slice_get-get_or (filter test a.chosen.now) a.k 0 c.requires.there
