-- `reads::is_quiet` meets its contract: the code's test of each sender is the model's.
use Rattle.std.proofs.Common.{not, rules, tests, ◌∙◌}
use Rattle.std.proofs.lemmas.Iterator.{YieldsList-from_slice}
use Rattle.std.proofs.lemmas.Iterator.Search.{all_from_yields_List}
use Rattle.state.specs.Views.{sender_steps}
use Rattle.reads.proofs.QuietLaws.{quiet_is}
use Rattle.reads.proofs.is_quiet.Goals as goal

pub returns : goal.returns
returns c =
    λ t. all_from_yields_List (λ d. not (sender_steps d)) _ _ _ c.all.ensures.ran
    (YieldsList-from_slice c.args.senders cc) (λ x b q k. search (rules, tests)) ∙ quiet_is t c.args.senders
