-- The library's word for the same.
use Rattle.std.proofs.Common.{nat_lt, rules, tests, ◌∙◌}
use Rattle.std.proofs.lemmas.Iterator.{YieldsList-from_slice}
use Rattle.std.proofs.lemmas.Iterator.Search.{all_from_yields_List}
use Rattle.feeders.proofs.Sets.{list_all_below}
use Rattle.feeders.proofs.bits.all_below.Goals as goal

pub returns : goal.returns
returns c =
    all_from_yields_List (λ a. nat_lt a c.args.limit) _ _ _ c.all.ensures.ran (YieldsList-from_slice c.args.list.now cc) (λ x b q k. search (rules, tests))
    ∙ list_all_below c.args.limit c.args.list.now
