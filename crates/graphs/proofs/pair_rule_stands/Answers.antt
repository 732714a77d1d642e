-- The laws of the pair rule.
use Rattle.graphs.proofs.PairRules.{pair_laws}
use Rattle.graphs.proofs.pair_rule_stands.Goals as goal

pub returns : goal.returns
returns c = pair_laws
