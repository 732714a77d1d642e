use Rattle.histories.proofs.Deciding.{determined}
use Rattle.histories.proofs.rules_determine.Goals as goal

pub returns : goal.returns
returns c = determined
