use Rattle.histories.proofs.Sureness.{rules_are_sure}
use Rattle.histories.proofs.rules_are_sure.Goals as goal

pub returns : goal.returns
returns c = rules_are_sure
