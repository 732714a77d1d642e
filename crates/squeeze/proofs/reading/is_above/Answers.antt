-- The last rest is that of the steps read.
use Rattle.std.proofs.Common.{arith}
use Rattle.std.proofs.lemmas.Grind.{common_steps}
use Rattle.squeeze.proofs.Rule.{follows_none, follows_last}
use Rattle.squeeze.proofs.reading.is_above.Goals as goal

pub returns : goal.returns
returns c = grind (arith, common_steps, follows_none c.args.steps.now c.args.begin, follows_last c.args.steps.now c.args.begin)
