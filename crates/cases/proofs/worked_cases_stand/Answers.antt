use Rattle.cases.proofs.Cases.{worked}
use Rattle.cases.proofs.worked_cases_stand.Goals as goal

pub returns : goal.returns
returns c = worked
