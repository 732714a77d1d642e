-- What read_in promises, where the whole is the rest.
use Rattle.numbers.proofs.Spelling.{one_spelling}
use Rattle.numbers.proofs.read.Goals as goal

pub returns-clause-spelling : goal.returns-clause-spelling
returns-clause-spelling c = one_spelling
