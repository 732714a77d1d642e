-- The number has at most two digits.
use Rattle.std.proofs.Common.{◌<◌, arith, rules}
use Rattle.refusals.specs.Numbers.{number_of}
use Rattle.refusals.proofs.Range.{number_of_le}
use Rattle.refusals.proofs.Printed.{two_padded}
use Rattle.refusals.proofs.RefusalDisplay.fmt.Goals as goal

pub returns-clause-writes : goal.returns-clause-writes
returns-clause-writes g c =
    let small : number_of c.args.self.now < 100 = omega (arith, number_of_le c.args.self.now) in
    let padded = two_padded (number_of c.args.self.now) small in
    search rules
