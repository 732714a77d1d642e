-- What was read group by group is what number_at says.
use Rattle.std.proofs.Common.{sym, rules}
use Rattle.refusals.specs.Outcomes.{Gives}
use Rattle.refusals.proofs.Outcomes.{gives_like}
use Rattle.numbers.specs.Field.{read_of}
use Rattle.numbers.specs.Number.{number_at}
use Rattle.numbers.proofs.Field.{number_fault_refusal}
use Rattle.numbers.proofs.Reading.{read_by-number_at}
use Rattle.numbers.proofs.read_in.Goals as goal

pub returns : goal.returns
returns c =
    let read : Gives read_of (number_at c.args.rest.now) c.read_groups.result = gives_like read_of c.read_groups.result (sym (read_by-number_at c.args.rest.now)) c.read_groups.ensures in
    record { reads = search (rules, number_fault_refusal) }
