-- The steps that do not begin above the angle end with the step that StepOf describes.
use Rattle.std.proofs.Common.{◌%◌, ◌≤◌, leb, length, rules}
use Rattle.std.specs.List.Sorted.{IsPartitionedBy}
use Rattle.std.proofs.lemmas.List.Sorted.{IsPartitionPoint-from_clause}
use borrow.Author.Tests.{tests}
use Rattle.squeeze.specs.Held.{squeeze_of}
use Rattle.squeeze.specs.Squeeze.{StepOf}
use Rattle.squeeze.specs.Valid.{keeps}
use Rattle.squeeze.proofs.Edge.{step_of_is, step_of_unique, begun_parts, begun_ends}
use Rattle.squeeze.proofs.table.SqueezeTable.step_of.Goals as goal
use Rattle.squeeze.proofs.table.SqueezeTable.step_of.Goals.{After-unwrap_or}

found : (c : After-unwrap_or) → StepOf (squeeze_of c.args.self.now).steps (c.args.angle % c.args.self.now.ticks) c.unwrap_or.result
found c =
    let t = squeeze_of c.args.self.now in
    let k = keeps c.args.self.now in
    let x = c.args.angle % c.args.self.now.ticks in
    let n = c.partition_point-begun.result in
    let parts : IsPartitionedBy (λ s. leb s.begin x) c.as_slice-steps.result.now = rw c.as_slice-steps.ensures (begun_parts t k x) in
    let few : n ≤ length t.steps = rw c.as_slice-steps.ensures at c.partition_point-begun.ensures.bound in
    begun_ends t k x n c.unwrap_or.result c.checked_sub.result few
    (rw c.as_slice-steps.ensures at (IsPartitionPoint-from_clause (λ s. leb s.begin x) c.as_slice-steps.result.now n c.partition_point-begun.ensures.partitioned parts (λ a r q h. search (rules, tests))))
    c.checked_sub.ensures
    (rw c.as_slice-steps.ensures at c.unwrap_or.ensures)

pub returns-clause-step : goal.returns-clause-step
returns-clause-step c = found c

pub returns-clause-is : goal.returns-clause-is
returns-clause-is c =
    let t = squeeze_of c.args.self.now in
    let k = keeps c.args.self.now in
    let x = c.args.angle % c.args.self.now.ticks in
    step_of_unique t k x _ _ (found c) (step_of_is t k x)

pub returns-clause-only : goal.returns-clause-only
returns-clause-only c = step_of_unique (squeeze_of c.args.self.now) (keeps c.args.self.now)
