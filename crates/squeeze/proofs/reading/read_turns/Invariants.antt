-- The turns still to come, after those read, give what all of them give.
use Rattle.std.proofs.Common.{◌≡◌, ◌-◌, List, [], length}
use Rattle.lists.specs.Held.{list_of}
use Rattle.numbers.specs.Field.{rest_of, whole_of}
use Rattle.squeeze.specs.declared.step.Step.{Step}
use Rattle.squeeze.specs.Sheet.{turns_left}
use Rattle.squeeze.proofs.reading.read_turns.Given as goal

abbrev pub invariant-loop : goal.invariant-loop
invariant-loop l = record {
  whole : whole_of l.fields ≡ whole_of l.fn.fields;
  goes_on : (steps : List Step) → turns_left (whole_of l.fn.fields) l.ticks steps l.count [] (rest_of l.fn.fields) ≡ turns_left (whole_of l.fn.fields) l.ticks steps (l.count - l.counter) (list_of l.turns) (rest_of l.fields);
  long : length (list_of l.turns) ≡ l.counter;
}
