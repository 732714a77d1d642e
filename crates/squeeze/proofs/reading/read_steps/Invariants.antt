-- The steps still to come, after those read, give what all of them give.
use Rattle.std.proofs.Common.{◌≡◌, ℕ, ◌+◌, [], length}
use Rattle.lists.specs.Held.{list_of}
use Rattle.numbers.specs.Field.{rest_of, whole_of}
use Rattle.squeeze.specs.Sheet.{steps_left}
use Rattle.squeeze.proofs.reading.read_steps.Given as goal

abbrev pub invariant-loop-left : goal.invariant-loop-left
invariant-loop-left l = record {
  whole : whole_of l.fields ≡ whole_of l.fn.fields;
  goes_on : (k : ℕ) → steps_left (whole_of l.fn.fields) l.ticks k l.count [] (rest_of l.fn.fields) ≡ steps_left (whole_of l.fn.fields) l.ticks k l.left (list_of l.steps) (rest_of l.fields);
  long : length (list_of l.steps) + l.left ≡ l.count;
}
