-- What the loop keeps: the gates read so far, and the fields after them have the others.
use Rattle.std.proofs.Common.{◌≡◌, length}
use Rattle.lists.specs.Held.{list_of}
use Rattle.gates.proofs.OneGate.{Left}
use Rattle.gates.proofs.fields.read_gates.Given as goal

abbrev pub invariant-loop : goal.invariant-loop
invariant-loop l = Left l.poses l.count l.counter l.fn.fields l.fields (list_of l.gates) × (length (list_of l.gates) ≡ l.counter)
