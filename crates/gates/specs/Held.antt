-- What a gate row in memory holds.
use Rattle.std.specs.Prelude.{ℕ, cond, length, Ok, Err, Result, nat_lt, slice_index_or}
use Rattle.refusals.specs.declared.Refusal.{Refusal}
use Rattle.refusals.specs.declared.Refusal.TheVariants.{NoAction}
use Rattle.lists.specs.Held.{list_of}
use Rattle.gates.specs.declared.gate.Gate.{Gate}
use Rattle.gates.specs.declared.row.GateRow.{GateRow}
use Rattle.gates.specs.Gates.{Gates, idle}

abbrev pub gates_of : GateRow → Gates
gates_of r = record { poses = r.poses; gates = list_of r.gates }

-- The answer to "which gate has action a": an absent action is refused.
abbrev pub gate_at : Gates → ℕ → Result Gate Refusal
gate_at t a = cond (nat_lt a (length t.gates)) (Ok (slice_index_or t.gates a idle)) (Err NoAction)
