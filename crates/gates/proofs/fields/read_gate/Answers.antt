-- One gate: the fields of its set and its turn, one after the other.
use Rattle.std.proofs.Common.{arith}
use Rattle.std.proofs.lemmas.Nat.{one_shl}
use Rattle.std.proofs.lemmas.Result.{err_from_is_err_and}
use Rattle.gates.proofs.OneGate.{set_refused, turn_refused, gate_accepted}
use Rattle.gates.proofs.fields.read_gate.Goals as goal

pub returns-in_err-set : goal.returns-in_err-set
returns-in_err-set c =
    let p = err_from_is_err_and c.from_residual.result c.from_residual.ensures.1 in
    rw (p.1, p.2) (set_refused _ c.args.poses c.args.fields.now c.below.new.self c.below.new.self _ (one_shl c.args.poses 64 (omega (arith, c.requires))) c.in_err-set.ensures.takes)

pub returns-in_err-turn : goal.returns-in_err-turn
returns-in_err-turn c =
    let p = err_from_is_err_and c.from_residual-in_err-turn.result c.from_residual-in_err-turn.ensures.1 in
    rw (p.1, p.2) (turn_refused _ _ c.args.poses c.args.fields.now c.below.new.self c.below-2.new.self _ (one_shl c.args.poses 64 (omega (arith, c.requires))) c.from.ensures c.in_ok-set.ensures.takes c.below-2.new.self _ c.in_err-turn.ensures.takes)

pub returns : goal.returns
returns c =
    gate_accepted _ _ c.args.poses c.args.fields.now c.below.new.self c.below-2.new.self _ (one_shl c.args.poses 64 (omega (arith, c.requires))) c.from.ensures c.in_ok-set.ensures.takes _ c.in_ok-turn.ensures.takes
