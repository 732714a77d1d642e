-- Each part goes on with what follows it, or comes to its fault; what is read keeps the rule, since nothing else is accepted.
use Rattle.std.proofs.Common.{◌≡◌, Ok, Err}
use Rattle.std.proofs.lemmas.Result.{err_from_is_err_and}
use Rattle.lists.specs.Held.{list_of}
use Rattle.numbers.specs.Field.{rest_of, whole_of}
use Rattle.squeeze.specs.Sheet.{squeeze_fields}
use Rattle.squeeze.proofs.Readings.{ticks_then, step_count_then, turn_count_then, steps_then, turns_then, all_then}
use Rattle.squeeze.proofs.Sheets.{fields_only}
use Rattle.squeeze.proofs.table.SqueezeTable.read.Goals as goal

pub returns-in_err-ticks : goal.returns-in_err-ticks
returns-in_err-ticks c =
    let p = err_from_is_err_and c.from_residual.result c.from_residual.ensures.1 in
    rw (p.1, p.2) (ticks_then c.args.fields c.limited.new.self (Err c.in_err-ticks.field-0.0) c.in_err-ticks.ensures.takes)

pub returns-in_err-step_count : goal.returns-in_err-step_count
returns-in_err-step_count c =
    let p = err_from_is_err_and c.from_residual-in_err-step_count.result c.from_residual-in_err-step_count.ensures.1 in
    rw (p.1, p.2) (step_count_then c.args.fields c.limited.new.self c.limited-2.new.self _ c.in_ok-ticks.ensures.takes (Err c.in_err-step_count.field-0.0) c.in_err-step_count.ensures.takes)

pub returns-in_err-turn_count : goal.returns-in_err-turn_count
returns-in_err-turn_count c =
    let p = err_from_is_err_and c.from_residual-in_err-turn_count.result c.from_residual-in_err-turn_count.ensures.1 in
    rw (p.1, p.2) (turn_count_then c.args.fields c.limited.new.self c.limited-2.new.self c.limited-3.new.self _ _ c.in_ok-ticks.ensures.takes c.in_ok-step_count.ensures.takes (Err c.in_err-turn_count.field-0.0) c.in_err-turn_count.ensures.takes)

pub returns-in_err-steps : goal.returns-in_err-steps
returns-in_err-steps c =
    let p = err_from_is_err_and c.from_residual-in_err-steps.result c.from_residual-in_err-steps.ensures.1 in
    rw (p.1, p.2) (steps_then c.args.fields c.limited.new.self c.limited-2.new.self c.limited-3.new.self _ _ c.in_ok-ticks.ensures.takes c.in_ok-step_count.ensures.takes _ c.in_ok-turn_count.ensures.takes c.read_steps.new.fields (Err c.in_err-steps.field-0.0) c.in_err-steps.ensures)

pub returns-in_err-turns : goal.returns-in_err-turns
returns-in_err-turns c =
    let p = err_from_is_err_and c.from_residual-in_err-turns.result c.from_residual-in_err-turns.ensures.1 in
    rw (p.1, p.2) (turns_then c.args.fields c.limited.new.self c.limited-2.new.self c.limited-3.new.self _ _ c.in_ok-ticks.ensures.takes c.in_ok-step_count.ensures.takes _ c.in_ok-turn_count.ensures.takes c.read_steps.new.fields _ c.in_ok-steps.ensures c.read_turns.new.fields (Err c.in_err-turns.field-0.0) c.in_err-turns.ensures)

pub returns-in_err-ended : goal.returns-in_err-ended
returns-in_err-ended c =
    let p = err_from_is_err_and c.from_residual-in_err-ended.result c.from_residual-in_err-ended.ensures.1 in
    rw (p.1, p.2) (all_then c.args.fields c.limited.new.self c.limited-2.new.self c.limited-3.new.self _ _ c.in_ok-ticks.ensures.takes c.in_ok-step_count.ensures.takes _ c.in_ok-turn_count.ensures.takes c.read_steps.new.fields _ c.in_ok-steps.ensures c.read_turns.new.fields _ (Err c.in_err-ended.field-0.0) c.in_ok-turns.ensures c.in_err-ended.ensures)

pub invariant_of-result : goal.invariant_of-result
invariant_of-result c =
    let said : squeeze_fields (whole_of c.args.fields) (rest_of c.args.fields) ≡ Ok (record { ticks = c.in_ok-ticks.ticks; steps = list_of c.in_ok-steps.steps; turns = list_of c.in_ok-turns.turns }) =
    all_then c.args.fields c.limited.new.self c.limited-2.new.self c.limited-3.new.self _ _ c.in_ok-ticks.ensures.takes c.in_ok-step_count.ensures.takes _ c.in_ok-turn_count.ensures.takes c.read_steps.new.fields _ c.in_ok-steps.ensures c.read_turns.new.fields _ (Ok c.in_ok-ended.field-0) c.in_ok-turns.ensures c.in_ok-ended.ensures in
    record { keeps = (fields_only (whole_of c.args.fields) (rest_of c.args.fields) _ said).0 }

pub returns : goal.returns
returns c =
    all_then c.args.fields c.limited.new.self c.limited-2.new.self c.limited-3.new.self _ _ c.in_ok-ticks.ensures.takes c.in_ok-step_count.ensures.takes _ c.in_ok-turn_count.ensures.takes c.read_steps.new.fields _ c.in_ok-steps.ensures c.read_turns.new.fields _ (Ok c.in_ok-ended.field-0) c.in_ok-turns.ensures c.in_ok-ended.ensures
