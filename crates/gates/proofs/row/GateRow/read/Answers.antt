-- The fields of a row, one after the other.
use Rattle.std.proofs.Common.{Ok, Err, ◌∙◌}
use Rattle.std.proofs.lemmas.Result.{err_from_is_err_and}
use Rattle.numbers.specs.Field.{rest_of, whole_of}
use Rattle.gates.proofs.OneGate.{poses_taken, count_taken, counts_taken, row_taken}
use Rattle.gates.proofs.Sheets.{fields_only}
use Rattle.gates.proofs.row.GateRow.read.Goals as goal

pub returns-in_err-poses : goal.returns-in_err-poses
returns-in_err-poses c =
    let p = err_from_is_err_and c.from_residual.result c.from_residual.ensures.1 in
    rw (p.1, p.2) (poses_taken c.args.fields c.limited.new.self (Err _) c.in_err-poses.ensures.takes)

pub returns-in_err-count : goal.returns-in_err-count
returns-in_err-count c =
    let p = err_from_is_err_and c.from_residual-in_err-count.result c.from_residual-in_err-count.ensures.1 in
    let first = c.in_ok-poses.ensures.takes in
    rw (p.1, p.2) (poses_taken c.args.fields c.limited.new.self (Ok _) first ∙ count_taken (whole_of c.args.fields) _ c.limited.new.self c.limited-2.new.self (Err _) first.1 c.in_err-count.ensures.takes)

pub returns-in_err-gates : goal.returns-in_err-gates
returns-in_err-gates c =
    let p = err_from_is_err_and c.from_residual-in_err-gates.result c.from_residual-in_err-gates.ensures.1 in
    let counts = counts_taken c.args.fields c.limited.new.self c.limited-2.new.self _ _ c.in_ok-poses.ensures.takes c.in_ok-count.ensures.takes in
    rw (p.1, p.2) (counts.0 ∙ c.in_err-gates.ensures)

pub returns-in_err-ended : goal.returns-in_err-ended
returns-in_err-ended c =
    let p = err_from_is_err_and c.from_residual-in_err-ended.result c.from_residual-in_err-ended.ensures.1 in
    rw (p.1, p.2) (row_taken c.args.fields c.limited.new.self c.limited-2.new.self c.read_gates.new.fields _ _ c.in_ok-gates.gates (Err _) c.in_ok-poses.ensures.takes c.in_ok-count.ensures.takes c.in_ok-gates.ensures c.in_err-ended.ensures)

pub invariant_of-result : goal.invariant_of-result
invariant_of-result c =
    let is = row_taken c.args.fields c.limited.new.self c.limited-2.new.self c.read_gates.new.fields _ _ c.in_ok-gates.gates (Ok tt) c.in_ok-poses.ensures.takes c.in_ok-count.ensures.takes c.in_ok-gates.ensures c.in_ok-ended.ensures in
    record { keeps = (fields_only (whole_of c.args.fields) (rest_of c.args.fields) _ is).0 }

pub returns : goal.returns
returns c = row_taken c.args.fields c.limited.new.self c.limited-2.new.self c.read_gates.new.fields _ _ c.in_ok-gates.gates (Ok tt) c.in_ok-poses.ensures.takes c.in_ok-count.ensures.takes c.in_ok-gates.ensures c.in_ok-ended.ensures
