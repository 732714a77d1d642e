-- The fields, one after the other.
use Rattle.std.proofs.Common.{◌∙◌}
use Rattle.std.proofs.lemmas.Result.{err_from_is_err_and}
use Rattle.numbers.specs.Field.{read_of}
use Rattle.records.proofs.Steps.{fields_end}
use Rattle.records.proofs.reading.fields_in.Goals as goal

pub returns-in_err-list : goal.returns-in_err-list
returns-in_err-list c =
    let p = err_from_is_err_and c.from_residual-in_err-list.result c.from_residual-in_err-list.ensures.1 in
    let list = c.in_err-list.ensures in
    rw (p.1, p.2) (fields_end c.args.fields.now (read_of c.in_ok-poses.poses) (read_of c.in_ok-actions.actions) _ c.in_ok-poses.ensures c.in_ok-actions.ensures c.in_ok-end.ensures ∙ rw list)

pub returns : goal.returns
returns c =
    let list = c.in_ok-list.ensures in
    fields_end c.args.fields.now (read_of c.in_ok-poses.poses) (read_of c.in_ok-actions.actions) _ c.in_ok-poses.ensures c.in_ok-actions.ensures c.in_ok-end.ensures ∙ rw list
