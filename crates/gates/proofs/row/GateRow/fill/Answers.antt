-- The kind byte in front of the fields.
use Rattle.std.proofs.Common.{Ok, Err, refl}
use Rattle.std.proofs.lemmas.Result.{err_from_is_err_and}
use Rattle.refusals.proofs.Outcomes.{leaves_like}
use Rattle.numbers.proofs.Field.{kind_takes}
use Rattle.gates.specs.Held.{gates_of}
use Rattle.gates.specs.Sheet.{gate_fields}
use Rattle.gates.proofs.Sheets.{one_sheet}
use Rattle.gates.proofs.row.GateRow.fill.Goals as goal

pub returns-in_err-of_kind : goal.returns-in_err-of_kind
returns-in_err-of_kind c =
    let p = err_from_is_err_and c.from_residual.result c.from_residual.ensures.1 in
    let kind = kind_takes 3 c.args.sheet.now (Err _) gate_fields c.in_err-of_kind.ensures in
    record { reads = rw (p.1, p.2) (kind, refl); format = one_sheet }

pub returns : goal.returns
returns c =
    let kind = kind_takes 3 c.args.sheet.now (Ok c.in_ok-of_kind.field-0) gate_fields c.in_ok-of_kind.ensures in
    record { reads = leaves_like gates_of c.args.self.now c.fill_fields.new.self c.fill_fields.result kind c.fill_fields.ensures; format = one_sheet }
