-- The kind byte goes before; the format is a theorem of its own.
use Rattle.std.proofs.Common.{Ok}
use Rattle.refusals.proofs.Outcomes.{leaves_like}
use Rattle.numbers.proofs.Field.{kind_takes}
use Rattle.squeeze.specs.Held.{squeeze_of}
use Rattle.squeeze.specs.Sheet.{squeeze_fields}
use Rattle.squeeze.proofs.Sheets.{one_sheet}
use Rattle.squeeze.proofs.table.SqueezeTable.fill.Goals as goal

pub returns-in_err-of_kind-clause-format : goal.returns-in_err-of_kind-clause-format
returns-in_err-of_kind-clause-format c = one_sheet

pub returns-clause-reads : goal.returns-clause-reads
returns-clause-reads c =
    leaves_like squeeze_of c.args.self.now c.fill_fields.new.self c.fill_fields.result (kind_takes 1 c.args.sheet.now (Ok c.in_ok-of_kind.field-0) squeeze_fields c.in_ok-of_kind.ensures) c.fill_fields.ensures

pub returns-clause-format : goal.returns-clause-format
returns-clause-format c = one_sheet
