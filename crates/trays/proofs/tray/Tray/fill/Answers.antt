-- The kind byte, and the theorem on the format.
use Rattle.std.proofs.Common.{Ok}
use Rattle.refusals.proofs.Outcomes.{leaves_like}
use Rattle.numbers.proofs.Field.{kind_takes}
use Rattle.trays.specs.Held.{grid_of}
use Rattle.trays.specs.Sheet.{tray_fields}
use Rattle.trays.proofs.Format.{one_sheet}
use Rattle.trays.proofs.tray.Tray.fill.Goals as goal

pub returns-in_err-of_kind-clause-format : goal.returns-in_err-of_kind-clause-format
returns-in_err-of_kind-clause-format c = one_sheet

pub returns-clause-reads : goal.returns-clause-reads
returns-clause-reads c =
    leaves_like grid_of c.args.self.now c.fill_fields.new.self c.fill_fields.result (kind_takes 2 c.args.sheet.now (Ok c.in_ok-of_kind.field-0) tray_fields c.in_ok-of_kind.ensures) c.fill_fields.ensures

pub returns-clause-format : goal.returns-clause-format
returns-clause-format c = one_sheet
