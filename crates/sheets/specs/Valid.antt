-- Why whatever a sheet describes is a feeder.
use Rattle.feeders.specs.Motion.{Valid}
use Rattle.squeeze.specs.Held.{squeeze_of}
use Rattle.squeeze.specs.Valid as squeeze
use Rattle.trays.specs.Valid as trays
use Rattle.gates.specs.Valid as gates
use Rattle.sheets.specs.Described.{motion_of}
use Rattle.sheets.specs.Held.{described_by}
use Rattle.sheets.specs.declared.feeder.SheetFeeder.{SheetFeeder}
use Rattle.sheets.specs.declared.feeder.SheetFeeder.TheVariants.{Squeeze, Tray, Gates}

pub sheet_valid : (f : SheetFeeder) → Valid (motion_of (described_by f))
sheet_valid (Squeeze t) = squeeze.squeeze_valid (squeeze_of t) (squeeze.keeps t)
sheet_valid (Tray t) = trays.held_valid t
sheet_valid (Gates t) = gates.row_valid t
