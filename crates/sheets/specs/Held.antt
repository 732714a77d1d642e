-- What a feeder that was read from a sheet holds.
use Rattle.squeeze.specs.Held.{squeeze_of}
use Rattle.trays.specs.Held.{grid_of}
use Rattle.gates.specs.Held.{gates_of}
use Rattle.sheets.specs.Described.{Described, jaws, tray, row}
use Rattle.sheets.specs.declared.feeder.SheetFeeder.{SheetFeeder}
use Rattle.sheets.specs.declared.feeder.SheetFeeder.TheVariants.{Squeeze, Tray, Gates}

abbrev pub described_by : SheetFeeder → Described
described_by (Squeeze t) = jaws (squeeze_of t)
described_by (Tray t) = tray (grid_of t)
described_by (Gates t) = row (gates_of t)
