-- What a tray holds.
use Rattle.std.specs.Prelude.{◌*◌, take}
use Rattle.trays.specs.declared.tray.Tray.{Tray}
use Rattle.trays.specs.Tray.{Grid}

abbrev pub grid_of : Tray → Grid
grid_of t = record { rows = t.rows; columns = t.columns; cells = take (t.rows * t.columns) t.cells }
