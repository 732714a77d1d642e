-- What comes of all the fields comes of the cells read and the rest.
use Rattle.std.proofs.Common.{◌≡◌, ◌-◌, ◌*◌, ◌≤◌, [], take, length}
use Rattle.numbers.specs.Field.{rest_of, whole_of}
use Rattle.trays.specs.Sheet.{cells_left}
use Rattle.trays.specs.Tray.{frees}
use Rattle.trays.proofs.reading.read_cells.Given as goal

abbrev pub invariant-loop-cell : goal.invariant-loop-cell
invariant-loop-cell l = record {
  left : cells_left (whole_of l.fn.fields) l.rows l.columns (l.rows * l.columns) [] (rest_of l.fn.fields) ≡ cells_left (whole_of l.fn.fields) l.rows l.columns (l.rows * l.columns - l.cell-index) (take l.cell-index l.cell-items) (rest_of l.fields);
  whole : whole_of l.fields ≡ whole_of l.fn.fields;
  counted : l.free ≡ frees (take l.cell-index l.cell-items);
  few : l.free ≤ 32;
  long : length l.cell-items ≡ l.rows * l.columns;
}
