-- Each byte is a cell, or the fault at that byte.
use Rattle.std.proofs.Common.{◌+◌, ◌-◌, ◌*◌, ◌<◌, Ok, Err, ap, ◌∙◌, take, length, length-set, arith}
use Rattle.std.proofs.lemmas.Result.{err_from_is_err_and}
use Rattle.numbers.specs.Field.{rest_of, whole_of}
use Rattle.trays.specs.Sheet.{cells_left, spell_cell}
use Rattle.trays.proofs.Cellwise.{cell_takes, cell_stored, cell_counted, cell_few}
use Rattle.trays.proofs.reading.read_cells.Goals as goal

pub returns-in_err-cell : goal.returns-in_err-cell
returns-in_err-cell c =
    let l = c.loop-cell in
    let p = err_from_is_err_and c.from_residual.result c.from_residual.ensures.1 in
    rw (p.1, p.2)
    (l.invariant.left ∙ cell_takes (whole_of c.args.fields) c.args.rows c.args.columns (c.args.rows * c.args.columns) l.cell-index l.free (take l.cell-index l.cell-items) l.fields (Err c.in_err-cell.field-0.0) (omega arith) l.invariant.counted l.invariant.whole c.in_err-cell.ensures)

pub loop-cell-preserved : goal.loop-cell-preserved
loop-cell-preserved c =
    let l = c.loop-cell in
    let x = c.in_ok-cell.field-0 in
    let n = c.args.rows * c.args.columns in
    let inside : l.cell-index < length l.cell-items = omega arith in
    record {
      left = l.invariant.left ∙ cell_takes (whole_of c.args.fields) c.args.rows c.args.columns n l.cell-index l.free (take l.cell-index l.cell-items) l.fields (Ok (record { value = spell_cell x; rest = rest_of c.read_cell.new.fields })) (omega arith) l.invariant.counted l.invariant.whole c.in_ok-cell.ensures.0
          ∙ ap (λ cs. cells_left (whole_of c.args.fields) c.args.rows c.args.columns (n - (l.cell-index + 1)) cs (rest_of c.read_cell.new.fields)) (cell_stored l.cell-items l.cell-index x inside);
      whole = c.in_ok-cell.ensures.1 ∙ l.invariant.whole;
      counted = rw c.from-free.ensures (cell_counted l.cell-items l.cell-index l.free x inside l.invariant.counted);
      few = rw c.from-free.ensures (cell_few l.free (whole_of l.fields) (rest_of l.fields) (rest_of c.read_cell.new.fields) x c.in_ok-cell.ensures.0 l.invariant.few);
      long = length-set l.cell-items l.cell-index x ∙ l.invariant.long;
    }
