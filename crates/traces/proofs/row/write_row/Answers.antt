-- The row, part by part.
use Rattle.traces.proofs.Rows.{row_written}
use Rattle.traces.proofs.row.write_row.Goals as goal

pub returns : goal.returns
returns c =
    rw (c.copy_from_slice.ensures.after, c.copy_from_slice-2.ensures.after, c.mark.ensures, c.hex_digits.ensures)
    (row_written c.args.set c.args.row.now c.requires c.args.action)
