-- The row lent is one action longer, and the others are as they were.
use Rattle.std.proofs.Common.{◌≡◌, ◌<◌, length, slice_get, Some, arith, rules}
use Rattle.lists.specs.Held.{list_of}
use Rattle.layers.proofs.SeriesRows.{row-is, keeps-after, lengthened-is}
use Rattle.layers.proofs.series_table.SeriesTable.lengthen.Goals as goal

pub unwrap-requires : goal.unwrap-requires
unwrap-requires c =
    let rows = c.args.self.now.rows in
    let r = c.unwrap-row.result.now in
    let there : slice_get (list_of rows) c.args.series ≡ Some r = search rules in
    let held = row-is rows c.args.series r there in
    search rules

pub invariant_of-self : goal.invariant_of-self
invariant_of-self c =
    let rows = c.args.self.now.rows in
    let r = c.unwrap-row.result.now in
    let there : slice_get (list_of rows) c.args.series ≡ Some r = search rules in
    let held = row-is rows c.args.series r there in
    let room : length (list_of r) < 8 = search rules in
    record { keeps = keeps-after rows c.args.series c.args.action r c.push.new.self there (search rules) (omega arith) room c.args.self.now.keeps }

pub returns : goal.returns
returns c =
    let rows = c.args.self.now.rows in
    let r = c.unwrap-row.result.now in
    let there : slice_get (list_of rows) c.args.series ≡ Some r = search rules in
    let held = row-is rows c.args.series r there in
    let room : length (list_of r) < 8 = search rules in
    lengthened-is rows c.args.series c.args.action r c.push.new.self there (search rules) (omega arith) room
