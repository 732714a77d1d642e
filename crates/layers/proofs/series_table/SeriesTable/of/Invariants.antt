-- What the loop keeps: as many rows as turns, each without actions.
use Rattle.std.proofs.Common.{◌≡◌, [], map, replicate}
use Rattle.lists.specs.Held.{list_of}
use Rattle.layers.proofs.series_table.SeriesTable.of.Given as goal

abbrev pub invariant-loop : goal.invariant-loop
invariant-loop l = map list_of (list_of l.rows) ≡ replicate l.counter []
