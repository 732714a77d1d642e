-- What the loop keeps: the first of the rows below p is found.
use Rattle.std.proofs.Common.{◌≡◌}
use Rattle.std.specs.List.{filter_map, range_with_len, reduce}
use Rattle.planning.specs.Nearest.{row_of, first_of}
use Rattle.planning.proofs.nearest.nearest.Given as goal

abbrev pub invariant-loop-p : goal.invariant-loop-p
invariant-loop-p g l = l.best ≡ reduce first_of (filter_map (row_of l.distances.levels.table l.set) (range_with_len 0 l.p))
