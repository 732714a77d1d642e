-- What the loop keeps: the first of the pairs with p and a pose below q is found.
use Rattle.std.proofs.Common.{◌≡◌, ◌+◌, ◌-◌}
use Rattle.std.specs.List.{filter_map, range_with_len, reduce}
use Rattle.planning.specs.Nearest.{pair_of, first_of}
use Rattle.planning.proofs.nearest.nearest_with.Given as goal

abbrev pub invariant-loop-q : goal.invariant-loop-q
invariant-loop-q g l = l.best ≡ reduce first_of (filter_map (pair_of l.distances.levels.table l.set l.p) (range_with_len (l.p + 1) (l.q - (l.p + 1))))
