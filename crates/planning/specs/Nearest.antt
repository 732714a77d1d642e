-- The nearest pair of a set, as it is looked for in the table of distances.
use Rattle.std.specs.Prelude.{ℕ, ◌+◌, ◌-◌, ◌<◌, T, cond, ◌&&◌, List, Option, Some, None}
use Rattle.std.specs.List.{filter_map, range_with_len, reduce}
use Rattle.std.specs.Option.{option_map}
use Rattle.std.specs.Ordering.{nat_cmp, ordering_then, min_by_ordering}
use Rattle.feeders.specs.Motion.{Motion}
use Rattle.feeders.specs.Sets.{has}
use Rattle.graphs.specs.Distance.{NoDistance}
use Rattle.graphs.specs.Pairs.{pair_node, pair_graph}
use Rattle.graphs.specs.PairRule as rule
use Rattle.grounds.specs.Reach.{entry_of}
use Rattle.planning.specs.declared.nearest.Pair.{Pair}

-- the pair of s, if it has an entry
abbrev pub pair_of : List ℕ → ℕ → ℕ → ℕ → Option Pair
pair_of table s p q = cond (has s p && has s q) (option_map (λ d. record { away = d; p = p; q = q }) (entry_of table (pair_node p q))) None

-- the first of two pairs: the nearer one, then the one with the lower p, then the lower q
abbrev pub first_of : Pair → Pair → Pair
first_of a b = min_by_ordering (ordering_then (nat_cmp a.away b.away) (ordering_then (nat_cmp a.p b.p) (nat_cmp a.q b.q))) a b

-- the first of two pairs that may be none
abbrev pub nearer_of : Option Pair → Option Pair → Option Pair
nearer_of None b = b
nearer_of (Some a) None = Some a
nearer_of (Some a) (Some b) = Some (first_of a b)

-- the first of the pairs with the lesser pose p, and of all pairs
abbrev pub row_of : List ℕ → ℕ → ℕ → Option Pair
row_of table s p = reduce first_of (filter_map (pair_of table s p) (range_with_len (p + 1) (32 - (p + 1))))

abbrev pub nearest_of : List ℕ → ℕ → Option Pair
nearest_of table s = reduce first_of (filter_map (row_of table s) (range_with_len 0 32))

-- What this is in the words of distances: the nearest pair of s, or that no pair of s has a distance.
abbrev pub Found : Motion → ℕ → ℕ → Option Pair → Type 0
Found m perm s (Some b) = rule.Nearest m perm s b.p b.q b.away
Found m perm s None = (p q : ℕ) → p < q → T (has s p) → T (has s q) → NoDistance (pair_graph m) perm (pair_node p q)
