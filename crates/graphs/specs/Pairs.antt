-- The pair ground of a feeder: the pairs of poses p < q, numbered start(q) + p, and one node more for two poses that have met.
use Rattle.std.specs.Prelude.{ℕ, zero, suc, ◌+◌, ◌-◌, cond, ◌==◌, nat_le, nat_lt}
use Rattle.feeders.specs.Motion.{Motion}
use Rattle.graphs.specs.Graph.{Graph}

-- where the pairs with the greater pose q begin; start n is n (n - 1) / 2, the number of pairs of n poses
abbrev pub start : ℕ → ℕ
start zero = 0
start (suc q) = start q + q

-- the node of the pair p < q
abbrev pub pair_node : ℕ → ℕ → ℕ
pair_node p q = start q + p

-- the greater pose of the pair at node v: the greatest q below n whose pairs begin at v or before
abbrev pub upper : ℕ → ℕ → ℕ
upper zero v = 0
upper (suc q) v = cond (nat_le (start q) v) q (upper q v)

-- the lesser pose of that pair
abbrev pub lower : ℕ → ℕ → ℕ
lower n v = v - start (upper n v)

-- the node of two poses of n, in any order: the last node where they are the same
abbrev pub node_of : ℕ → ℕ → ℕ → ℕ
node_of n p q = cond (p == q) (start n) (cond (nat_lt p q) (pair_node p q) (pair_node q p))

-- Both poses of the pair are moved; two that have met stay met.
abbrev pub pair_next : Motion → ℕ → ℕ → ℕ
pair_next m v a =
    cond (nat_lt v (start m.poses))
    (node_of m.poses (m.next (lower m.poses v) a) (m.next (upper m.poses v) a))
    (start m.poses)

abbrev pub pair_graph : Motion → Graph
pair_graph m = record { nodes = start m.poses + 1; labels = m.actions; next = pair_next m; goal = λ v. (v == start m.poses) }
