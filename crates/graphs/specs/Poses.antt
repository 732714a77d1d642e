-- The pose ground of a feeder: its poses, with one of them for the goal.
use Rattle.std.specs.Prelude.{ℕ, ◌==◌}
use Rattle.feeders.specs.Motion.{Motion}
use Rattle.graphs.specs.Graph.{Graph}

abbrev pub pose_graph : Motion → ℕ → Graph
pose_graph m q = record { nodes = m.poses; labels = m.actions; next = m.next; goal = λ p. (p == q) }
