-- What the ways of the pose grounds of a feeder are good for.
use Rattle.std.specs.Prelude.{◌≡◌, ℕ, ◌-◌, ◌<◌, ◌≤◌, List, length, ◌≢◌}
use Rattle.feeders.specs.Motion.{Motion, brings}
use Rattle.graphs.specs.Distance.{NoDistance, Way, AllUsable}
use Rattle.graphs.specs.Poses.{pose_graph}
use Rattle.graphs.specs.Pairs.{pair_graph}

-- Over every feeder and every set of permitted actions.
pub record PoseLaws (m : Motion) (perm : ℕ) : Type 0 where
  -- a way has permitted actions only, and brings its pose to the goal
  pub ends : (from goal : ℕ) (w : List ℕ) → from < m.poses → goal < m.poses → Way (pose_graph m goal) perm from w → AllUsable (pair_graph m) perm w × (brings m from w ≡ goal)
  -- short: of n poses it has at most n - 1 actions
  pub short : (from goal : ℕ) (w : List ℕ) → from < m.poses → goal < m.poses → Way (pose_graph m goal) perm from w → length w ≤ m.poses - 1
  -- where there is no distance, no list of permitted actions, of any length, brings the pose to the goal
  pub never : (from goal : ℕ) (w : List ℕ) → from < m.poses → goal < m.poses → NoDistance (pose_graph m goal) perm from → AllUsable (pair_graph m) perm w → brings m from w ≢ goal
