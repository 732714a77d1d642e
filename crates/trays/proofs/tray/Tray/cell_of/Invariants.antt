-- The poses left and those of the cells passed make up the pose.
use Rattle.std.proofs.Common.{◌≡◌, ◌+◌}
use Rattle.trays.specs.Held.{grid_of}
use Rattle.trays.specs.Tray.{pose_at}
use Rattle.trays.proofs.tray.Tray.cell_of.Given as goal

abbrev pub invariant-loop-index : goal.invariant-loop-index
invariant-loop-index l = l.left + pose_at (grid_of l.self).cells l.index ≡ l.pose
