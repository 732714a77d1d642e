-- What the loop keeps: `here` is where the actions passed bring the pose.
use Rattle.std.proofs.Common.{◌≡◌, ◌<◌, take}
use Rattle.feeders.specs.Motion.{brings}
use Rattle.feeders.proofs.carry.carried.Given as goal

abbrev pub invariant-loop-action : goal.invariant-loop-action
invariant-loop-action g l =
    let m = g.F.Feeder.motion l.feeder in
    (l.here < m.poses) × (l.here ≡ brings m l.pose (take l.action-index l.list))
