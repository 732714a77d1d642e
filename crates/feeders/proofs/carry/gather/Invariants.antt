-- What the loop keeps: the poses below `pose` are gathered.
use Rattle.std.proofs.Common.{◌≡◌}
use Rattle.feeders.specs.Image.{gathered}
use Rattle.feeders.proofs.carry.gather.Given as goal

abbrev pub invariant-loop-pose : goal.invariant-loop-pose
invariant-loop-pose g l = l.reached ≡ gathered (g.F.Feeder.motion l.feeder) l.set l.list l.pose
