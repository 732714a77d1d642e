-- What the loop keeps: the entries that are left bring `here` where all bring the pose.
use Rattle.std.proofs.Common.{◌≡◌, ◌<◌, drop}
use Rattle.feeders.specs.Motion.{brings}
use Rattle.layers.specs.Series.{present}
use Rattle.layers.proofs.series.perform.Given as goal

abbrev pub invariant-loop-entry : goal.invariant-loop-entry
invariant-loop-entry g l =
    let m = g.F.Feeder.motion l.feeder in
    (l.here < m.poses) × (brings m l.here (present m.actions (drop l.entry-index l.series)) ≡ brings m l.pose (present m.actions l.series))
