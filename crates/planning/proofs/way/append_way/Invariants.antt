-- What the loop keeps: the way up to `here` is appended. Each turn appends one label, and the plan has room.
use Rattle.std.proofs.Common.{◌-◌, length}
use Rattle.plans.specs.Held.{list_of}
use Rattle.planning.specs.Walk.{Walking}
use Rattle.planning.proofs.way.append_way.Given as goal

abbrev pub invariant-loop-label : goal.invariant-loop-label
invariant-loop-label g l = Walking (g.G.Ground.graph l.distances.levels.ground.now) l.distances.levels.permitted l.node l.here (list_of l.initial.plan) (list_of l.plan)

abbrev pub decreases-loop-label : goal.decreases-loop-label
decreases-loop-label g l = 16384 - length (list_of l.plan)
