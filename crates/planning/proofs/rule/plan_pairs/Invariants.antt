-- What the loop keeps: the plan made so far is a beginning of the one that the rule gives. Each round takes a pose away.
use Rattle.plans.specs.Held.{list_of}
use Rattle.planning.specs.Round.{size, Round}
use Rattle.planning.proofs.rule.plan_pairs.Given as goal

abbrev pub invariant-loop-here : goal.invariant-loop-here
invariant-loop-here g l = Round (g.F.Feeder.motion l.feeder) l.permitted l.set l.here (list_of l.made)

abbrev pub decreases-loop-here : goal.decreases-loop-here
decreases-loop-here g l = size l.here
