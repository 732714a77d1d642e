-- What the loop keeps: the actions passed are good, so what is wrong with the list is wrong with the rest.
use Rattle.std.proofs.Common.{◌≡◌, drop}
use Rattle.jobs.specs.Checks.{first_bad}
use Rattle.jobs.proofs.checks.all_usable.Given as goal

abbrev pub invariant-loop-action : goal.invariant-loop-action
invariant-loop-action g l =
    first_bad (g.F.Feeder.motion l.feeder) l.allowed (drop l.action-index l.list) ≡ first_bad (g.F.Feeder.motion l.feeder) l.allowed l.list
