-- The feeder lies in the job all along.
use Rattle.std.proofs.Common.{◌≡◌}
use Rattle.jobs.proofs.Running.{Ran}
use Rattle.jobs.proofs.calls.run.Given as goal

abbrev pub invariant-loop-i : goal.invariant-loop-i
invariant-loop-i g l =
    (l.job.feeder ≡ l.initial.job.feeder) × Ran (g.F.Feeder.motion l.initial.job.feeder) l.calls l.initial.answers l.answers l.i l.job
