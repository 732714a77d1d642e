-- The lines served so far made the calls that led to the job, and the lines that are left make the rest of the script's.
use Rattle.std.proofs.Common.{◌≡◌, List, length}
use Rattle.histories.specs.Rules.{Plans}
use Rattle.histories.specs.declared.call.Call.{Call}
use Rattle.scripts.specs.Split.{lines_of}
use Rattle.sessions.specs.Served.{after_lines, history_of}
use Rattle.jobs.specs.Reach.{Reached}
use Rattle.play.proofs.play.Given as goal

abbrev pub invariant-loop-line : goal.invariant-loop-line
invariant-loop-line g l =
    (length l.rows ≡ length l.initial.rows)
    × (l.job.feeder ≡ l.initial.job.feeder)
    × ((h : List Call) × ((plan : Plans) × Reached (g.F.Feeder.motion l.initial.job.feeder) h plan l.job) × (after_lines (lines_of l.rest) h ≡ history_of l.script))

abbrev pub decreases-loop-line : goal.decreases-loop-line
decreases-loop-line g l = length l.rest
