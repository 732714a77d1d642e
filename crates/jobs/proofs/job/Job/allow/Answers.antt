use Rattle.std.proofs.Common.{◌∙◌, arith}
use Rattle.jobs.proofs.Making.{allow_absent, allow_performed}
use Rattle.jobs.proofs.job.Job.allow.Goals as goal

pub returns-then-action-actions : goal.returns-then-action-actions
returns-then-action-actions g c =
    let j = c.args.self.now in
    allow_absent (g.F.Feeder.motion j.feeder) (g.F.Feeder.valid j.feeder) j c.args.action (omega arith)

pub returns : goal.returns
returns g c =
    let j = c.args.self.now in
    let e = c.reset.ensures in
    allow_performed (g.F.Feeder.motion j.feeder) (g.F.Feeder.valid j.feeder) j c.reset.new.self c.args.action (omega arith) e.feeder (e.allowed ∙ c.with_number-self.ensures) e.poses e.plan
