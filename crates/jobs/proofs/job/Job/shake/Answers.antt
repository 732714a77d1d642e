use Rattle.jobs.proofs.Making.{shake_performed}
use Rattle.jobs.proofs.job.Job.shake.Goals as goal

pub returns : goal.returns
returns g c =
    let j = c.args.self.now in
    let e = c.reset.ensures in
    shake_performed (g.F.Feeder.motion j.feeder) (g.F.Feeder.valid j.feeder) j c.reset.new.self e.feeder e.allowed e.poses e.plan
